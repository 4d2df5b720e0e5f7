use Rattle.std.proofs.Common.{◌∙◌}
use Rattle.std.proofs.lemmas.Result.{IfOk-weaker}
use Rattle.disk_file.proofs.Blank.{blank_is}
use Rattle.disk_file.proofs.opening.blank_image.Goals as goal

pub returns : goal.returns
returns c = IfOk-weaker c.zeros.result _ _ (λ image is. is ∙ blank_is) c.zeros.ensures
