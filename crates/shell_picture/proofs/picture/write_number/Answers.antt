use Rattle.std.proofs.Common.{rules}
use Rattle.std.proofs.Output.{has_written_of_eq}
use Rattle.shell_picture.proofs.Numbers.{in_six}
use Rattle.shell_picture.proofs.picture.write_number.Goals as goal

pub returns : goal.returns
returns g c plain ok = has_written_of_eq _ _ _ _ _ (in_six c.args.event) (search rules)
