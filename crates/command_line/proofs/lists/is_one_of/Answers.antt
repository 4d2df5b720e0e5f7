-- The names are compared as they are.
use Rattle.std.proofs.Common.{◌∙◌, sym}
use Rattle.std.specs.Prelude.{bytes_eq}
use Rattle.command_line.proofs.Pieces.{any_of_map}
use Rattle.command_line.proofs.lists.is_one_of.Goals as goal

pub returns : goal.returns
returns c = c.contains.ensures.value ∙ sym (any_of_map (λ name. bytes_eq name c.args.word.now) (λ name. name.now) c.args.names.now)
