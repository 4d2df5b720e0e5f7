use Rattle.std.proofs.Common.{sym, ◌∙◌}
use Rattle.clone_state.proofs.Decided.{part_is}
use Rattle.clone_state.proofs.reading.first_part.part_with.Goals as goal

pub returns : goal.returns
returns c = part_is c.args.fields c.args.disk c.requires (c.has_all.ensures ∙ sym c.has_all-2.ensures)
