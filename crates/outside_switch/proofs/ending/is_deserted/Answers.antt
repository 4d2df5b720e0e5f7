-- Whoever is out has no machine.
use Rattle.std.proofs.Common.{sym, ◌∙◌}
use Rattle.outside_switch.proofs.Deserted.{none_has}
use Rattle.outside_switch.proofs.ending.is_deserted.Goals as goal

pub returns-clause-none : goal.returns-clause-none
returns-clause-none c is = none_has c.args.left c.args.lines.now (sym c.are_out.ensures ∙ is)
