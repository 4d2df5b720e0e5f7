-- The line is the last one.
use Rattle.std.proofs.Common.{◌∙◌, ap, arith, refl}
use Rattle.outside_switch.specs.Goes.{first_number}
use Rattle.outside_switch.proofs.switch.Switch.add.Goals as goal

pub returns-clause-ok : goal.returns-clause-ok
returns-clause-ok g c = (
  c.new.result,
  c.new.ensures.from,
  c.new.ensures.to,
  record {
    number = c.new.ensures.number ∙ c.first_number.ensures ∙ ap first_number (omega arith);
    lines = c.in_ok-push.ensures.items;
    devices = refl;
  },
)
