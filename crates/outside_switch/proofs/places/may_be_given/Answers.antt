-- The place has the number, or no place has it.
use Rattle.std.proofs.Common.{inl, inr, sym, ◌∙◌}
use Rattle.outside_switch.proofs.Numbers.{none_given}
use Rattle.outside_switch.proofs.places.may_be_given.Goals as goal

pub returns-then-is_number : goal.returns-then-is_number
returns-then-is_number c = λ yes. inl (c.is_number.ensures c.if-is_number.true)

pub returns : goal.returns
returns c = λ free. inr (c.is_spare.ensures c.if-not-is_spare.false, none_given c.args.lines.now c.args.generation (sym c.is_free.ensures ∙ free))
