use Rattle.std.proofs.Common.{length, ap, rules, arith, refl}
use Rattle.log_channel.proofs.HeldEntries.{holds_nothing}
use Rattle.log_channel.proofs.receiver.Receiver.new.Goals as goal

pub invariant_of-result : goal.invariant_of-result
invariant_of-result c = record {
  first_generation = search rules;
  generation = omega arith;
  held = omega arith;
  kept = let none = (holds_nothing c.new.result c.new.ensures).1 in omega (arith, ap length none);
  block = (holds_nothing c.new.result c.new.ensures).0;
}

pub returns : goal.returns
returns c = let none = (holds_nothing c.new.result c.new.ensures).1 in rw none refl
