-- The bytes spell no part, or a part of another generation, or one whose slot is emptied.
use Rattle.std.proofs.Common.{arith}
use Rattle.clone_state.specs.Reading.{message_is}
use Rattle.clone_state.specs.Slots.{slots_of}
use Rattle.clone_state.proofs.Coming.{none_forgotten, one_forgotten, other_forgotten, fits_slot}
use Rattle.clone_state.proofs.assembly.Assembly.forget.Goals as goal

pub returns-in_default : goal.returns-in_default
returns-in_default c = none_forgotten c.args.self.now _ c.args.bytes.now c.self.view_is c.in_default.ensures

pub clear-requires : goal.clear-requires
clear-requires c =
    let inside =
    (fits_slot c.self.inside.drives c.self.inside.first c.self.inside.later c.args.bytes.now (message_is c.in-Some.part)
    c.self.invariant (λ i. omega (arith, c.type_inv.bytes i)) c.in-Some.ensures).1.inside in
    omega (arith, inside)

pub returns-then-part-self : goal.returns-then-part-self
returns-then-part-self c =
    one_forgotten c.args.self.now _ c.args.bytes.now (message_is c.in-Some.part)
    (slots_of c.clear.new.first.items c.clear.new.later.items) c.self.view_is c.in-Some.ensures c.if-part-self.true
    c.clear.ensures.slots

pub returns-else-part-self : goal.returns-else-part-self
returns-else-part-self c =
    other_forgotten c.args.self.now _ c.args.bytes.now (message_is c.in-Some.part) c.self.view_is c.in-Some.ensures
    c.if-part-self.false
