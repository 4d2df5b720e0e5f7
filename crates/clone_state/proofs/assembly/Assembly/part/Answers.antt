-- The bytes spell no part, or a part of another generation, or one whose slot it takes.
use Rattle.std.proofs.Common.{arith}
use Rattle.clone_state.specs.Reading.{message_is}
use Rattle.clone_state.specs.Slots.{slots_of}
use Rattle.clone_state.proofs.Coming.{fits_slot, none_came, one_came, other_came}
use Rattle.clone_state.proofs.assembly.Assembly.part.Goals as goal

pub returns-in_default-clause-answer : goal.returns-in_default-clause-answer
returns-in_default-clause-answer c =
    (none_came c.args.self.now _ c.args.bytes.now c.self.view_is c.in_default.ensures).0

pub returns-in_default-clause-after : goal.returns-in_default-clause-after
returns-in_default-clause-after c =
    (none_came c.args.self.now _ c.args.bytes.now c.self.view_is c.in_default.ensures).1

pub returns-then-part-self-clause-answer : goal.returns-then-part-self-clause-answer
returns-then-part-self-clause-answer c =
    (other_came c.args.self.now _ c.args.bytes.now (message_is c.in-Some.part) c.self.view_is c.in-Some.ensures
    c.if-part-self.true).0

pub returns-then-part-self-clause-after : goal.returns-then-part-self-clause-after
returns-then-part-self-clause-after c =
    (other_came c.args.self.now _ c.args.bytes.now (message_is c.in-Some.part) c.self.view_is c.in-Some.ensures
    c.if-part-self.true).1

pub keep-requires-clause-room : goal.keep-requires-clause-room
keep-requires-clause-room c =
    (fits_slot c.self.inside.drives c.self.inside.first c.self.inside.later c.args.bytes.now (message_is c.in-Some.part)
    c.self.invariant (λ i. omega (arith, c.type_inv.bytes i)) c.in-Some.ensures).0

pub keep-requires-clause-fits : goal.keep-requires-clause-fits
keep-requires-clause-fits c =
    (fits_slot c.self.inside.drives c.self.inside.first c.self.inside.later c.args.bytes.now (message_is c.in-Some.part)
    c.self.invariant (λ i. omega (arith, c.type_inv.bytes i)) c.in-Some.ensures).1

pub returns-clause-answer : goal.returns-clause-answer
returns-clause-answer c =
    (one_came c.args.self.now _ c.args.bytes.now (message_is c.in-Some.part)
    (slots_of c.keep.new.first.items c.keep.new.later.items) c.keep.result c.self.view_is c.in-Some.ensures
    c.if-part-self.false c.keep.ensures.new c.keep.ensures.slots).0

pub returns-clause-after : goal.returns-clause-after
returns-clause-after c =
    (one_came c.args.self.now _ c.args.bytes.now (message_is c.in-Some.part)
    (slots_of c.keep.new.first.items c.keep.new.later.items) c.keep.result c.self.view_is c.in-Some.ensures
    c.if-part-self.false c.keep.ensures.new c.keep.ensures.slots).1
