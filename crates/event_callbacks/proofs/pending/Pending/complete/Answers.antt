-- What the search found is what the map has, and the slot that gives it up removes it from the map.
use Rattle.std.proofs.Common.{refl}
use Rattle.event_callbacks.proofs.Slots.{operation_at-IsAt, operation_at-IsNowhere}
use Rattle.event_callbacks.proofs.SlotChanges.{operations_of-gives}
use Rattle.event_callbacks.proofs.pending.Pending.complete.Goals as goal

pub returns-in_default-clause-answer : goal.returns-in_default-clause-answer
returns-in_default-clause-answer c =
    rw (← c.self.view_is, operation_at-IsNowhere _ _ c.in_default.ensures.absent) refl

pub returns-in_default-clause-after : goal.returns-in_default-clause-after
returns-in_default-clause-after c =
    rw (← c.self.view_is, operation_at-IsNowhere _ _ c.in_default.ensures.absent) refl

pub returns-clause-answer : goal.returns-clause-answer
returns-clause-answer c =
    let found = c.in-Some.ensures.found in
    let slot = found.slot in
    let value = c.remove-operation.ensures.value in
    rw (← c.self.view_is, operation_at-IsAt _ c.self.invariant.once _ _ found) (cc)

pub returns-clause-after : goal.returns-clause-after
returns-clause-after c =
    let found = c.in-Some.ensures.found in
    let once = c.self.invariant.once in
    let gone = operations_of-gives _ _ _ found.op once c.remove-operation.ensures.updates found.slot in
    rw (← c.self.view_is, operation_at-IsAt _ once _ _ found, gone, found.name) refl
