-- The slot that takes the operation adds it to the map, and the rest of the room that is claimed is still there.
use Rattle.std.proofs.Common.{arith, refl}
use Rattle.event_callbacks.proofs.SlotChanges.{IsNamedOnce-takes, operations_of-takes}
use Rattle.event_callbacks.proofs.pending.Pending.issue.Goals as goal

pub invariant_of-self-2 : goal.invariant_of-self-2
invariant_of-self-2 c =
    let insert = c.in_ok-insert.ensures in
    let absent = rw (← c.self.view_is) at c.requires in record {
      once = IsNamedOnce-takes _ _ _ _ c.self.invariant.once insert.updates insert.was_vacant absent;
      room = omega (arith, insert.len, insert.had_room);
    }

pub returns-clause-ok : goal.returns-clause-ok
returns-clause-ok c =
    let insert = c.in_ok-insert.ensures in
    let absent = rw (← c.self.view_is) at c.requires in
    let added = operations_of-takes _ _ _ _ c.self.invariant.once insert.updates insert.was_vacant absent in
    rw (← c.self.view_is, c.saturating_sub-self-inside.ensures, added) refl
