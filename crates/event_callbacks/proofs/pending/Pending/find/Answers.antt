-- The slot that the search found has what the map has; if it found none, the map has nothing.
use Rattle.std.proofs.Common.{sym, ◌∙◌}
use Rattle.event_callbacks.proofs.Slots.{operation_at-IsAt, operation_at-IsNowhere}
use Rattle.event_callbacks.proofs.pending.Pending.find.Goals as goal

pub returns-in_err-key-clause-value : goal.returns-in_err-key-clause-value
returns-in_err-key-clause-value c =
    rw (c.from_residual.ensures, ← c.self.view_is) (sym (operation_at-IsNowhere _ _ c.in_err-key.ensures.absent))

pub returns-clause-value : goal.returns-clause-value
returns-clause-value c =
    let found = c.in_ok-key.ensures.found in
    rw (c.get.ensures, ← c.self.view_is) (found.slot ∙ sym (operation_at-IsAt _ c.self.invariant.once _ _ found))

pub returns-clause-name : goal.returns-clause-name
returns-clause-name c =
    let found = c.in_ok-key.ensures.found in
    rw (c.get.ensures, found.slot) found.name
