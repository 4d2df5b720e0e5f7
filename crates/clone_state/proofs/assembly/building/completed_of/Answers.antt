-- The numbers of each table follow those of the tables before it.
use Rattle.std.proofs.Common.{ℕ, List, ◌++◌, None, get_or, ap, ◌∙◌}
use Rattle.clone_state.specs.Slots.{numbers_at}
use Rattle.clone_state.proofs.Made.{numbers_next}
use Rattle.clone_state.proofs.assembly.building.completed_of.Goals as goal

pub loop-slot-preserved : goal.loop-slot-preserved
loop-slot-preserved c =
    let i : ℕ = c.loop-slot.slot-index in
    c.in_ok-append_numbers.ensures.ok
    ∙ ap (λ (xs : List ℕ). xs ++ numbers_at (get_or c.args.tables.now i None)) c.loop-slot.invariant
    ∙ numbers_next c.args.tables.now i None c.loop-slot-test.true
