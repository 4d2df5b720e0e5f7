-- Each page follows the bytes of those before it.
use Rattle.std.proofs.Common.{ℕ, List, ◌++◌, None, get_or, ap, ◌∙◌}
use Rattle.clone_state.specs.Slots.{bytes_at}
use Rattle.clone_state.proofs.Made.{bytes_next}
use Rattle.clone_state.proofs.assembly.building.memory_of.Goals as goal

pub loop-slot-preserved : goal.loop-slot-preserved
loop-slot-preserved c =
    let i : ℕ = c.loop-slot.slot-index in
    c.in_ok-append_page.ensures.ok
    ∙ ap (λ (xs : List ℕ). xs ++ bytes_at (get_or c.args.pages.now i None)) c.loop-slot.invariant
    ∙ bytes_next c.args.pages.now i None c.loop-slot-test.true
