-- Each page follows the bytes of those before it.
use Rattle.std.proofs.Common.{List, ◌++◌, ◌*◌, ℕ, ap, ◌∙◌, take}
use Rattle.board_image.proofs.Copied.{next_page}
use Rattle.board_image.proofs.copying.copied_memory.Goals as goal

pub loop-page-preserved : goal.loop-page-preserved
loop-page-preserved g c =
    let memory : List ℕ = c.args.board.now.guest.memory in
    c.in_ok-extend_from_slice.ensures.items ∙ ap (λ (xs : List ℕ). xs ++ c.page.result.now) c.loop-page.invariant
    ∙ ap (λ (xs : List ℕ). take (c.loop-page.page * 256) memory ++ xs) c.page.ensures.bytes
    ∙ next_page memory c.loop-page.page
