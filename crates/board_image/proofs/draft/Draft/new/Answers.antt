-- There are as many bytes and versions as were asked for.
use Rattle.std.proofs.Common.{ℕ, List, Option, length, ap, ◌∙◌}
use Rattle.guest_memory.proofs.NewMemory.{length-zeros}
use Rattle.board_image.proofs.Freshening.{none_long}
use Rattle.board_image.proofs.draft.Draft.new.Goals as goal

pub invariant_of-result : goal.invariant_of-result
invariant_of-result c = record {
  bytes = ap (λ (xs : List ℕ). length xs) c.in_ok-bytes.ensures.ok ∙ length-zeros 65536;
  pages = ap (λ (xs : List (Option ℕ)). length xs) c.in_ok-copied.ensures.ok ∙ none_long 256;
}
