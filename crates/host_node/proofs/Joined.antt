-- An array that is written in two parts has both, one after the other.
use borrow.Rule.Slice.PartMut.{put_mid, post_of}
use Rattle.std.proofs.Common.{ℕ, ◌≡◌, ◌≤◌, ◌++◌, List, [], length, drop, ap, ◌∙◌}
use Rattle.std.proofs.lemmas.List.{append-nil, drop_at, take_at}
use Rattle.std.proofs.Math.ListN.{drop_of_length-le}

pub joined : (n k : ℕ) (p q rest ps qs : List ℕ) → p ≡ ps → q ≡ qs → length ps ≡ n → length rest ≤ k →
    put_mid n k (p ++ rest) q ≡ ps ++ qs
joined n k p q rest ps qs e f h r =
    ap (λ front. front ++ (q ++ post_of n k (p ++ rest))) (take_at p rest n (ap length e ∙ h))
    ∙ ap (λ back. p ++ (q ++ drop k back)) (drop_at p rest n (ap length e ∙ h))
    ∙ ap (λ back. p ++ (q ++ back)) (drop_of_length-le rest r)
    ∙ ap (λ back. p ++ back) (append-nil q)
    ∙ ap (λ front. front ++ q) e
    ∙ ap (λ back. ps ++ back) f
