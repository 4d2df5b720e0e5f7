-- The bytes of a sector: some, and zeros after them.
use Rattle.std.proofs.Common.{◌≡◌, ℕ, ◌-◌, List, ◌++◌, length, take, drop, ap, ◌∙◌, arith}
use Rattle.std.specs.Prelude.{min, replicate}
use Rattle.std.proofs.lemmas.List.{drop-replicate, take_min}
use Rattle.shell_language.specs.Openings.{padded}

-- the first bytes are those that are given, if there are so many
pub padded_is : (n : ℕ) (given front : List ℕ) → n ≡ min (length given) 137 → front ≡ take n given
    → front ++ drop n (replicate 137 0) ≡ padded given
padded_is n given front e is =
    let same : n ≡ min 137 (length given) = omega arith in
    let left : 137 - n ≡ 137 - length given = omega arith in
    ap (λ bytes. bytes ++ drop n (replicate 137 0)) (is ∙ ap (λ m. take m given) same ∙ take_min 137 given)
    ∙ ap (λ zeros. take 137 given ++ zeros) (drop-replicate n 137 0 ∙ ap (λ m. replicate m 0) left)
