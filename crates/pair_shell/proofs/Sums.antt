-- Sums of events, each up to the greatest number.
use Rattle.std.proofs.Common.{◌≡◌, ℕ, ◌+◌, ◌*◌, arith}
use Rattle.pair_shell.specs.Bound.{up_to_greatest}

pub one_more : (a count most : ℕ) → a ≡ up_to_greatest (3 * count) → most ≡ up_to_greatest (a + 1) →
    most ≡ up_to_greatest (1 + 3 * count)
one_more a count most is so = omega (arith, is, so)

pub joined_sum : (parts events pair most : ℕ) → pair ≡ up_to_greatest events → most ≡ up_to_greatest (2 * parts + pair) →
    most ≡ up_to_greatest (2 * parts + events)
joined_sum parts events pair most is so = omega (arith, is, so)
