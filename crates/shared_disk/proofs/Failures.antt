-- How often a device may fail: failures one after another add up, and are no more than may be.
use Rattle.std.proofs.Common.{◌≡◌, ◌≤◌, ℕ, zero, suc, ◌+◌, Option, Some, None, refl, ap, ◌∙◌, arith}
use Rattle.std.specs.Option.{option_map}
use Rattle.std.proofs.lemmas.Option.{same_Some}
use Rattle.shared_disk.specs.Failing.{before_failures}

-- some failures, and then others
pub before-add : (first more : ℕ) (may : Option ℕ)
    → before_failures (first + more) may ≡ before_failures first (before_failures more may)
before-add zero more may =
    let e : 0 + more ≡ more = omega arith in
    ap (λ n. before_failures n may) e
before-add (suc first) more may =
    let e : suc first + more ≡ suc (first + more) = omega arith in
    ap (λ n. before_failures n may) e ∙ ap (option_map (λ n. n + 1)) (before-add first more may)

-- one failure is one more than there may be after it
one_less : (failures most : ℕ) (may : Option ℕ) → ((n : ℕ) → may ≡ Some n → failures ≤ n)
    → option_map (λ n. n + 1) may ≡ Some most → failures + 1 ≤ most
one_less failures most None few is = absurd (cc)
one_less failures most (Some n) few is =
    let e : n + 1 ≡ most = same_Some (n + 1) most is in
    omega (arith, e, few n refl)

-- a device does not fail more often than it may
pub no_more_failures : (failures most : ℕ) (may : Option ℕ) → before_failures failures may ≡ Some most → failures ≤ most
no_more_failures zero most may is = omega arith
no_more_failures (suc failures) most may is =
    let e = one_less failures most (before_failures failures may) (λ n is. no_more_failures failures n may is) is in
    omega (arith, e)
