-- Which bytes of a port are on their way, by numbers alone: one that is sent is the newest of them, and one that is
-- accepted was the oldest.
use Rattle.std.proofs.Common.{◌≡◌, ◌≢◌, ℕ, ◌+◌, ◌-◌, ◌≤◌, true, false, arith}
use Rattle.std.proofs.lemmas.Bool.Decides.{nat_tests}
use Rattle.guest_board.proofs.Words.{is_on_its_way}

pub none_on_its_way : (number : ℕ) → is_on_its_way 0 0 number ≡ false
none_on_its_way number = grind (arith, nat_tests)

pub newest_is_new : (issued unaccepted : ℕ) → is_on_its_way issued unaccepted (issued + 1) ≡ false
newest_is_new issued unaccepted = grind (arith, nat_tests)

pub newest : (issued unaccepted : ℕ) → is_on_its_way (issued + 1) (unaccepted + 1) (issued + 1) ≡ true
newest issued unaccepted = grind (arith, nat_tests)

pub but_the_newest : (issued unaccepted number : ℕ) → number ≢ issued + 1
    → is_on_its_way issued unaccepted number ≡ is_on_its_way (issued + 1) (unaccepted + 1) number
but_the_newest issued unaccepted number other = grind (arith, nat_tests)

pub oldest : (issued unaccepted : ℕ) → 1 ≤ unaccepted → unaccepted ≤ issued
    → is_on_its_way issued unaccepted (issued + 1 - unaccepted) ≡ true
oldest issued unaccepted some few = grind (arith, nat_tests)

pub oldest_leaves : (issued unaccepted : ℕ) → 1 ≤ unaccepted → unaccepted ≤ issued
    → is_on_its_way issued (unaccepted - 1) (issued + 1 - unaccepted) ≡ false
oldest_leaves issued unaccepted some few = grind (arith, nat_tests)

pub but_the_oldest : (issued unaccepted number : ℕ) → 1 ≤ unaccepted → unaccepted ≤ issued
    → number ≢ issued + 1 - unaccepted
    → is_on_its_way issued unaccepted number ≡ is_on_its_way issued (unaccepted - 1) number
but_the_oldest issued unaccepted number some few other = grind (arith, nat_tests)
