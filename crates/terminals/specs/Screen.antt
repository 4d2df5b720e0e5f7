-- A terminal, and what each call leaves of it.
use Rattle.std.specs.Prelude.{ℕ, ◌+◌, max, Bool, ◌==◌, if◌then◌else◌, List, [], ◌∷◌, ◌++◌, length}

-- the bytes accepted, the bytes typed, and the greatest number of keys told
pub record Screen : Type 0 where
  pub accepted : List ℕ
  pub typed : List ℕ
  pub told : ℕ

-- nothing has arrived, nothing was typed or told
abbrev pub blank : Screen
blank = record { accepted = []; typed = []; told = 0 }

-- the byte of this number is the next one after those accepted
abbrev pub comes_next : Screen → ℕ → Bool
comes_next screen number = number == length screen.accepted + 1

-- the byte that comes next is accepted, and any other is dropped
abbrev pub after_arrival : Screen → ℕ → ℕ → Screen
after_arrival screen number byte =
    if comes_next screen number then record screen { accepted = screen.accepted ++ byte ∷ [] } else screen

-- a typed byte is kept after the others
abbrev pub after_key : Screen → ℕ → Screen
after_key screen byte = record screen { typed = screen.typed ++ byte ∷ [] }

-- the greatest number told is kept
abbrev pub after_telling : Screen → ℕ → Screen
after_telling screen keys = record screen { told = max screen.told keys }
