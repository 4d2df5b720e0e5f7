-- The finite map from a generation to the first node that asked for it, kept as the askings that won.
use Rattle.std.specs.Prelude.{◌≡◌, ◌≢◌, ℕ, ◌==◌, if◌then◌else◌, List, [], ◌∷◌, ◌++◌, All, find, Option, Some, None, is_some, Result, Ok, Err, IsOkUnless}
use Rattle.std.specs.Option.{option_map}
use Rattle.i8080_words.specs.declared.refusal.Fault.{Fault}
use Rattle.i8080_words.specs.declared.refusal.Fault.TheVariants.{OutOfMemory, Lost}
use Rattle.arbiter_core.specs.declared.arbiter.Asking.{Asking}
use Rattle.arbiter_core.specs.declared.arbiter.Won.{Won}

-- the node that was the first to ask for this generation
abbrev pub winner_of : List Asking → ℕ → Option ℕ
winner_of askings generation =
    option_map (λ asking. asking.node) (find (λ asking. asking.generation == generation) askings)

-- if nobody has won the asker wins, unless memory is refused; a winner that asks again has won, and any other node has lost
abbrev pub IsAnswer : Option ℕ → ℕ → Result Won Fault → Type 0
IsAnswer None node result = IsOkUnless result OutOfMemory
IsAnswer (Some winner) node result = result ≡ (if winner == node then Ok (record {}) else Err Lost)

-- the first that asks for a generation is kept as its winner
abbrev pub after_asking : List Asking → ℕ → ℕ → List Asking
after_asking winners generation node =
    if is_some (winner_of winners generation)
    then winners
    else winners ++ record { generation = generation; node = node } ∷ []

-- the node that is kept as a generation's winner was the first to ask for it
abbrev pub AreWinners : List Asking → List Asking → Type 0
AreWinners askings winners = (generation : ℕ) → winner_of winners generation ≡ winner_of askings generation

-- whatever was asked before, the new winners are those of all askings with this one after them
pub record GoesOn (old : List Asking) (generation node : ℕ) (new : List Asking) : Type 0 where
  pub so_far : (askings : List Asking) → AreWinners askings old
      → AreWinners (askings ++ record { generation = generation; node = node } ∷ []) new

-- the first that asked for a generation is its winner, and remains so whatever is asked later
pub record FirstAskersWin (askings : List Asking) : Type 0 where
  pub first : (generation node : ℕ) (later : List Asking)
      → All (λ (asking : Asking). asking.generation ≢ generation) askings
      → winner_of (askings ++ record { generation = generation; node = node } ∷ later) generation ≡ Some node
  pub for_good : (generation node : ℕ) (later : List Asking) → winner_of askings generation ≡ Some node
      → winner_of (askings ++ later) generation ≡ Some node
  pub nobody : (generation : ℕ) → winner_of askings generation ≡ None
      → All (λ (asking : Asking). asking.generation ≢ generation) askings
