-- How Tab completes a line that has only begun to name a command.
use Rattle.std.specs.Prelude.{ℕ, ◌+◌, ◌==◌, ◌&&◌, Bool, false, nat_lt, if◌then◌else◌, List, [], ◌∷◌, ◌++◌, drop, length, take}
use Rattle.console_terminal.specs.Commands.{is_same_word, keywords}
use Rattle.console_terminal.specs.declared.command.Keyword.{Keyword}

-- a word begins so, in letters of either case
abbrev pub begins : List ℕ → List ℕ → Bool
begins front word = if nat_lt (length word) (length front) then false else is_same_word (take (length front) word) front

-- with how many equal bytes two lists begin
abbrev pub common : List ℕ → List ℕ → ℕ
common [] others = 0
common (one ∷ ones) [] = 0
common (one ∷ ones) (other ∷ others) = if one == other then common ones others + 1 else 0

-- how many words begin as a line does, and what they have in common after that
pub record Completion : Type 0 where
  pub count : ℕ
  pub tail : List ℕ

abbrev pub no_word : Completion
no_word = record { count = 0; tail = [] }

-- the common begin of the tails of so many words, and of one more
abbrev pub shared : ℕ → List ℕ → List ℕ → List ℕ
shared count tail other = if count == 0 then other else take (common tail other) tail

abbrev pub with_word : List ℕ → Completion → Completion
with_word other c = record { count = c.count + 1; tail = shared c.count c.tail other }

abbrev pub completion_after : Completion → List (List ℕ × Keyword) → List ℕ → Completion
completion_after c [] front = c
completion_after c (row ∷ rows) front =
    completion_after (if begins front row.0 then with_word (drop (length front) row.0) c else c) rows front

unfoldable pub completion_of : List ℕ → Completion
completion_of front = completion_after no_word keywords front

-- several words, and nothing in common
abbrev pub is_open_still : Completion → Bool
is_open_still c = nat_lt 1 c.count && (length c.tail == 0)

-- a word and a space, if it begins so, and all that do
abbrev pub word_if_begun : List ℕ → List ℕ → List ℕ
word_if_begun front word = if begins front word then word ++ 32 ∷ [] else []

abbrev pub listed : List (List ℕ × Keyword) → List ℕ → List ℕ
listed [] front = []
listed (row ∷ rows) front = word_if_begun front row.0 ++ listed rows front

unfoldable pub words_for : List ℕ → List ℕ
words_for front = listed keywords front
