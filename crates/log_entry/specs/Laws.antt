-- What code that keeps or sends entries may rely on.
use Rattle.std.specs.Prelude.{◌≡◌, ℕ, ◌+◌, ◌≤◌, List, [], ◌∷◌, Some}
use Rattle.guest_lockstep.specs.Machine.{Move}
use Rattle.guest_lockstep.specs.declared.reads.Reads.{Reads}
use Rattle.guest_lockstep.specs.Reach.{inputs, steps}
use Rattle.log_entry.specs.declared.entry.Entry.{Entry}
use Rattle.log_entry.specs.Entries.{count_of, entries, inputs_of, last_count}
use Rattle.log_entry.specs.Numbers.{IsBytes}
use Rattle.log_entry.specs.Spelling.{spelling, IsEntry, entry_at}

-- ---- the grammar

-- what is written is read back
abbrev pub ReadsAgain : Type 0
ReadsAgain = (e : Entry) → IsEntry e → entry_at (spelling e) ≡ Some e

-- bytes that are read as an entry are its spelling
abbrev pub OneSpelling : Type 0
OneSpelling = (bytes : List ℕ) (e : Entry) → IsBytes bytes → entry_at bytes ≡ Some e
    → IsEntry e × (bytes ≡ spelling e)

-- no two entries share a spelling
abbrev pub OneMeaning : Type 0
OneMeaning = (e other : Entry) → IsEntry e → IsEntry other → spelling e ≡ spelling other → e ≡ other

-- ---- the entries of a trace

-- their inputs are the trace's
abbrev pub KeepsInputs : Type 0
KeepsInputs = (reads : Reads) (count : ℕ) (moves : List Move) → inputs_of (entries reads count moves) ≡ inputs count moves

-- no entry is below this count or below an entry before it
abbrev pub NeverFalls : ℕ → List Entry → Type 0
NeverFalls count [] = Unit {0}
NeverFalls count (e ∷ es) = (count ≤ count_of e) × NeverFalls (count_of e) es

-- their counts never fall, from where the trace begins to no further than where it ends
pub record StandInOrder (reads : Reads) (count : ℕ) (moves : List Move) : Type 0 where
  pub in_order : NeverFalls count (entries reads count moves)
  pub within : last_count count (entries reads count moves) ≤ count + steps moves
