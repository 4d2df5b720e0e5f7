-- Where a replayer is on a recorded run.
use Rattle.std.specs.Prelude.{◌≡◌, ℕ, Option, Some, None, List, [], ◌∷◌, ◌++◌, Bool, if◌then◌else◌}
use Rattle.guest_lockstep.specs.Machine.{Machine, Move, Do, Take}
use Rattle.guest_lockstep.specs.Recorded.{Recorded}
use Rattle.guest_lockstep.specs.declared.input.Input.TheVariants.{Sector}
use Rattle.guest_lockstep.specs.declared.reads.Reads.{Reads}
use Rattle.log_entry.specs.Entries.{entries}
use Rattle.log_entry.specs.declared.entry.Entry.{Entry}
use Rattle.log_entry.specs.declared.entry.Entry.TheVariants.{Mark, Read}

-- the mark that is owed: of a step that was executed and gave an operation, and whose entry is not popped
abbrev pub owed : ℕ → Bool → List Entry
owed count owes = if owes then Mark count ∷ [] else []

-- if bytes have arrived for a sector, the first entry is its read, and the next move takes it with these bytes
abbrev pub TakesFetched : Option (List ℕ) → List Entry → List Move → Type 0
TakesFetched None held moves = Unit {0}
TakesFetched (Some bytes) (Read count drive sector number ∷ held) (Take i ∷ moves) = i ≡ Sector drive sector number bytes
TakesFetched (Some bytes) _ _ = ⊥

-- these moves of a recorded run are still to be made, and the entries that are held are the next ones; the bytes that
-- have arrived for the first of them are those that the run takes
pub record Stands {S : Type 0} (M : Machine S) (reads : Reads) (s : S) (held : List Entry)
    (fetched : Option (List ℕ)) (owes : Bool) (moves : List Move) (last : S) : Type 0 where
  pub runs : Recorded M s moves last
  pub later : List Entry
  pub next_ones : held ++ later ≡ owed (M.count s) owes ++ entries reads (M.count s) moves
  pub takes : TakesFetched fetched held moves

-- some moves of a recorded run are still to be made
pub record IsOnTrace {S : Type 0} (M : Machine S) (s : S) (held : List Entry)
    (fetched : Option (List ℕ)) : Type 0 where
  pub reads : Reads
  pub owes : Bool
  pub moves : List Move
  pub last : S
  pub stands : Stands M reads s held fetched owes moves last
