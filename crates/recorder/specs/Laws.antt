-- What users of a recorder may rely on.
use Rattle.std.specs.Prelude.{◌≡◌, ℕ, ◌+◌, Ok, List, [], ◌∷◌, ◌++◌}
use Rattle.guest_lockstep.specs.Machine.{Machine, Move, Take, Runs}
use Rattle.guest_lockstep.specs.Recorded.{Counts, Recorded}
use Rattle.guest_lockstep.specs.declared.input.Input.{Input}
use Rattle.guest_lockstep.specs.declared.reads.Reads.{Reads}
use Rattle.guest_lockstep.specs.declared.running.Stopped.{Stopped}
use Rattle.log_buffer.specs.Log.{Log, kept}
use Rattle.log_entry.specs.Entries.{entries}
use Rattle.guest_lockstep.specs.Reach.{inputs, steps}
use Rattle.recorder.specs.Recording.{Advances, Offers}

-- a recorded run, and a log to which its entries were pushed in their order, and nothing else
pub record Records {S : Type 0} (M : Machine S) (reads : Reads) (s : S) (log : Log) (moves : List Move) (t : S)
    (new : Log) : Type 0 where
  pub runs : Recorded M s moves t
  pub first : new.first ≡ log.first
  pub pushes : new.entries ≡ log.entries ++ entries reads (M.count s) moves

-- an advance records its steps, and no input
pub record RecordsSteps {S : Type 0} (M : Machine S) (reads : Reads) (s : S) (log : Log) (a : Stopped) (t : S)
    (new : Log) : Type 0 where
  pub moves : List Move
  pub records : Records M reads s log moves t new
  pub steps_are : steps moves ≡ a.steps
  pub no_input : inputs (M.count s) moves ≡ []

abbrev pub AdvancesRecord : Type 0 → Type 0
AdvancesRecord S = (M : Machine S) (reads : Reads) (s t : S) (log new : Log) (turns : ℕ) (a : Stopped) → Counts M
    → Advances M kept s log turns a t new → RecordsSteps M reads s log a t new

-- an offer that is not refused records its input
abbrev pub OffersRecord : Type 0 → Type 0
OffersRecord S = (M : Machine S) (reads : Reads) (s t : S) (log new : Log) (input : Input) (index : ℕ)
    → Offers M kept reads s log input (Ok index) t new → Records M reads s log (Take input ∷ []) t new

-- one run after another is one run, and what both push is what it pushes
abbrev pub RecordsJoin : Type 0 → Type 0
RecordsJoin S = (M : Machine S) (reads : Reads) (s t u : S) (log middle new : Log) (moves more : List Move) → Counts M
    → Records M reads s log moves t middle → Records M reads t middle more u new
    → Records M reads s log (moves ++ more) u new

-- a recorded run is a run of the machine
abbrev pub RecordedRuns : Type 0 → Type 0
RecordedRuns S = (M : Machine S) (s t : S) (moves : List Move) → Recorded M s moves t → Runs M s moves t

-- the machine's count rises by its steps
abbrev pub RecordedCounts : Type 0 → Type 0
RecordedCounts S = (M : Machine S) (s t : S) (moves : List Move) → Counts M → Recorded M s moves t
    → M.count t ≡ M.count s + steps moves
