-- How a replayer stays on a recorded run.
use Rattle.std.specs.Prelude.{◌≡◌, ℕ, ◌≤◌, List, ◌++◌, Bool, Option}
use Rattle.guest_lockstep.specs.Machine.{Machine, Move}
use Rattle.guest_lockstep.specs.Recorded.{Counts, Recorded}
use Rattle.guest_lockstep.specs.declared.reads.Reads.{Reads}
use Rattle.log_entry.specs.Entries.{entries, last_count}
use Rattle.log_entry.specs.Standing.{owed, Stands, IsOnTrace}
use Rattle.log_entry.specs.declared.entry.Entry.{Entry}
use Rattle.replayer.specs.Replaying.{Replays}

-- some of the moves were made and the others are still to be made, and what was popped is the entries of those made;
-- only the mark of the last of them may still be held
pub record StaysOn {S : Type 0} (M : Machine S) (reads : Reads) (s : S) (held : List Entry) (owes : Bool)
    (moves : List Move) (last : S) (t : S) (left : List Entry) (still : Option (List ℕ)) : Type 0 where
  pub made : List Move
  pub rest : List Move
  pub popped : List Entry
  pub owes_still : Bool
  pub moves_are : moves ≡ made ++ rest
  pub runs : Recorded M s made t
  pub stands : Stands M reads t left still owes_still rest last
  pub held_are : held ≡ popped ++ left
  pub popped_are : popped ++ owed (M.count t) owes_still ≡ owed (M.count s) owes ++ entries reads (M.count s) made

-- that holds for every recorded run that the replayer was on
abbrev pub StaysOnEach : {S : Type 0} → Machine S → S → List Entry → Option (List ℕ) → S → List Entry
    → Option (List ℕ) → Type 0
StaysOnEach {S} M s held fetched t left still = (reads : Reads) (owes : Bool) (moves : List Move) (last : S)
    → Stands M reads s held fetched owes moves last → StaysOn M reads s held owes moves last t left still

-- ---- laws

-- moves by the entries of a recorded run are moves of that run, and never pass the count of the last entry that was
-- held
pub record KeepsTo {S : Type 0} (M : Machine S) (s : S) (held : List Entry) (fetched : Option (List ℕ)) (t : S)
    (left : List Entry) (still : Option (List ℕ)) : Type 0 where
  pub stays : StaysOnEach M s held fetched t left still
  pub below : IsOnTrace M s held fetched → M.count t ≤ last_count (M.count s) held

abbrev pub ReplaysKeepTo : Type 0 → Type 0
ReplaysKeepTo S = (M : Machine S) (s t : S) (held left : List Entry) (fetched still : Option (List ℕ)) (moves : ℕ)
    → Counts M → Replays M s held fetched moves t left still → KeepsTo M s held fetched t left still
