-- How a generation ends is what steps of its threads lead to, each of which kept its promise: so it is shown by a world of
-- the protocol that is reached from the opening and is faithful.
use Rattle.std.specs.Prelude.{◌≡◌, ℕ, List, [], ◌∷◌, take, Option, None}
use Rattle.guest_lockstep.specs.Machine.{Machine, Move}
use Rattle.guest_lockstep.specs.Recorded.{Recorded}
use Rattle.guest_lockstep.specs.declared.reads.Reads.TheVariants.{Logged}
use Rattle.log_entry.specs.Entries.{entries}
use Rattle.log_entry.specs.declared.entry.Entry.{Entry}
use Rattle.pair_protocol.specs.Copying.{Copying, IsCopying}
use Rattle.pair_rule.specs.declared.view.Knowledge.{Knowledge}
use Rattle.pair_rule.specs.Knowledge.{last_or, winner_of}
use Rattle.pair_rule.specs.Law.{Runnable}
use Rattle.pair_rule.specs.Threads.{IsShown, ThreadRun, bytes_accepted}
use Rattle.pair_threads.specs.declared.gate.Who.{Who}
use Rattle.pair_threads.specs.Ending.{NoneUnderWay, winner_named}
use Rattle.pair_threads.specs.Leading.{longer_by}
use Rattle.pair_threads.specs.Stores.{IsDiskOf}
use Rattle.shared_disk.specs.declared.store.Record.{Record}

-- a guest has made a recorded run from boot with these entries
pub record HasMade {S : Type 0} (M : Machine S) (list : List Entry) (s : S) : Type 0 where
  pub moves : List Move
  pub recorded : Recorded M M.boot moves s
  pub entries_are : entries Logged 0 moves ≡ list

-- what steps of the threads led to: the lists, what is acknowledged, who goes on alone, what the terminals have accepted, and
-- the disk; the primary's guest has made the run of its list and of the entry that waits for it, if one does; the backup's has
-- replayed the first of its own; and if nobody goes on alone, nothing is under way between primary and disk
pub record IsOfRun {S : Type 0} (M : Machine S) (typed0 typed1 : List ℕ) (winner : Option Who) (primary backup : List Entry)
    (held : ℕ) (waiting : Option Entry) (screens : List (List ℕ)) (records : List Record) (s t : S) : Type 0 where
  pub known : Knowledge
  pub run : ThreadRun M typed0 typed1 known
  pub shown : (C : Copying S) → Runnable M → IsCopying M C → IsShown M C typed0 typed1 known
  pub primary_is : primary ≡ known.primary.list
  pub backup_is : backup ≡ known.backup.list
  pub held_is : held ≡ last_or 0 known.backup.held_values
  pub winner_is : winner ≡ winner_named (winner_of known.primary.winner known.backup.winner)
  pub screens_are : screens ≡ bytes_accepted 0 known ∷ bytes_accepted 1 known ∷ []
  pub disk_is : IsDiskOf M.boot_sector records known.disk.puts
  pub primary_at : HasMade M (longer_by primary waiting) s
  pub replayed : ℕ
  pub backup_at : HasMade M (take replayed backup) t
  pub quiet : winner ≡ None → NoneUnderWay known
