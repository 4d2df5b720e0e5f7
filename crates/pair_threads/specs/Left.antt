-- What the end of a generation leaves to a guest that goes on: a recorded run of one machine from boot, and what terminals
-- and disk have of it.
use Rattle.std.specs.Prelude.{◌≡◌, ◌≤◌, ◌<◌, ℕ, length, List, [], Option, Some, None}
use Rattle.disk_dcdd.specs.declared.sector.SectorWrite.{SectorWrite}
use Rattle.event_callbacks.specs.declared.operations.Operation.TheVariants.{Write}
use Rattle.guest_lockstep.specs.Machine.{Machine, Move}
use Rattle.guest_lockstep.specs.Recorded.{Recorded}
use Rattle.guest_lockstep.specs.declared.reads.Reads.TheVariants.{Logged}
use Rattle.guest_lockstep.specs.Reach.{Owns, acceptances, inputs, keys, operations, output}
use Rattle.log_entry.specs.Entries.{entries}
use Rattle.log_entry.specs.declared.entry.Entry.{Entry}
use Rattle.pair_protocol.specs.Faithful.{IsPrefix}
use Rattle.pair_protocol.specs.Lawful.{Among, IsDone}
use Rattle.pair_rule.specs.Knowledge.{AllAre, HasWrite}
use Rattle.pair_rule.specs.Law.{typed_at}
use Rattle.pair_threads.specs.declared.gate.Who.{Who}
use Rattle.pair_threads.specs.declared.gate.Who.TheVariants.{Primary, Backup}
use Rattle.pair_threads.specs.Ending.{EachScreen}
use Rattle.pair_threads.specs.Leading.{longer_by}
use Rattle.pair_threads.specs.Stores.{IsDiskOf}
use Rattle.shared_disk.specs.declared.store.Record.{Record}

-- a terminal has the first bytes of a port's output, and all those that the run was told are accepted
pub record IsScreenOf (moves : List Move) (port : ℕ) (screen : List ℕ) : Type 0 where
  pub front : IsPrefix screen (output port moves)
  pub told : acceptances port (inputs 0 moves) ≤ length screen

-- each sector has what these writes left of what it booted with; all of them were given in the run, and among them are
-- those that it was told are done
pub record IsStoreOf {S : Type 0} (M : Machine S) (moves : List Move) (records : List Record) : Type 0 where
  pub puts : List SectorWrite
  pub kept : IsDiskOf M.boot_sector records puts
  pub given : AllAre puts (λ w. Among (Write w) (operations moves))
  pub done : (n : ℕ) → IsDone n moves → HasWrite puts n

-- a guest has made a recorded run from boot with these entries; each sector that came in it had the bytes of its own disk;
-- its keys are the first of those typed; and terminals and disk have what it gave
pub record Leaves {S : Type 0} (M : Machine S) (typed0 typed1 : List ℕ) (list : List Entry) (screens : List (List ℕ))
    (records : List Record) (s : S) : Type 0 where
  pub moves : List Move
  pub recorded : Recorded M M.boot moves s
  pub owns : Owns M [] M.boot moves
  pub entries_are : entries Logged 0 moves ≡ list
  pub keys_kept : (port : ℕ) → port < 2 → IsPrefix (keys port (inputs 0 moves)) (typed_at port typed0 typed1)
  pub screens_are : EachScreen (IsScreenOf moves) 0 screens
  pub store : IsStoreOf M moves records

-- by who goes on alone: the primary's guest may have made one move whose entry waits for its list, but none waits if nobody
-- is to go on alone; a backup's has made the run of its list
abbrev pub LeavesBy : {S : Type 0} → Machine S → List ℕ → List ℕ → Option Who → List Entry → List Entry → Option Entry →
    List (List ℕ) → List Record → S → S → Type 0
LeavesBy M typed0 typed1 None primary backup waiting screens records s t =
    (waiting ≡ None) × Leaves M typed0 typed1 primary screens records s
LeavesBy M typed0 typed1 (Some Primary) primary backup waiting screens records s t =
    Leaves M typed0 typed1 (longer_by primary waiting) screens records s
LeavesBy M typed0 typed1 (Some Backup) primary backup waiting screens records s t =
    Leaves M typed0 typed1 backup screens records t
LeavesBy M typed0 typed1 (Some who) primary backup waiting screens records s t = ⊥
