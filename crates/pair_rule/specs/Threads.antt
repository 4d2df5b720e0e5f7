-- What the threads of a generation promise, whatever steps they make.
use Rattle.std.specs.Prelude.{◌≡◌, ℕ, zero, suc, ◌<◌, ◌≤◌, List, [], map}
use Rattle.disk_dcdd.specs.declared.address.SectorAddress.{SectorAddress}
use Rattle.event_callbacks.specs.declared.operations.Operation.TheVariants.{Byte}
use Rattle.guest_lockstep.specs.Machine.{Machine, Move}
use Rattle.guest_lockstep.specs.declared.reads.Reads.TheVariants.{Logged}
use Rattle.log_entry.specs.Entries.{inputs_of}
use Rattle.log_entry.specs.declared.entry.Entry.{Entry}
use Rattle.log_entry.specs.declared.entry.Entry.TheVariants.{Mark, Rx, Sent, Sector, Written, Read}
use Rattle.guest_lockstep.specs.Reach.{keys, acceptances, output, Reach}
use Rattle.guest_lockstep.specs.declared.timed.Timed.{Timed}
use Rattle.pair_protocol.specs.Change.{Reached}
use Rattle.pair_protocol.specs.Copying.{Copying, IsCopying}
use Rattle.pair_protocol.specs.Faithful.{Faithful, IsAllBut, IsPrefix, MayHave}
use Rattle.pair_protocol.specs.Lawful.{Among}
use Rattle.pair_events.specs.declared.event.Event.{Event}
use Rattle.pair_protocol.specs.Reply.{Reply}
use Rattle.pair_protocol.specs.World.{World, accepted_after, opening, sector_record}
use Rattle.shared_disk.specs.declared.disk.SectorRead.{SectorRead}
use Rattle.pair_rule.specs.declared.payload.DiskAnswer.{DiskAnswer}
use Rattle.pair_rule.specs.declared.payload.DiskAnswer.TheVariants as answer
use Rattle.pair_rule.specs.declared.view.Arrived.{Arrived}
use Rattle.pair_rule.specs.declared.view.Knowledge.{Knowledge}
use Rattle.pair_rule.specs.declared.view.PrimaryView.{PrimaryView}
use Rattle.pair_rule.specs.declared.view.PrimaryCall.{PrimaryCall}
use Rattle.pair_rule.specs.declared.view.PrimaryCall.TheVariants.{Appended, Released}
use Rattle.pair_rule.specs.Histories.{PlainRun, first_known}
use Rattle.pair_rule.specs.Knowledge.{AllAre, Stands}
use Rattle.pair_rule.specs.Law.{HasLonger, IsTold, Runnable, typed_at}
use Rattle.pair_rule.specs.Shown.{Happens, IsAcknowledged, Shows, arrival_of}
use Rattle.pair_rule.specs.Steps.{MayRelease, ReadsBoot, TableStep}

-- what is known after steps of the threads, one after another, in a generation at whose terminals these bytes were typed
pub data ThreadRun {S : Type 0} (M : Machine S) (typed0 typed1 : List ℕ) : Knowledge → Type 0 where
  Opens : (generation : ℕ) → ThreadRun M typed0 typed1 (first_known generation)
  Goes : {k new : Knowledge} → ThreadRun M typed0 typed1 k → TableStep M typed0 typed1 k new →
      ThreadRun M typed0 typed1 new

-- ---- promises, call by call

-- what a primary knew when it made a call
abbrev pub knew : List Entry → ℕ → ℕ → ℕ → List DiskAnswer → Knowledge
knew list seen counted0 counted1 answers = record (first_known 0) {
  primary = record {
    list = list;
    seen = seen;
    winner = 0;
    counted0 = counted0;
    counted1 = counted1;
    released = [];
    asked = 0;
    answers = answers;
    calls = [];
  };
}

-- it kept its promise: the entry that it appended is the next one of a run, and was told; what it released was outstanding
-- and covered
abbrev pub CallKept : {S : Type 0} → Machine S → List ℕ → List ℕ → PrimaryCall → Type 0
CallKept M typed0 typed1 (Appended list counted0 counted1 answers e) =
    (run : HasLonger M list e) × IsTold M typed0 typed1 (knew list 0 counted0 counted1 answers) run.before e
CallKept M typed0 typed1 (Released list seen o) = MayRelease M (knew list seen 0 0 []) o

-- all calls of a primary, and all answers of a disk
pub record AreKept {S : Type 0} (M : Machine S) (typed0 typed1 : List ℕ) (calls : List PrimaryCall)
    (given : List DiskAnswer) : Type 0 where
  pub calls_kept : AllAre calls (CallKept M typed0 typed1)
  pub reads_kept : AllAre given (ReadsBoot M)

-- steps of the table that keep all promises are steps of the threads
abbrev pub KeptStepsAreThreads : Type 0 → Type 0
KeptStepsAreThreads S =
    (M : Machine S) (typed0 typed1 : List ℕ) (k : Knowledge) → PlainRun k →
    AreKept M typed0 typed1 k.primary.calls k.disk.given → ThreadRun M typed0 typed1 k

-- the bytes of a port that its terminal has accepted
abbrev pub arrivals_at : ℕ → Knowledge → List Arrived
arrivals_at zero k = k.terminal.arrivals0
arrivals_at (suc port) k = k.terminal.arrivals1

abbrev pub bytes_accepted : ℕ → Knowledge → List ℕ
bytes_accepted port k = accepted_after 0 (map arrival_of (arrivals_at port k))

-- the one trace of a machine that never fails, on inputs whose keys were typed: the terminals have accepted its output, or
-- all of it but the last bytes of a window; and each sector has the bytes of its disk, or of an outstanding write
pub record Promises {S : Type 0} (M : Machine S) (typed0 typed1 : List ℕ) (k : Knowledge) : Type 0 where
  pub list : List Timed
  pub count : ℕ
  pub trace : List Move
  pub reach : Reach M list count trace
  pub outputs : (port : ℕ) → port < 2 → IsAllBut M.window_size (bytes_accepted port k) (output port trace)
  pub disk : (address : SectorAddress) → MayHave M trace reach.last address (sector_record M k.disk.puts address).bytes
  pub keys_kept : (port : ℕ) → port < 2 → IsPrefix (keys port list) (typed_at port typed0 typed1)

-- what an entry says of the disk is an answer that arrived; a sector comes with its bytes, so no entry is a read
abbrev pub IsAnswered : List DiskAnswer → Entry → Type 0
IsAnswered answers (Written count number) = Among (answer.Written number) answers
IsAnswered answers (Sector count drive sector number bytes) =
    (r : SectorRead) × Among (answer.Read r) answers × (r.number ≡ number) × (r.bytes ≡ bytes)
IsAnswered answers (Mark count) = Unit {0}
IsAnswered answers (Rx count port byte) = Unit {0}
IsAnswered answers (Sent count port) = Unit {0}
IsAnswered answers (Read count drive sector number) = ⊥

-- of a port in a primary's list: its keys are the first of those typed, and no more bytes are accepted than were seen counted
pub record PortIsTold (port : ℕ) (typed : List ℕ) (counted : ℕ) (list : List Entry) : Type 0 where
  pub keys_first : IsPrefix (keys port (inputs_of list)) typed
  pub accepted : acceptances port (inputs_of list) ≤ counted

-- of the list: so it is at both ports, and the disk answered what it has of the disk
pub record ListIsTold (typed0 typed1 : List ℕ) (list : List Entry) (answers : List DiskAnswer)
    (counted0 counted1 : ℕ) : Type 0 where
  pub port0 : PortIsTold 0 typed0 counted0 list
  pub port1 : PortIsTold 1 typed1 counted1 list
  pub answered : (e : Entry) → Among e list → IsAnswered answers e

abbrev pub PrimaryIsTold : List ℕ → List ℕ → PrimaryView → Type 0
PrimaryIsTold typed0 typed1 p = ListIsTold typed0 typed1 p.list p.answers p.counted0 p.counted1

-- the byte of this number was given by a step, and the mark of that step is among the entries seen
pub record ByteIsAcknowledged (moves : List Move) (seen port number : ℕ) : Type 0 where
  pub byte : ℕ
  pub marked : IsAcknowledged moves seen (Byte port number byte)

-- a world that actions reach shows what is known; it is faithful, so the threads keep their promises
pub record IsShown {S : Type 0} (M : Machine S) (C : Copying S) (typed0 typed1 : List ℕ) (k : Knowledge) : Type 0 where
  pub stands : Stands k
  pub told : PrimaryIsTold typed0 typed1 k.primary
  pub world : World S
  pub shows : Shows M typed0 typed1 k world
  -- each byte that the primary's list says is accepted has its mark below what the primary has seen
  pub marked : (port number : ℕ) → port < 2 → 0 < number → number ≤ acceptances port (inputs_of k.primary.list) →
      ByteIsAcknowledged shows.moves k.primary.seen port number
  -- it is reached from the opening by events of a script, in which the bytes are typed first
  pub events : List Event
  pub replies : List Reply
  pub happened : Happens M C (opening M Logged) events replies world
  pub reached : Reached M C world
  pub faithful : Faithful M world
  pub promises : Promises M typed0 typed1 k

-- whatever is known after steps of the threads is shown so
abbrev pub ThreadsAreFaithful : Type 0 → Type 0
ThreadsAreFaithful S =
    (M : Machine S) (C : Copying S) → Runnable M → IsCopying M C → (typed0 typed1 : List ℕ) (k : Knowledge) →
    ThreadRun M typed0 typed1 k → IsShown M C typed0 typed1 k
