-- The law: each step of the threads is events of the world that the core shows, or none.
use Rattle.std.specs.Prelude.{◌≡◌, ℕ, zero, suc, ◌<◌, ◌≤◌, true, Some, None, List, [], ◌∷◌, ◌++◌, length}
use Rattle.disk_dcdd.specs.declared.address.SectorAddress.{SectorAddress}
use Rattle.disk_dcdd.specs.declared.sector.SectorWrite.{SectorWrite}
use Rattle.event_callbacks.specs.Operations.{id_of}
use Rattle.event_callbacks.specs.declared.operations.Operation.{Operation}
use Rattle.event_callbacks.specs.declared.operations.Operation.TheVariants.{Byte, Write}
use Rattle.guest_lockstep.specs.Machine.{Machine, Move}
use Rattle.guest_lockstep.specs.Outstanding.{ComesAndGoes}
use Rattle.guest_lockstep.specs.Recorded.{Counts, Recorded}
use Rattle.guest_lockstep.specs.declared.reads.Reads.TheVariants.{Logged}
use Rattle.log_entry.specs.Entries.{entries, count_of, inputs_of}
use Rattle.log_entry.specs.declared.entry.Entry.{Entry}
use Rattle.log_entry.specs.declared.entry.Entry.TheVariants.{Mark, Rx, Sent, Sector, Written, Read}
use Rattle.guest_lockstep.specs.Reach.{keys, acceptances}
use Rattle.shared_disk.specs.declared.disk.SectorRead.{SectorRead}
use Rattle.pair_protocol.specs.OnDisk.{ReadyIsSelected}
use Rattle.pair_protocol.specs.Change.{Reached}
use Rattle.pair_protocol.specs.Copying.{Copying, IsCopying}
use Rattle.pair_events.specs.declared.event.Event.{Event}
use Rattle.pair_events.specs.declared.event.Event.TheVariants.{Step, TakeKey, Send, DeliverLog, Acknowledge, DeliverAcknowledgement, Release, Arrive, TellSent, Suspect, Put, PutReply, Get, GetReply}
use Rattle.pair_protocol.specs.Reply.{Reply}
use Rattle.pair_protocol.specs.Faithful.{Faithful, IsPrefix}
use Rattle.pair_protocol.specs.Grows.{Grows}
use Rattle.pair_protocol.specs.Lawful.{Among, Lawful}
use Rattle.pair_protocol.specs.Node.{note_of, covers}
use Rattle.pair_protocol.specs.World.{World, opening}
use Rattle.pair_rule.specs.declared.mailbox.Mailbox.TheVariants.{Outbox, Inbox, Bytes0, Bytes1, Requests, Answers}
use Rattle.pair_rule.specs.declared.payload.DiskAnswer.{DiskAnswer}
use Rattle.pair_rule.specs.declared.payload.DiskAnswer.TheVariants as answer
use Rattle.pair_rule.specs.declared.payload.DiskRequest.{DiskRequest}
use Rattle.pair_rule.specs.declared.payload.DiskRequest.TheVariants as ask
use Rattle.pair_rule.specs.declared.payload.Packet.{Packet}
use Rattle.pair_rule.specs.declared.payload.Payload.TheVariants.{Log, Out, Request, Answer}
use Rattle.pair_rule.specs.declared.view.Knowledge.{Knowledge}
use Rattle.shared_disk.specs.Arrivals.{read_address}
use Rattle.pair_rule.specs.Knowledge.{IsEntryOf, counted_at, last_or, Stands, held, saw, saw_count, primary_asked, backup_asked, byte_arrived, appended, after_empty, after_fill, with_release}
use Rattle.pair_rule.specs.Histories.{first_known}
pub use Rattle.pair_rule.specs.Histories.{MayAppend}
use Rattle.pair_rule.specs.Shown.{notes_from, hand_of, Shows, Leads, Happens}

-- ---- what a step asks of the thread that makes it

-- the bytes typed at a port
abbrev pub typed_at : ℕ → List ℕ → List ℕ → List ℕ
typed_at zero typed0 typed1 = typed0
typed_at (suc port) typed0 typed1 = typed1

-- a recorded run from boot whose entries are the list; steps that give nothing may follow the last of them
pub record HasRun {S : Type 0} (M : Machine S) (list : List Entry) : Type 0 where
  pub moves : List Move
  pub last : S
  pub recorded : Recorded M M.boot moves last
  pub entries_are : entries Logged 0 moves ≡ list

-- a recorded run from boot whose entries are the list and one more, which the last move makes
pub record HasLonger {S : Type 0} (M : Machine S) (list : List Entry) (e : Entry) : Type 0 where
  pub moves : List Move
  pub before : S
  pub move : Move
  pub after : S
  pub recorded : Recorded M M.boot moves before
  pub makes : Recorded M before (move ∷ []) after
  pub entries_are : entries Logged 0 (moves ++ move ∷ []) ≡ list ++ e ∷ []
  pub count : M.count after ≡ count_of e

-- what a primary was told of the input at the end of its list: the keys of the list are the first of those typed; the
-- bytes that it says are accepted are counted; the disk has answered, and the sector is the one under the head. Threads
-- log their sectors with the bytes, so the input is never a read
abbrev pub IsTold : {S : Type 0} → Machine S → List ℕ → List ℕ → Knowledge → S → Entry → Type 0
IsTold M typed0 typed1 k s (Mark count) = Unit {0}
IsTold M typed0 typed1 k s (Rx count port byte) =
    IsPrefix (keys port (inputs_of (k.primary.list ++ Rx count port byte ∷ []))) (typed_at port typed0 typed1)
IsTold M typed0 typed1 k s (Sent count port) =
    acceptances port (inputs_of (k.primary.list ++ Sent count port ∷ [])) ≤ counted_at port k
IsTold M typed0 typed1 k s (Written count number) = Among (answer.Written number) k.primary.answers
IsTold M typed0 typed1 k s (Sector count drive sector number bytes) =
    (r : SectorRead) × Among (answer.Read r) k.primary.answers × (read_address r ≡ M.address s drive sector)
    × (r.number ≡ number) × (r.bytes ≡ bytes)
IsTold M typed0 typed1 k s (Read count drive sector number) = ⊥

-- the operation is a write, or a byte of a port that exists
abbrev pub HasPort : Operation → Type 0
HasPort (Byte port number byte) = port < 2
HasPort (Write w) = Unit {0}

-- the operation is outstanding at the end of a run of the list, and its mark is acknowledged
abbrev pub IsCovered : {S : Type 0} (M : Machine S) (k : Knowledge) → HasRun M k.primary.list → Operation → Type 0
IsCovered M k run o =
    (M.find run.last (id_of o) ≡ Some o)
    × (covers k.primary.seen 0 (note_of (notes_from 0 [] [] run.moves) (id_of o)) ≡ true)

-- what is known after a release
abbrev pub with_released : Operation → Knowledge → Knowledge
with_released o k = record k { primary = with_release o k.primary }

-- ---- the steps

-- a step that is events, from what was known to what is known then
pub data ThreadStep {S : Type 0} (M : Machine S) (typed0 typed1 : List ℕ) (k : Knowledge) : Knowledge → Type 0 where
  Appends : (e : Entry) (run : HasLonger M k.primary.list e) → MayAppend k →
      IsTold M typed0 typed1 k run.before e → ThreadStep M typed0 typed1 k (appended e k)
  Holds : k.backup.winner ≡ 0 → ThreadStep M typed0 typed1 k (held k)
  Sees : k.primary.winner ≡ 0 → ThreadStep M typed0 typed1 k (saw (last_or 0 k.backup.held_values) k)
  Takes : (p : Packet) → k.backup.winner ≡ 0 → IsEntryOf k.generation k.primary.list p →
      ThreadStep M typed0 typed1 k (after_empty Inbox (Log p) k)
  PrimaryWins : k.primary.winner ≡ 0 → k.backup.winner ≡ 0 → ThreadStep M typed0 typed1 k (primary_asked 0 k)
  PrimaryLoses : k.primary.winner ≡ 0 → k.backup.winner ≡ 2 → ThreadStep M typed0 typed1 k (primary_asked 2 k)
  BackupWins : k.primary.winner ≡ 0 → k.backup.winner ≡ 0 → ThreadStep M typed0 typed1 k (backup_asked 0 k)
  BackupLoses : k.primary.winner ≡ 1 → k.backup.winner ≡ 0 → ThreadStep M typed0 typed1 k (backup_asked 1 k)
  Releases : (o : Operation) (run : HasRun M k.primary.list) → HasPort o → k.primary.winner ≡ 0 →
      IsCovered M k run o → ThreadStep M typed0 typed1 k (with_released o k)
  Arrives : (port number byte : ℕ) → port < 2 → hand_of port k ≡ Some (Byte port number byte) →
      ThreadStep M typed0 typed1 k (byte_arrived port k)
  Puts : (write : SectorWrite) → k.disk.taken ≡ Some (ask.Write write) →
      ThreadStep M typed0 typed1 k (after_fill Answers (Answer (answer.Written write.number)) k)

-- the events of the i-th append: the machine's steps up to the entry's count, then the entry's input, if it has one, and
-- then the entry is sent. No list has a read
abbrev pub AppendEvents : ℕ → Entry → List Event → Type 0
AppendEvents i (Mark count) events = (n : ℕ) × (events ≡ Step 0 n ∷ Send 0 i ∷ [])
AppendEvents i (Rx count port byte) events = (n key : ℕ) × (events ≡ Step 0 n ∷ TakeKey 0 port key ∷ Send 0 i ∷ [])
AppendEvents i (Sent count port) events = (n number : ℕ) × (events ≡ Step 0 n ∷ TellSent 0 port number ∷ Send 0 i ∷ [])
AppendEvents i (Written count number) events = (n m : ℕ) × (events ≡ Step 0 n ∷ PutReply m 0 ∷ Send 0 i ∷ [])
AppendEvents i (Sector count drive sector number bytes) events =
    (n m : ℕ) × (events ≡ Step 0 n ∷ Get 0 sector ∷ GetReply m 0 ∷ Send 0 i ∷ [])
AppendEvents i (Read count drive sector number) events = ⊥

-- seeing a number is one acknowledgement that arrives; seeing 0 is no event
abbrev pub SeeEvents : ℕ → List Event → Type 0
SeeEvents zero events = events ≡ []
SeeEvents (suc n) events = (m : ℕ) × (events ≡ DeliverAcknowledgement m 0 ∷ [])

-- the events of each step
abbrev pub EventsOf : {S : Type 0} {M : Machine S} {typed0 typed1 : List ℕ} {k new : Knowledge} →
    ThreadStep M typed0 typed1 k new → List Event → Type 0
EventsOf {k = k} (Appends e run may told) events = AppendEvents (length k.primary.list) e events
EventsOf (Holds waits) events = events ≡ Acknowledge 1 ∷ []
EventsOf {k = k} (Sees serves) events = SeeEvents (last_or 0 k.backup.held_values) events
EventsOf (Takes p waits is) events = (m : ℕ) × (events ≡ DeliverLog m 1 ∷ [])
EventsOf (PrimaryWins serves waits) events = events ≡ Suspect 0 ∷ []
EventsOf (PrimaryLoses serves other) events = events ≡ Suspect 0 ∷ []
EventsOf (BackupWins serves waits) events = events ≡ Suspect 1 ∷ []
EventsOf (BackupLoses other waits) events = events ≡ Suspect 1 ∷ []
EventsOf (Releases o run port serves covered) events = events ≡ Release 0 (id_of o) ∷ []
EventsOf (Arrives port number byte two hand) events = (m : ℕ) × (events ≡ Arrive m ∷ [])
EventsOf (Puts write taken) events = (m : ℕ) × (events ≡ Put m ∷ [])

-- a step that is not an event: the same world shows what is known before it and after it
pub data SilentStep {S : Type 0} (M : Machine S) (k : Knowledge) : Knowledge → Type 0 where
  Keeps : SilentStep M k k
  CountsNone : (port : ℕ) → hand_of port k ≡ None → SilentStep M k (byte_arrived port k)
  Carries : (p : Packet) → SilentStep M k (after_empty Outbox (Log p) k)
  SeesCount : (port n : ℕ) → counted_at port k ≤ n → SilentStep M k (saw_count port n k)
  TakesByte0 : (o : Operation) → SilentStep M k (after_empty Bytes0 (Out o) k)
  TakesByte1 : (o : Operation) → SilentStep M k (after_empty Bytes1 (Out o) k)
  TakesRequest : (r : DiskRequest) → SilentStep M k (after_empty Requests (Request r) k)
  HasAnswer : (a : DiskAnswer) → SilentStep M k (after_empty Answers (Answer a) k)
  AsksRead : (a : SectorAddress) → SilentStep M k (after_fill Requests (Request (ask.Read a)) k)
  AnswersRead : (a : SectorAddress) (r : SectorRead) → k.disk.taken ≡ Some (ask.Read a) →
      (r.number ≡ 0 → r.bytes ≡ M.boot_sector (read_address r)) →
      SilentStep M k (after_fill Answers (Answer (answer.Read r)) k)

-- ---- the laws

-- what the threads ask of the machine that they run
pub record Runnable {S : Type 0} (M : Machine S) : Type 0 where
  pub lawful : Lawful M
  pub counts : Counts M
  pub operations : ComesAndGoes M
  pub selected : ReadyIsSelected M

-- each step of the threads is its events of the world
abbrev pub StepsAreEvents : Type 0 → Type 0
StepsAreEvents S =
    (M : Machine S) (C : Copying S) → Runnable M → (typed0 typed1 : List ℕ) (k new : Knowledge) (w : World S) →
    Shows M typed0 typed1 k w → Stands k → (step : ThreadStep M typed0 typed1 k new) →
    Leads M C typed0 typed1 new w (EventsOf step)

-- from a world that actions reach, the events lead to one that actions reach; it is faithful, and what was settled grows
pub record LeadsFaithfully {S : Type 0} (M : Machine S) (C : Copying S) (typed0 typed1 : List ℕ) (k : Knowledge)
    (w : World S) (Form : List Event → Type 0) : Type 0 where
  pub leads : Leads M C typed0 typed1 k w Form
  pub reached : Reached M C leads.new
  pub faithful : Faithful M leads.new
  pub grows : Grows M w leads.new

-- the worlds that they lead to are faithful
abbrev pub StepsAreFaithful : Type 0 → Type 0
StepsAreFaithful S =
    (M : Machine S) (C : Copying S) → Runnable M → IsCopying M C → (typed0 typed1 : List ℕ) (k new : Knowledge)
    (w : World S) → Shows M typed0 typed1 k w → Stands k → Reached M C w → (step : ThreadStep M typed0 typed1 k new) →
    LeadsFaithfully M C typed0 typed1 new w (EventsOf step)

-- and the other steps lead from a shown world to the same world
abbrev pub SilentStepsShow : Type 0 → Type 0
SilentStepsShow S =
    (M : Machine S) (typed0 typed1 : List ℕ) (k new : Knowledge) (w : World S) → Shows M typed0 typed1 k w →
    SilentStep M k new → Shows M typed0 typed1 new w

-- ---- the opening: the bytes are typed, and the first core shows that world

-- events that type all bytes, and the world that they lead to
pub record Begun {S : Type 0} (M : Machine S) (C : Copying S) (typed0 typed1 : List ℕ) (generation : ℕ) : Type 0 where
  pub events : List Event
  pub replies : List Reply
  pub world : World S
  pub run : Happens M C (opening M Logged) events replies world
  pub reached : Reached M C world
  pub stands : Stands (first_known generation)
  pub shows : Shows M typed0 typed1 (first_known generation) world

-- a generation begins so
abbrev pub StartsShown : Type 0 → Type 0
StartsShown S =
    (M : Machine S) (C : Copying S) → Lawful M → (typed0 typed1 : List ℕ) (generation : ℕ) →
    Begun M C typed0 typed1 generation
