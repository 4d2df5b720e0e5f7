-- The kinds of step of the table, each with what the table asks of it and what its thread promises beyond that; and the
-- events that each is.
use Rattle.std.specs.Prelude.{◌≡◌, ◌⊎◌, ℕ, ◌<◌, List, [], ◌∷◌, length, Option, Some, None}
use Rattle.event_callbacks.specs.Operations.{id_of}
use Rattle.event_callbacks.specs.declared.operations.Operation.{Operation}
use Rattle.event_callbacks.specs.declared.operations.Operation.TheVariants.{Write}
use Rattle.guest_lockstep.specs.Machine.{Machine}
use Rattle.log_entry.specs.declared.entry.Entry.{Entry}
use Rattle.pair_events.specs.declared.event.Event.{Event}
use Rattle.pair_events.specs.declared.event.Event.TheVariants.{Acknowledge, Arrive, DeliverLog, Put, Release, Suspect}
use Rattle.pair_protocol.specs.Change.{Reached}
use Rattle.pair_protocol.specs.Copying.{Copying, IsCopying}
use Rattle.pair_protocol.specs.World.{World}
use Rattle.pair_rule.specs.declared.mailbox.Mailbox.{Mailbox}
use Rattle.pair_rule.specs.declared.mailbox.Mailbox.TheVariants.{Inbox, Bytes0, Bytes1, Requests, Answers}
use Rattle.pair_rule.specs.declared.payload.DiskAnswer.{DiskAnswer}
use Rattle.pair_rule.specs.declared.payload.DiskAnswer.TheVariants as answer
use Rattle.pair_rule.specs.declared.payload.DiskRequest.TheVariants as ask
use Rattle.pair_rule.specs.declared.payload.Payload.{Payload}
use Rattle.pair_rule.specs.declared.payload.Payload.TheVariants.{Log, Out, Request, Answer}
use Rattle.pair_rule.specs.declared.view.Knowledge.{Knowledge}
use Rattle.pair_rule.specs.Boxes.{Primary, Backup, filler, emptier}
use Rattle.shared_disk.specs.Arrivals.{read_address}
use Rattle.pair_rule.specs.Knowledge.{CanFill, Fits, Replies, Stands, accepted_at, after_empty, after_fill, appended, backup_asked, byte_arrived, held, last_or, primary_asked, saw, saw_count, winner_of}
use Rattle.pair_rule.specs.Law.{AppendEvents, EventsOf, HasLonger, HasRun, IsCovered, IsTold, LeadsFaithfully, MayAppend, Runnable, SeeEvents, SilentStep, ThreadStep}
use Rattle.pair_rule.specs.Shown.{Shows, hand_of}
pub use Rattle.pair_rule.specs.Histories.{AsksNot}

-- an operation is given away only if it is covered
abbrev pub MayRelease : {S : Type 0} (M : Machine S) → Knowledge → Operation → Type 0
MayRelease M k o = (run : HasRun M k.primary.list) × IsCovered M k run o

-- a sector that was read before any write has the bytes that it booted with
abbrev pub ReadsBoot : {S : Type 0} → Machine S → DiskAnswer → Type 0
ReadsBoot M (answer.Written number) = Unit {0}
ReadsBoot M (answer.Read r) = r.number ≡ 0 → r.bytes ≡ M.boot_sector (read_address r)

-- what a thread promises of what it puts into a box
abbrev pub Promised : {S : Type 0} (M : Machine S) → Knowledge → Mailbox → Payload → Type 0
Promised M k Bytes0 (Out o) = MayRelease M k o
Promised M k Bytes1 (Out o) = MayRelease M k o
Promised M k Requests (Request (ask.Write w)) = MayRelease M k (Write w)
Promised M k Answers (Answer a) = Replies k.disk a × ReadsBoot M a
Promised M k _ _ = Unit {0}

-- a step of the table, from what all seats know to what they know then
pub data TableStep {S : Type 0} (M : Machine S) (typed0 typed1 : List ℕ) (k : Knowledge) : Knowledge → Type 0 where
  -- a first slot or a last one, a split, a join, a box found empty
  Stays : TableStep M typed0 typed1 k k
  Fills : (b : Mailbox) (q : Payload) → AsksNot (filler b) k → CanFill b k q → Promised M k b q →
      TableStep M typed0 typed1 k (after_fill b q k)
  Empties : (b : Mailbox) (q : Payload) → AsksNot (emptier b) k → Fits b k q →
      TableStep M typed0 typed1 k (after_empty b q k)
  Appends : (e : Entry) (run : HasLonger M k.primary.list e) → MayAppend k →
      IsTold M typed0 typed1 k run.before e → TableStep M typed0 typed1 k (appended e k)
  Sees : AsksNot Primary k → TableStep M typed0 typed1 k (saw (last_or 0 k.backup.held_values) k)
  Holds : AsksNot Backup k → TableStep M typed0 typed1 k (held k)
  PrimaryAsks : AsksNot Primary k →
      TableStep M typed0 typed1 k (primary_asked (winner_of k.primary.winner k.backup.winner) k)
  BackupAsks : AsksNot Backup k →
      TableStep M typed0 typed1 k (backup_asked (winner_of k.primary.winner k.backup.winner) k)
  Counts : (port : ℕ) → port < 2 → TableStep M typed0 typed1 k (byte_arrived port k)
  SeesCount : (port : ℕ) → port < 2 → AsksNot Primary k →
      TableStep M typed0 typed1 k (saw_count port (accepted_at port k) k)

-- ---- the events of each kind of step; the world stays as it is if there are none

-- what fills a box: bytes and writes are released, and an answer to a write says that it was put
abbrev pub FillEvents : Mailbox → Payload → List Event → Type 0
FillEvents Bytes0 (Out o) events = events ≡ Release 0 (id_of o) ∷ []
FillEvents Bytes1 (Out o) events = events ≡ Release 0 (id_of o) ∷ []
FillEvents Requests (Request (ask.Write w)) events = events ≡ Release 0 (id_of (Write w)) ∷ []
FillEvents Answers (Answer (answer.Written n)) events = (m : ℕ) × (events ≡ Put m ∷ [])
FillEvents _ _ events = events ≡ []

-- what is taken out of a box: a packet is delivered
abbrev pub EmptyEvents : Mailbox → Payload → List Event → Type 0
EmptyEvents Inbox (Log p) events = (m : ℕ) × (events ≡ DeliverLog m 1 ∷ [])
EmptyEvents _ _ events = events ≡ []

-- a byte in hand arrives
abbrev pub CountEvents : Option Operation → List Event → Type 0
CountEvents (Some o) events = (m : ℕ) × (events ≡ Arrive m ∷ [])
CountEvents None events = events ≡ []

-- the table of all kinds
abbrev pub TableEvents : {S : Type 0} {M : Machine S} {typed0 typed1 : List ℕ} {k new : Knowledge} →
    TableStep M typed0 typed1 k new → List Event → Type 0
TableEvents Stays events = events ≡ []
TableEvents (Fills b q waits can kept) events = FillEvents b q events
TableEvents (Empties b q waits fits) events = EmptyEvents b q events
TableEvents {k = k} (Appends e run may told) events = AppendEvents (length k.primary.list) e events
TableEvents {k = k} (Sees waits) events = SeeEvents (last_or 0 k.backup.held_values) events
TableEvents (Holds waits) events = events ≡ Acknowledge 1 ∷ []
TableEvents (PrimaryAsks waits) events = events ≡ Suspect 0 ∷ []
TableEvents (BackupAsks waits) events = events ≡ Suspect 1 ∷ []
TableEvents {k = k} (Counts port two) events = CountEvents (hand_of port k) events
TableEvents (SeesCount port two waits) events = events ≡ []

-- ---- the laws

-- the step is one that is events, and they are those of its row
pub record HasEvents {S : Type 0} (M : Machine S) (typed0 typed1 : List ℕ) (k new : Knowledge)
    (Row : List Event → Type 0) : Type 0 where
  pub step : ThreadStep M typed0 typed1 k new
  pub row : (events : List Event) → EventsOf step events → Row events

-- or one that is none, and its row has none
pub record HasNoEvents {S : Type 0} (M : Machine S) (k new : Knowledge) (Row : List Event → Type 0) : Type 0 where
  pub step : SilentStep M k new
  pub row : Row []

-- what held still holds, and the step is the events of its kind, or none
pub record IsStep {S : Type 0} (M : Machine S) (typed0 typed1 : List ℕ) (k new : Knowledge)
    (kind : TableStep M typed0 typed1 k new) : Type 0 where
  pub stands : Stands new
  pub step : HasEvents M typed0 typed1 k new (TableEvents kind) ⊎ HasNoEvents M k new (TableEvents kind)

-- so it is with each kind of step
abbrev pub TableStepsAreSteps : Type 0 → Type 0
TableStepsAreSteps S =
    (M : Machine S) (typed0 typed1 : List ℕ) (k new : Knowledge) → Stands k →
    (kind : TableStep M typed0 typed1 k new) → IsStep M typed0 typed1 k new kind

-- the events of its kind lead from a world that actions reach, and that shows what was known, to such a world that shows
-- what is known then; it is faithful, and what was settled grows
abbrev pub TableStepsAreFaithful : Type 0 → Type 0
TableStepsAreFaithful S =
    (M : Machine S) (C : Copying S) → Runnable M → IsCopying M C → (typed0 typed1 : List ℕ) (k new : Knowledge)
    (w : World S) → Shows M typed0 typed1 k w → Stands k → Reached M C w → (kind : TableStep M typed0 typed1 k new) →
    LeadsFaithfully M C typed0 typed1 new w (TableEvents kind)
