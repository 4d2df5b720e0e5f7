-- Which events are never refused as out of memory, and where a replay may stop when memory runs out.
use Rattle.std.specs.Prelude.{◌≡◌, ◌≢◌, ℕ, suc, ◌<◌, ◌⊎◌, Some, None, is_none, false, List, length, slice_get}
use Rattle.event_callbacks.specs.declared.operations.Operation.TheVariants.{Byte}
use Rattle.guest_lockstep.specs.Machine.{Machine}
use Rattle.i8080_words.specs.declared.refusal.Fault.TheVariants.{OutOfMemory}
use Rattle.log_entry.specs.Entries.{count_of}
use Rattle.log_entry.specs.declared.entry.Entry.{Entry}
use Rattle.pair_protocol.specs.Copying.{Copying}
use Rattle.pair_protocol.specs.Node.{Node, gathered, gets_part}
use Rattle.pair_protocol.specs.World.{World, LogEntry, ImagePart, Released, accepted, winner_in}
use Rattle.pair_events.specs.declared.event.Event.{Event}
use Rattle.pair_events.specs.declared.event.Event.TheVariants.{Step, DeliverLog, Replay, Arrive, Suspect, Drain, PartComes}
use Rattle.pair_protocol.specs.Reply.{Reply, Refused}
use Rattle.pair_protocol.specs.Effects.{IsBehind, Replays, wanted}
use Rattle.pair_protocol.specs.Row.{Row}

-- an event is never answered with out of memory
abbrev pub NeedsNone : {S : Type 0} → Machine S → Copying S → World S → Event → Type 0
NeedsNone {S} M C w e = (new : World S) (r : Reply) → Row M C w e r new → r ≢ Refused OutOfMemory

-- a step, a replay or a drain of no turns
abbrev pub NoTurnsNeedNone : (S : Type 0) → Type 0
NoTurnsNeedNone S =
    (M : Machine S) (C : Copying S) (w : World S) (n : ℕ) →
    NeedsNone M C w (Step n 0) × NeedsNone M C w (Replay n 0) × NeedsNone M C w (Drain n 0)

-- a replay or a drain whose first move is not a step
abbrev pub OtherMovesNeedNone : (S : Type 0) → Type 0
OtherMovesNeedNone S =
    (M : Machine S) (C : Copying S) (w : World S) (n turns : ℕ) (x : Node S) → slice_get w.nodes n ≡ Some x →
    (IsBehind M x → ⊥) → NeedsNone M C w (Replay n turns) × NeedsNone M C w (Drain n turns)

-- a packet that is a repeat or past a gap
abbrev pub OtherEntriesNeedNone : (S : Type 0) → Type 0
OtherEntriesNeedNone S =
    (M : Machine S) (C : Copying S) (w : World S) (m n generation index : ℕ) (e : Entry) (x : Node S) →
    slice_get w.messages m ≡ Some (LogEntry generation index e) → slice_get w.nodes n ≡ Some x →
    index ≢ length x.held → NeedsNone M C w (DeliverLog m n)

-- a byte that its terminal drops
abbrev pub OtherBytesNeedNone : (S : Type 0) → Type 0
OtherBytesNeedNone S =
    (M : Machine S) (C : Copying S) (w : World S) (m port number byte : ℕ) →
    slice_get w.messages m ≡ Some (Released (Byte port number byte)) → number ≢ suc (length (accepted w port)) →
    NeedsNone M C w (Arrive m)

-- a part with which its node still lacks one
abbrev pub OtherPartsNeedNone : (S : Type 0) → Type 0
OtherPartsNeedNone S =
    (M : Machine S) (C : Copying S) (w : World S) (m n generation index : ℕ) (part : List ℕ) (x : Node S) →
    slice_get w.messages m ≡ Some (ImagePart generation index part) → slice_get w.nodes n ≡ Some x →
    gathered (gets_part x index part).parts ≡ None → NeedsNone M C w (PartComes m n)

-- a winner that asks again
abbrev pub WinnersNeedNone : (S : Type 0) → Type 0
WinnersNeedNone S =
    (M : Machine S) (C : Copying S) (w : World S) (n : ℕ) (x : Node S) → slice_get w.nodes n ≡ Some x →
    winner_in w.winners x.generation ≡ Some n → NeedsNone M C w (Suspect n)

-- moves end if all that were asked for are made, if nothing is left, if the next one is a step, or if it waits for bytes
abbrev pub StopsAtSteps : (S : Type 0) → Type 0
StopsAtSteps S =
    (M : Machine S) (x y : Node S) (turns made : ℕ) → Replays M x turns y made →
    (made ≡ turns) ⊎ (y.replayed ≡ length y.held)
    ⊎ ((e : Entry) × (slice_get y.held y.replayed ≡ Some e) × (M.count y.machine < count_of e))
    ⊎ (is_none (wanted M y) ≡ false)
