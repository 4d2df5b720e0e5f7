-- What the output rule holds back after each event of a run: what a primary has given, and its backup has not acknowledged.
use Rattle.std.specs.Prelude.{◌≡◌, ℕ, zero, suc, ◌+◌, ◌-◌, ◌^◌, ◌==◌, ◌||◌, nat_lt, nat_le, min, max, Bool, if◌then◌else◌, List, [], ◌∷◌, ◌++◌, length, filter, slice_get, unwrap_or, Option, Some, None, Result, Ok}
use Rattle.event_callbacks.specs.declared.operations.OpId.{OpId}
use Rattle.event_callbacks.specs.declared.operations.OpId.TheVariants.{Byte, Write}
use Rattle.guest_lockstep.specs.declared.running.StopReason.TheVariants as stopped
use Rattle.i8080_words.specs.declared.refusal.Fault.{Fault}
use Rattle.pair_events.specs.declared.event.Event.{Event}
use Rattle.pair_events.specs.declared.event.Event.TheVariants as event
use Rattle.pair_events.specs.declared.reply.Reply.{Reply}
use Rattle.pair_events.specs.declared.reply.Reply.TheVariants as reply
use Rattle.pair_events.specs.declared.reply.Role.{Role}
use Rattle.pair_events.specs.declared.reply.Role.TheVariants.{Primary}
use Rattle.sequence_diagram.specs.Arrows.{HasArrow}
use Rattle.sequence_diagram.specs.declared.arrows.Arrow.{Arrow}
use Rattle.sequence_diagram.specs.declared.moment.Cargo.{Cargo}
use Rattle.sequence_diagram.specs.declared.moment.Cargo.TheVariants.{Acknowledgement}
use Rattle.sequence_diagram.specs.declared.moment.NodeLook.{NodeLook}
use Rattle.sequence_diagram.specs.declared.moment.Moment.{Moment}
use Rattle.sequence_diagram.specs.declared.waits.WaitingOperation.{WaitingOperation}
use Rattle.sequence_diagram.specs.declared.waits.Tally.{Tally}
use Rattle.sequence_diagram.specs.declared.waits.OutputWait.{OutputWait}

-- Of the generation's primary: how many entries it has logged, how many there were at its last read of a sector, how many its
-- backup holds and has replayed, and its operations that wait.
pub record Standing : Type 0 where
  pub node : ℕ
  pub logged : ℕ
  pub last_read : ℕ
  pub held : ℕ
  pub replayed : ℕ
  pub waiting : List WaitingOperation

abbrev pub standing_of : Tally → Standing
standing_of tally = record {
  node = tally.node;
  logged = tally.logged;
  last_read = tally.last_read;
  held = tally.held;
  replayed = tally.replayed;
  waiting = tally.waiting.items;
}

abbrev pub wait_of : Standing → OutputWait
wait_of s = record { node = s.node; operations = length s.waiting }

-- a generation begins or ends: nothing waits
abbrev pub begun : ℕ → Standing
begun node = record { node = node; logged = 0; last_read = 0; held = 0; replayed = 0; waiting = [] }

-- one entry more; no log has 2^64
abbrev pub next : ℕ → ℕ
next n = min (n + 1) (2 ^ 64 - 1)

-- an operation is given, and logged; a write waits for the reads before it too
abbrev pub after_reads : OpId → ℕ → ℕ
after_reads (Byte port number) reads = 0
after_reads (Write number) reads = reads

abbrev pub given : OpId → Standing → Standing
given name s = record s {
  waiting = s.waiting ++ record { index = s.logged; after = after_reads name s.last_read } ∷ [];
  logged = next s.logged;
}

-- an input is taken, and logged
abbrev pub last_read_by : Event → ℕ → ℕ → ℕ
last_read_by (event.GetReply message node) logged before = logged
last_read_by other logged before = before

abbrev pub taken : Event → Standing → Standing
taken happened s = record s { logged = next s.logged; last_read = last_read_by happened (next s.logged) s.last_read }

-- what a primary has put into its log
abbrev pub logged_by : Role → Event → Reply → ℕ → Standing → Standing
logged_by Primary happened (reply.Ran steps count (stopped.Operation name)) node s = given name (record s { node = node })
logged_by Primary happened reply.Taken node s = taken happened s
logged_by role happened answer node s = s

-- what an event at a node means for its log
abbrev pub noted_by : Event → Reply → ℕ → Role → Standing → Standing
noted_by happened (reply.Generation generation) node role s = begun node
noted_by happened reply.Won node role s = begun node
noted_by happened reply.Stopped node role s = if node == s.node then begun node else s
noted_by happened answer node role s = logged_by role happened answer node s

abbrev pub noted_if : Option NodeLook → Event → Result Reply Fault → Standing → Standing
noted_if (Some look) happened (Ok answer) s = noted_by happened answer look.node look.role s
noted_if look happened answer s = s

abbrev pub noted : Moment → Standing → Standing
noted moment s = noted_if moment.look moment.event moment.answer s

-- an operation waits until its entry is held, and the reads before it are replayed
abbrev pub still_waits : ℕ → ℕ → WaitingOperation → Bool
still_waits held replayed operation = nat_le held operation.index || nat_lt replayed operation.after

abbrev pub acknowledged : ℕ → ℕ → Standing → Standing
acknowledged held replayed s = record s {
  held = held;
  replayed = replayed;
  waiting = filter (still_waits held replayed) s.waiting;
}

-- an acknowledgement that the primary has taken; one without a report is of a log with all bytes
abbrev pub arrived_by : Result Reply Fault → Option Cargo → Standing → Standing
arrived_by (Ok (reply.Held count)) (Some (Acknowledgement held replayed)) s =
    acknowledged (max s.held held) (max s.replayed (unwrap_or replayed (2 ^ 64 - 1))) s
arrived_by answer cargo s = s

-- ---- a run

abbrev pub cargo_in : Option Moment → Option Cargo
cargo_in (Some moment) = moment.cargo
cargo_in None = None

abbrev pub cargo_by : List Moment → Option Arrow → Option Cargo
cargo_by moments (Some arrow) = cargo_in (slice_get moments arrow.sent)
cargo_by moments None = None

-- what the message carries that an event has brought
abbrev pub HasCargo : List Moment → ℕ → Option Cargo → Type 0
HasCargo moments place cargo = (found : Option Arrow) × (HasArrow moments place found × (cargo ≡ cargo_by moments found))

-- what an event changes, with what the message carries that it has brought
abbrev pub after_event : Moment → Option Cargo → Standing → Standing
after_event moment cargo s = arrived_by moment.answer cargo (noted moment s)

abbrev pub StandsThen : List Moment → ℕ → Standing → Standing → Type 0
StandsThen moments place before after = (moment : Moment) × ((slice_get moments place ≡ Some moment)
    × ((cargo : Option Cargo) × (HasCargo moments place cargo × (after ≡ after_event moment cargo before))))

-- what stands after so many events, and what has waited after each of them
abbrev pub WaitsAfter : List Moment → ℕ → Standing → List OutputWait → Type 0
WaitsAfter moments zero s waits = (s ≡ begun 0) × (waits ≡ [])
WaitsAfter moments (suc place) s waits = (before : Standing) × ((waited : List OutputWait)
    × (WaitsAfter moments place before waited × (StandsThen moments place before s × (waits ≡ waited ++ wait_of s ∷ []))))

abbrev pub AreWaits : List Moment → List OutputWait → Type 0
AreWaits moments waits = (s : Standing) × WaitsAfter moments (length moments) s waits
