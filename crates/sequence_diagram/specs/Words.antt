-- What is said of events and of messages, in words.
use Rattle.std.specs.Prelude.{ℕ, zero, suc, ◌==◌, nat_lt, Bool, true, false, if◌then◌else◌, List, [], ◌∷◌, ◌++◌, Option, Some, None, Result, Ok, Err, codes}
use Rattle.std.specs.Char.{is_ascii_alphanumeric}
use Rattle.std.specs.Fmt.{decimal}
use Rattle.event_callbacks.specs.declared.operations.OpId.{OpId}
use Rattle.event_callbacks.specs.declared.operations.OpId.TheVariants as id
use Rattle.guest_lockstep.specs.declared.replay_end.ReplayEnd.{ReplayEnd}
use Rattle.guest_lockstep.specs.declared.replay_end.ReplayEnd.TheVariants as ended
use Rattle.guest_lockstep.specs.declared.running.StopReason.{StopReason}
use Rattle.guest_lockstep.specs.declared.running.StopReason.TheVariants as stopped
use Rattle.guest_lockstep.specs.declared.timed.Bare.{Bare}
use Rattle.guest_lockstep.specs.declared.timed.Bare.TheVariants as bare
use Rattle.i8080_words.specs.declared.refusal.Fault.{Fault}
use Rattle.i8080_words.specs.declared.refusal.Fault.TheVariants as refusal
use Rattle.pair_events.specs.Printed.{byte_text, ◌␣◌}
use Rattle.pair_events.specs.declared.event.Event.{Event}
use Rattle.pair_events.specs.declared.event.Event.TheVariants as event
use Rattle.pair_events.specs.declared.reply.Reply.{Reply}
use Rattle.pair_events.specs.declared.reply.Reply.TheVariants as reply
use Rattle.sequence_diagram.specs.Messages.{delivered_by}
use Rattle.sequence_diagram.specs.declared.moment.Cargo.{Cargo}
use Rattle.sequence_diagram.specs.declared.moment.Cargo.TheVariants as cargo
use Rattle.sequence_diagram.specs.declared.moment.NodeLook.{NodeLook}
use Rattle.sequence_diagram.specs.declared.moment.Moment.{Moment}

-- ---- numbers, bytes and operations

-- so many of something, by the word for one and that for more
abbrev pub counted_text : List ℕ → ℕ → List ℕ → List ℕ → List ℕ
counted_text words count one more = words ␣ decimal count ␣ (if count == 1 then one else more)

-- a byte in hexadecimal, and the letter or digit that it is, if it is one
abbrev pub letter_text : ℕ → List ℕ
letter_text byte = byte_text byte ++ (codes " (" ++ (byte ∷ codes ")"))

abbrev pub named_byte : ℕ → List ℕ
named_byte byte = if is_ascii_alphanumeric byte then letter_text byte else byte_text byte

abbrev pub key_text : ℕ → List ℕ
key_text byte = codes "key" ␣ named_byte byte

-- an operation; port 0 goes without saying
abbrev pub byte_of : ℕ → ℕ → List ℕ
byte_of zero number = codes "byte" ␣ decimal number
byte_of (suc port) number = codes "byte" ␣ decimal number ␣ codes "of port" ␣ decimal (suc port)

abbrev pub operation_text : OpId → List ℕ
operation_text (id.Byte port number) = byte_of port number
operation_text (id.Write number) = codes "write" ␣ decimal number

-- why something is refused
abbrev pub fault_text : Fault → List ℕ
fault_text refusal.OutOfMemory = codes "out of memory"
fault_text refusal.Spent = codes "numbers are spent"
fault_text refusal.LogFull = codes "the log is full"
fault_text refusal.NotDue = codes "not due"
fault_text refusal.WrongNumber = codes "wrong number"
fault_text refusal.StaleRead = codes "stale read"
fault_text refusal.SectorBusy = codes "the sector is busy"
fault_text refusal.WrongRole = codes "wrong role"
fault_text refusal.WrongGeneration = codes "wrong generation"
fault_text refusal.Malformed = codes "malformed"
fault_text refusal.NotWhole = codes "not whole"
fault_text refusal.NotCovered = codes "not covered"
fault_text refusal.DeviceFault = codes "device fault"
fault_text refusal.Lost = codes "lost"
fault_text refusal.Unknown = codes "there is none"
fault_text refusal.BadAck = codes "bad acknowledgement"
fault_text refusal.Stalled = codes "stalled"
fault_text refusal.Idle = codes "idle"
fault_text (refusal.BadScript line) = codes "bad script"

abbrev pub reason_text : Fault → List ℕ
reason_text fault = codes "refused, " ++ fault_text fault

-- ---- what a message carries

-- the input of an entry of the log; a mark is of output
abbrev pub input_text : Option Bare → List ℕ
input_text None = codes "output"
input_text (Some (bare.Rx port byte)) = key_text byte
input_text (Some (bare.Sent port)) = codes "byte accepted"
input_text (Some (bare.Sector drive sector)) = codes "sector" ␣ decimal sector
input_text (Some (bare.Written number)) = codes "write" ␣ decimal number ␣ codes "done"

abbrev pub entry_text : ℕ → ℕ → Option Bare → List ℕ
entry_text index count input =
    codes "entry " ++ (decimal index ++ (codes ": " ++ (input_text input ++ (codes " at count " ++ decimal count))))

-- what a backup reports
abbrev pub replayed_text : Option ℕ → List ℕ
replayed_text None = []
replayed_text (Some replayed) = codes ", replayed" ␣ decimal replayed

abbrev pub held_text : ℕ → Option ℕ → List ℕ
held_text held replayed = counted_text (codes "holds") held (codes "entry") (codes "entries") ++ replayed_text replayed

-- what a sector has: what a write has put there, or what it had at boot
abbrev pub sector_text : ℕ → ℕ → List ℕ
sector_text zero sector = codes "sector" ␣ decimal sector ++ codes ", as at boot"
sector_text (suc before) sector = codes "sector " ++ (decimal sector ++ (codes ", as write " ++ (decimal (suc before) ++ codes " left it")))

-- a part of a copy is named by the event that sends it
abbrev pub cargo_text : Cargo → List ℕ
cargo_text (cargo.Entry index count input) = entry_text index count input
cargo_text (cargo.Acknowledgement held replayed) = held_text held replayed
cargo_text cargo.Part = []
cargo_text (cargo.Byte port number byte) = codes "byte " ++ (decimal number ++ (codes ": " ++ named_byte byte))
cargo_text (cargo.Write number address) = codes "write " ++ (decimal number ++ (codes " of sector " ++ decimal address.sector))
cargo_text (cargo.Written number) = codes "write" ␣ decimal number ++ codes " is done"
cargo_text (cargo.Sector number address) = sector_text number address.sector

abbrev pub part_text : Event → List ℕ
part_text (event.SendPart node index) = codes "part" ␣ decimal index
part_text other = []

abbrev pub carried_by : Option Cargo → Event → List ℕ
carried_by None happened = []
carried_by (Some cargo.Part) happened = part_text happened
carried_by (Some other) happened = cargo_text other

abbrev pub carried_text : Moment → List ℕ
carried_text moment = carried_by moment.cargo moment.event

-- ---- what happens at one place

-- an event by itself: what it does, or was to do
abbrev pub late_attempt : Event → List ℕ
late_attempt (event.Replay node turns) = codes "replay"
late_attempt (event.Drain node turns) = codes "replay"
late_attempt (event.Told node port) = codes "tell the terminal"
late_attempt (event.Fetch node) = codes "read a sector"
late_attempt (event.Freshen node pages) = codes "copy pages early"
late_attempt other = codes "a message"

abbrev pub attempt_text : Event → List ℕ
attempt_text (event.Send node index) = codes "send entry" ␣ decimal index
attempt_text (event.SendPart node index) = codes "send part" ␣ decimal index
attempt_text (event.Get node sector) = codes "read sector" ␣ decimal sector
attempt_text (event.BeginPair node host) = codes "pair with host" ␣ decimal host
attempt_text (event.Step node turns) = codes "step"
attempt_text (event.Acknowledge node) = codes "acknowledge"
attempt_text other = late_attempt other

abbrev pub event_text : Event → List ℕ
event_text (event.TypeByte port byte) = codes "types" ␣ named_byte byte
event_text (event.TakeKey node port index) = codes "key" ␣ decimal index
event_text (event.TellSent node port number) = codes "byte" ␣ decimal number ++ codes " was accepted"
event_text (event.Release node name) = codes "release of" ␣ operation_text name
event_text (event.Suspect node) = codes "suspects its peer"
event_text (event.Stop node) = codes "stops"
event_text other = attempt_text other

-- one that was to bring a message is named by that
abbrev pub named_by : Option ℕ → Event → List ℕ
named_by (Some message) happened = codes "message" ␣ decimal message
named_by None happened = event_text happened

abbrev pub named_text : Event → List ℕ
named_text happened = named_by (delivered_by happened) happened

-- one that was refused; a question to the arbiter was asked even if the other node had won
abbrev pub because_text : Event → Fault → List ℕ
because_text happened fault = named_text happened ++ (codes ": " ++ reason_text fault)

abbrev pub lost_text : Event → List ℕ
lost_text (event.Suspect node) = codes "suspects its peer"
lost_text other = because_text other refusal.Lost

abbrev pub refused_text : Event → Fault → List ℕ
refused_text happened refusal.Lost = lost_text happened
refused_text happened fault = because_text happened fault

-- steps that were executed, and what ended them
abbrev pub stopped_text : Fault → List ℕ
stopped_text refusal.Idle = codes "waits for an interrupt"
stopped_text fault = codes "runs until" ␣ fault_text fault

abbrev pub run_text : ℕ → StopReason → List ℕ
run_text steps stopped.Turns = counted_text (codes "runs") steps (codes "step") (codes "steps")
run_text steps (stopped.Operation name) = codes "gives" ␣ operation_text name
run_text steps (stopped.Refused fault) = stopped_text fault

-- moves that were made, and whether no more were for want of a sector
abbrev pub moves_text : ℕ → List ℕ → List ℕ
moves_text moves after = counted_text (codes "replays") moves (codes "move") (codes "moves") ++ after

abbrev pub after_moves : ReplayEnd → List ℕ
after_moves ended.Wait = codes ", waits for a sector"
after_moves other = []

-- what an event has done
abbrev pub done_text : Event → Reply → List ℕ
done_text happened (reply.Ran steps count why) = run_text steps why
done_text happened (reply.Moved moves why) = moves_text moves (after_moves why)
done_text happened (reply.MovedAlone moves) = moves_text moves (codes ", then is alone")
done_text happened (reply.Told keys) = codes "covered keys:" ␣ decimal keys
done_text happened (reply.Stale pages) = codes "copies pages early, stale:" ␣ decimal pages
done_text happened (reply.Generation generation) = codes "begins generation" ␣ decimal generation
done_text happened other = event_text happened

abbrev pub note_by : Event → Result Reply Fault → List ℕ
note_by happened (Err fault) = refused_text happened fault
note_by happened (Ok answer) = done_text happened answer

abbrev pub note_text : Moment → List ℕ
note_text moment = note_by moment.event moment.answer

-- ---- what came of a message, or of a question to the arbiter

abbrev pub result_text : Reply → List ℕ
result_text reply.New = codes "held"
result_text reply.Old = codes "nothing new"
result_text reply.Accepted = codes "accepted"
result_text reply.Dropped = codes "dropped"
result_text reply.Whole = codes "the copy is whole"
result_text other = []

abbrev pub winner_text : Option NodeLook → List ℕ
winner_text (Some look) = codes "node" ␣ decimal look.node ++ codes " has won"
winner_text None = []

abbrev pub arbiter_text : Event → List ℕ
arbiter_text (event.Suspect node) = codes "refuses: the other won"
arbiter_text other = reason_text refusal.Lost

abbrev pub came_text : Event → Reply → Option NodeLook → List ℕ
came_text (event.Suspect node) answer look = winner_text look
came_text other answer look = result_text answer

abbrev pub outcome_by : Event → Result Reply Fault → Option NodeLook → List ℕ
outcome_by happened (Err refusal.Lost) look = arbiter_text happened
outcome_by happened (Err fault) look = reason_text fault
outcome_by happened (Ok answer) look = came_text happened answer look

abbrev pub outcome_text : Moment → List ℕ
outcome_text moment = outcome_by moment.event moment.answer moment.look

-- what the disk has done with a write that arrived, by the newest one of its sector before it
abbrev pub kept_text : ℕ → ℕ → List ℕ
kept_text number newest =
    if nat_lt number newest then codes "keeps newer write" ␣ decimal newest
    else if newest == number then codes "has write" ␣ decimal newest ++ codes " already"
    else codes "stores write" ␣ decimal number

-- what goes without saying
abbrev pub is_plain : Result Reply Fault → Bool
is_plain (Ok reply.Taken) = true
is_plain (Ok (reply.Told keys)) = true
is_plain (Ok (reply.Held held)) = true
is_plain (Ok (reply.Message message)) = true
is_plain answer = false
