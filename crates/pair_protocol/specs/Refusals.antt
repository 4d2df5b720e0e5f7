-- Why an event is refused: the node's part over plain values, the world's part, and both in the one order of refusals
-- (15, 8, 10, 11, 9, 16, 4, 7, 5, 6, 12, 3, 2, 18, 13, 14, 1).
use Rattle.std.specs.Prelude.{ℕ, zero, suc, ◌-◌, ◌^◌, Bool, false, not, ◌==◌, ◌&&◌, ◌||◌, nat_lt, nat_le, if◌then◌else◌, Option, Some, None, is_none, List, [], ◌∷◌, length, slice_get}
use Rattle.disk_dcdd.specs.Address.{same_address}
use Rattle.disk_dcdd.specs.declared.address.SectorAddress.{SectorAddress}
use Rattle.event_callbacks.specs.declared.operations.OpId.{OpId}
use Rattle.event_callbacks.specs.declared.operations.OpId.TheVariants as id
use Rattle.event_callbacks.specs.declared.operations.Operation.TheVariants.{Byte, Write}
use Rattle.guest_lockstep.specs.Machine.{Machine, refusal_of}
use Rattle.guest_lockstep.specs.declared.input.Input.TheVariants as input
use Rattle.i8080_words.specs.declared.refusal.Fault.{Fault}
use Rattle.i8080_words.specs.declared.refusal.Fault.TheVariants.{Unknown, WrongRole, NotWhole, WrongGeneration, BadAck, NotDue, StaleRead, WrongNumber, NotCovered, LogFull, Spent, Idle, Lost}
use Rattle.pair_protocol.specs.Lawful.{top}
use Rattle.pair_protocol.specs.Copying.{Copying}
use Rattle.pair_protocol.specs.Node.{Node, Role, Primary, Backup, Joining, Draining, Alone, Spare, is_role, acts_as, note_of, covers}
use Rattle.pair_protocol.specs.World.{World, Message, LogEntry, Acknowledgement, ImagePart, Released, WriteDone, SectorRead, terminal, accepted, winner_in}
use Rattle.pair_events.specs.declared.event.Event.{Event}
use Rattle.pair_events.specs.declared.event.Event.TheVariants.{Step, TypeByte, TakeKey, Send, DeliverLog, Acknowledge, DeliverAcknowledgement, Replay, Release, Arrive, TellSent, Told, Stop, Suspect, Drain, Put, PutReply, Get, GetReply, BeginPair, SendPart, PartComes, Freshen, Fetch, Fetched}
use Rattle.pair_protocol.specs.Effects.{wanted}

-- a fault if the condition holds
abbrev pub fault_if : Bool → Fault → Option Fault
fault_if stands fault = if stands then Some fault else None

-- the first refusal of a list
abbrev pub first_of : List (Option Fault) → Option Fault
first_of [] = None
first_of (None ∷ rest) = first_of rest
first_of (Some fault ∷ rest) = Some fault

-- ---- the node's part

-- the node is halted, or has none of the roles
abbrev pub role_refusal : {S : Type 0} → List Role → Node S → Option Fault
role_refusal roles x = fault_if (not (acts_as x roles)) WrongRole

abbrev pub serves : {S : Type 0} → Node S → Option Fault
serves x = role_refusal (Primary ∷ Alone ∷ []) x

-- how many entries a log takes past the acknowledged ones
abbrev pub log_size : ℕ
log_size = 256

-- a primary takes nothing if its log is full, or if no index is left for an entry
abbrev pub log_full : {S : Type 0} → Node S → Option Fault
log_full x = fault_if (is_role x.role Primary && nat_le log_size (length x.log - x.covered)) LogFull

abbrev pub log_spent : {S : Type 0} → Node S → Option Fault
log_spent x = fault_if (is_role x.role Primary && nat_le top (length x.log)) Spent

abbrev pub generation_refusal : {S : Type 0} → ℕ → Node S → Option Fault
generation_refusal generation x = fault_if (not (generation == x.generation)) WrongGeneration

abbrev pub step_refusal : {S : Type 0} → Machine S → ℕ → Node S → Option Fault
step_refusal M zero x = serves x
step_refusal M (suc turns) x =
    first_of
    (serves x ∷ log_full x ∷ log_spent x ∷ fault_if (M.is_spent x.machine) Spent
    ∷ fault_if (is_none (M.step x.machine)) Idle ∷ [])

-- no number is left for a key of the port
abbrev pub keys_spent : {S : Type 0} → Machine S → ℕ → Node S → Option Fault
keys_spent M port x = fault_if (nat_le top (M.keys x.machine port)) Spent

abbrev pub take_key_refusal : {S : Type 0} → Machine S → ℕ → ℕ → Node S → Option Fault
take_key_refusal M port index x =
    first_of
    (serves x ∷ fault_if (not (index == M.keys x.machine port)) WrongNumber ∷ log_full x ∷ log_spent x
    ∷ keys_spent M port x ∷ [])

-- this is the number of the byte whose acceptance is due
abbrev pub is_number : Option ℕ → ℕ → Bool
is_number None number = false
is_number (Some k) number = k == number

abbrev pub tell_sent_refusal : {S : Type 0} → Machine S → ℕ → ℕ → Node S → Option Fault
tell_sent_refusal M port number x =
    first_of
    (serves x ∷ refusal_of M x.machine (input.Sent port)
    ∷ fault_if (not (is_number (M.due_byte x.machine port) number)) WrongNumber ∷ log_full x ∷ log_spent x ∷ [])

abbrev pub put_reply_refusal : {S : Type 0} → Machine S → ℕ → Node S → Option Fault
put_reply_refusal M number x =
    first_of (serves x ∷ refusal_of M x.machine (input.Written number) ∷ log_full x ∷ log_spent x ∷ [])

-- a sector that was read arrives; it is refused if the node's drive or track is another by now
abbrev pub get_reply_refusal : {S : Type 0} → Machine S → SectorAddress → ℕ → List ℕ → Node S → Option Fault
get_reply_refusal M address number bytes x =
    first_of
    (serves x ∷ fault_if (not (same_address (M.address x.machine address.drive address.sector) address)) NotDue
    ∷ refusal_of M x.machine (input.Sector address.drive address.sector number bytes) ∷ log_full x ∷ log_spent x ∷ [])

-- only a primary sends entries, from the covered number on
abbrev pub send_refusal : {S : Type 0} → ℕ → Node S → Option Fault
send_refusal index x =
    fault_if (not (acts_as x (Primary ∷ [])) || (nat_lt index x.covered || is_none (slice_get x.log index))) Unknown

abbrev pub deliver_log_refusal : {S : Type 0} → ℕ → Node S → Option Fault
deliver_log_refusal generation x = first_of (role_refusal (Backup ∷ []) x ∷ generation_refusal generation x ∷ [])

abbrev pub acknowledge_refusal : {S : Type 0} → Node S → Option Fault
acknowledge_refusal x = role_refusal (Backup ∷ []) x

abbrev pub deliver_acknowledgement_refusal : {S : Type 0} → ℕ → ℕ → Node S → Option Fault
deliver_acknowledgement_refusal generation held x =
    first_of
    (role_refusal (Primary ∷ []) x ∷ generation_refusal generation x ∷ fault_if (nat_lt (length x.log) held) BadAck
    ∷ [])

abbrev pub replay_refusal : {S : Type 0} → Node S → Option Fault
replay_refusal x = role_refusal (Backup ∷ []) x

-- output rule: a primary releases nothing that is not covered
abbrev pub release_refusal : {S : Type 0} → Machine S → OpId → Node S → Option Fault
release_refusal M name x =
    first_of
    (serves x ∷ fault_if (is_none (M.find x.machine name)) NotDue
    ∷ fault_if (is_role x.role Primary && not (covers x.covered x.reported (note_of x.notes name))) NotCovered ∷ [])

abbrev pub told_refusal : {S : Type 0} → Node S → Option Fault
told_refusal x = serves x

abbrev pub stop_refusal : {S : Type 0} → Node S → Option Fault
stop_refusal x = fault_if (not x.running) WrongRole

abbrev pub suspect_refusal : {S : Type 0} → Node S → Option Fault
suspect_refusal x = first_of (fault_if (not x.running) WrongRole ∷ fault_if (is_role x.role Joining) NotWhole ∷ [])

abbrev pub drain_refusal : {S : Type 0} → Node S → Option Fault
drain_refusal x = role_refusal (Draining ∷ []) x

-- a sector is read at the selected drive
abbrev pub get_refusal : {S : Type 0} → Machine S → Node S → Option Fault
get_refusal M x = first_of (serves x ∷ fault_if (is_none (M.selected x.machine)) NotDue ∷ [])

-- the greatest generation
unfoldable pub last_generation : ℕ
last_generation = 2 ^ 32 - 1

abbrev pub begin_pair_refusal : {S : Type 0} → Node S → Option Fault
begin_pair_refusal x =
    first_of (role_refusal (Alone ∷ []) x ∷ fault_if (nat_le last_generation x.generation) Spent ∷ [])

-- only a primary has an image, until the first acknowledgement of its generation
abbrev pub has_part : {S : Type 0} → Copying S → Option S → ℕ → Bool
has_part C None index = false
has_part C (Some s) index = not (is_none (slice_get (C.parts s) index))

abbrev pub send_part_refusal : {S : Type 0} → Copying S → ℕ → Node S → Option Fault
send_part_refusal C index x = fault_if (not (acts_as x (Primary ∷ [])) || not (has_part C x.image index)) Unknown

abbrev pub part_comes_refusal : {S : Type 0} → ℕ → Node S → Option Fault
part_comes_refusal generation x = first_of (role_refusal (Joining ∷ []) x ∷ generation_refusal generation x ∷ [])

abbrev pub freshen_refusal : {S : Type 0} → Node S → Option Fault
freshen_refusal x = role_refusal (Alone ∷ []) x

-- a node that waits for a sector asks the disk for it
abbrev pub fetch_refusal : {S : Type 0} → Machine S → Node S → Option Fault
fetch_refusal M x =
    first_of (role_refusal (Backup ∷ Draining ∷ []) x ∷ fault_if (is_none (wanted M x)) NotDue ∷ [])

-- the sector that arrives is not the one waited for, or is not as that write left it
abbrev pub unwanted : {S : Type 0} → Machine S → Node S → SectorAddress → ℕ → Option (ℕ × ℕ × ℕ) → Option Fault
unwanted M x address number None = Some NotDue
unwanted M x address number (Some read) =
    first_of
    (fault_if (not (same_address (M.address x.machine read.0 read.1) address)) NotDue
    ∷ fault_if (not (read.2 == number)) StaleRead ∷ [])

abbrev pub fetched_refusal : {S : Type 0} → Machine S → SectorAddress → ℕ → Node S → Option Fault
fetched_refusal M address number x =
    first_of (role_refusal (Backup ∷ Draining ∷ []) x ∷ unwanted M x address number (wanted M x) ∷ [])

-- ---- the world's part

-- the node's part, for the node with this number; a spare host is not a node
abbrev pub at_node : {S : Type 0} → Option (Node S) → (Node S → Option Fault) → Option Fault
at_node None part = Some Unknown
at_node (Some x) part = if is_role x.role Spare then Some Unknown else part x

-- what a message brings to a node; a message of another kind is unknown
abbrev pub at_log_entry : {S : Type 0} → Option (Node S) → Option Message → Option Fault
at_log_entry here (Some (LogEntry generation index e)) = at_node here (deliver_log_refusal generation)
at_log_entry here _ = Some Unknown

abbrev pub at_acknowledgement : {S : Type 0} → Option (Node S) → Option Message → Option Fault
at_acknowledgement here (Some (Acknowledgement generation held replayed)) = at_node here (deliver_acknowledgement_refusal generation held)
at_acknowledgement here _ = Some Unknown

abbrev pub at_write_done : {S : Type 0} → Machine S → Option (Node S) → Option Message → Option Fault
at_write_done M here (Some (WriteDone number)) = at_node here (put_reply_refusal M number)
at_write_done M here _ = Some Unknown

abbrev pub at_sector_read : {S : Type 0} → Machine S → Option (Node S) → Option Message → Option Fault
at_sector_read M here (Some (SectorRead address number bytes)) = at_node here (get_reply_refusal M address number bytes)
at_sector_read M here _ = Some Unknown

abbrev pub at_fetched : {S : Type 0} → Machine S → Option (Node S) → Option Message → Option Fault
at_fetched M here (Some (SectorRead address number bytes)) = at_node here (fetched_refusal M address number)
at_fetched M here _ = Some Unknown

abbrev pub at_part : {S : Type 0} → Option (Node S) → Option Message → Option Fault
at_part here (Some (ImagePart generation index part)) = at_node here (part_comes_refusal generation)
at_part here _ = Some Unknown

-- the message releases a byte, or a write
abbrev pub byte_refusal : Option Message → Option Fault
byte_refusal (Some (Released (Byte port number byte))) = None
byte_refusal _ = Some Unknown

abbrev pub write_refusal : Option Message → Option Fault
write_refusal (Some (Released (Write write))) = None
write_refusal _ = Some Unknown

-- there is no such port
abbrev pub no_port : {S : Type 0} → World S → ℕ → Option Fault
no_port w port = fault_if (nat_le (length w.terminals) port) Unknown

abbrev pub no_such : {S : Type 0} → World S → OpId → Option Fault
no_such w (id.Byte port number) = no_port w port
no_such w (id.Write number) = None

-- no such key was typed; no such byte was accepted
abbrev pub not_typed : {S : Type 0} → World S → ℕ → ℕ → Option Fault
not_typed w port index = fault_if (is_none (slice_get (terminal w port).typed index)) Unknown

abbrev pub not_accepted : {S : Type 0} → World S → ℕ → ℕ → Option Fault
not_accepted w port number = fault_if (number == 0 || nat_lt (length (accepted w port)) number) Unknown

-- test-and-set: the other node of the generation has asked first
abbrev pub is_other : Option ℕ → ℕ → Bool
is_other None n = false
is_other (Some winner) n = not (winner == n)

abbrev pub ask_refusal : {S : Type 0} → World S → ℕ → Node S → Option Fault
ask_refusal w n x =
    first_of (suspect_refusal x ∷ fault_if (is_other (winner_in w.winners x.generation) n) Lost ∷ [])

-- a generation begins with a host that has no role
abbrev pub pair_refusal : {S : Type 0} → Node S → Node S → Option Fault
pair_refusal host x = first_of (fault_if (not (is_role host.role Spare)) WrongRole ∷ begin_pair_refusal x ∷ [])

abbrev pub at_host : {S : Type 0} → Option (Node S) → Option (Node S) → Option Fault
at_host None here = Some Unknown
at_host (Some host) here = at_node here (pair_refusal host)

-- sectors of a track are 0 to 31
abbrev pub no_sector : ℕ → Option Fault
no_sector sector = fault_if (nat_le 32 sector) Unknown

-- ---- each event

abbrev pub refusal : {S : Type 0} → Machine S → Copying S → World S → Event → Option Fault
refusal M C w (Step n turns) = at_node (slice_get w.nodes n) (step_refusal M turns)
refusal M C w (TypeByte port byte) = no_port w port
refusal M C w (TakeKey n port index) =
    first_of (not_typed w port index ∷ at_node (slice_get w.nodes n) (take_key_refusal M port index) ∷ [])
refusal M C w (Send n index) = at_node (slice_get w.nodes n) (send_refusal index)
refusal M C w (DeliverLog m n) = at_log_entry (slice_get w.nodes n) (slice_get w.messages m)
refusal M C w (Acknowledge n) = at_node (slice_get w.nodes n) acknowledge_refusal
refusal M C w (DeliverAcknowledgement m n) = at_acknowledgement (slice_get w.nodes n) (slice_get w.messages m)
refusal M C w (Replay n turns) = at_node (slice_get w.nodes n) replay_refusal
refusal M C w (Release n name) =
    first_of (no_such w name ∷ at_node (slice_get w.nodes n) (release_refusal M name) ∷ [])
refusal M C w (Arrive m) = byte_refusal (slice_get w.messages m)
refusal M C w (TellSent n port number) =
    first_of (not_accepted w port number ∷ at_node (slice_get w.nodes n) (tell_sent_refusal M port number) ∷ [])
refusal M C w (Told n port) = first_of (no_port w port ∷ at_node (slice_get w.nodes n) told_refusal ∷ [])
refusal M C w (Stop n) = at_node (slice_get w.nodes n) stop_refusal
refusal M C w (Suspect n) = at_node (slice_get w.nodes n) (ask_refusal w n)
refusal M C w (Drain n turns) = at_node (slice_get w.nodes n) drain_refusal
refusal M C w (Put m) = write_refusal (slice_get w.messages m)
refusal M C w (PutReply m n) = at_write_done M (slice_get w.nodes n) (slice_get w.messages m)
refusal M C w (Get n sector) = first_of (no_sector sector ∷ at_node (slice_get w.nodes n) (get_refusal M) ∷ [])
refusal M C w (GetReply m n) = at_sector_read M (slice_get w.nodes n) (slice_get w.messages m)
refusal M C w (BeginPair n host) = at_host (slice_get w.nodes host) (slice_get w.nodes n)
refusal M C w (SendPart n index) = at_node (slice_get w.nodes n) (send_part_refusal C index)
refusal M C w (PartComes m n) = at_part (slice_get w.nodes n) (slice_get w.messages m)
refusal M C w (Freshen n pages) = at_node (slice_get w.nodes n) freshen_refusal
refusal M C w (Fetch n) = at_node (slice_get w.nodes n) (fetch_refusal M)
refusal M C w (Fetched m n) = at_fetched M (slice_get w.nodes n) (slice_get w.messages m)
