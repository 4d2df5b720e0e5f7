-- Two small machines, with scripts for pairs of them: a backup takes over; a sector is read and written, with the reads
-- in the log and with reads that the backup makes itself.
use Rattle.std.specs.Prelude.{◌≡◌, ℕ, suc, Bool, nat_le, ◌==◌, ◌&&◌, ◌||◌, if◌then◌else◌, false, Option, Some, None, List, [], ◌∷◌, slice_get, slice_index_or}
use Rattle.std.specs.Option.{option_map}
use Rattle.disk_dcdd.specs.Address.{address_of, same_address}
use Rattle.disk_dcdd.specs.declared.address.SectorAddress.{SectorAddress}
use Rattle.disk_dcdd.specs.declared.sector.SectorWrite.{SectorWrite}
use Rattle.event_callbacks.specs.declared.operations.OpId.{OpId}
use Rattle.event_callbacks.specs.declared.operations.OpId.TheVariants as id
use Rattle.event_callbacks.specs.declared.operations.Operation.{Operation}
use Rattle.event_callbacks.specs.declared.operations.Operation.TheVariants.{Byte, Write}
use Rattle.guest_lockstep.specs.Machine.{Machine}
use Rattle.guest_lockstep.specs.declared.input.Input.{Input}
use Rattle.guest_lockstep.specs.declared.input.Input.TheVariants as input
use Rattle.guest_lockstep.specs.declared.reads.Reads.TheVariants.{Logged, Shared}
use Rattle.guest_lockstep.specs.declared.replay_end.ReplayEnd.TheVariants.{End, Wait}
use Rattle.guest_lockstep.specs.declared.running.StopReason.TheVariants as reason
use Rattle.i8080_words.specs.declared.refusal.Fault.TheVariants.{WrongRole, NotCovered}
use Rattle.log_entry.specs.declared.entry.Entry.TheVariants.{Mark, Read, Sector}
use Rattle.pair_protocol.specs.Copying.{Copying}
use Rattle.pair_protocol.specs.World.{World, Message, LogEntry, Acknowledgement, Released, WriteDone, SectorRead, opening, accepted}
use Rattle.pair_events.specs.declared.event.Event.{Event}
use Rattle.pair_events.specs.declared.event.Event.TheVariants.{Step, TypeByte, TakeKey, Send, DeliverLog, Acknowledge, DeliverAcknowledgement, Release, Arrive, Stop, Suspect, Drain, Put, PutReply, Get, GetReply, Fetch, Fetched, Replay}
use Rattle.pair_protocol.specs.Reply.{Reply, Ran, TypedAt, Taken, New, Accepted, Dropped, Won, Stopped, MessageIs, HeldIs, Moved, MovedAlone, Refused}
use Rattle.pair_protocol.specs.Row.{Run}

-- ---- a machine that sends a byte

abbrev pub letter : Operation
letter = Byte 0 1 72

-- its steps: the sixth sends 48h at port 0
abbrev pub program : List (Option Operation)
program = None ∷ None ∷ None ∷ None ∷ None ∷ Some letter ∷ []

-- its state is its place in the program
abbrev pub small_step : ℕ → Option (ℕ × Option Operation)
small_step s = option_map (λ gives. (suc s, gives)) (slice_get program s)

-- it may be given a key at any time, and nothing else
abbrev pub small_take : ℕ → Input → Option ℕ
small_take s (input.Rx port byte) = Some s
small_take s (input.Sent port) = None
small_take s (input.Sector drive sector number bytes) = None
small_take s (input.Written number) = None

abbrev pub small_find : ℕ → OpId → Option Operation
small_find s (id.Byte port number) = if nat_le 6 s && port == 0 && number == 1 then Some letter else None
small_find s (id.Write number) = None

-- it has no disk
abbrev pub small : Machine ℕ
small = record {
  boot = 0;
  boot_sector = λ address. [];
  window_size = 1;
  step = small_step;
  take = small_take;
  count = λ s. s;
  is_spent = λ s. false;
  keys = λ s port. 0;
  find = small_find;
  due_byte = λ s port. None;
  selected = λ s. None;
  address = λ s drive sector. record { drive = drive; track = 0; sector = sector };
  ready = λ s address. false;
  busy = λ s address. false;
  done = λ s address. 0;
}

-- a copy of it, and of the machine with a disk below, is a single part with its state
abbrev pub small_assemble : List (List ℕ) → Option ℕ
small_assemble ((s ∷ []) ∷ []) = Some s
small_assemble _ = None

abbrev pub small_copying : Copying ℕ
small_copying = record { parts = λ s. (s ∷ []) ∷ []; part_count = 1; assemble = small_assemble }

-- ---- a backup takes over

-- the primary stops with its byte logged and not released; the backup wins, takes no key while it drains, and sends the
-- byte; when the byte arrives again it is dropped
abbrev pub failover : List Event
failover =
    Step 0 10 ∷ Send 0 0 ∷ DeliverLog 0 1 ∷ Acknowledge 1 ∷ Stop 0 ∷ Suspect 1 ∷ TypeByte 0 65 ∷ TakeKey 1 0 0 ∷ Drain 1 10
    ∷ Release 1 (id.Byte 0 1) ∷ Arrive 2 ∷ Arrive 2 ∷ []

abbrev pub failover_replies : List Reply
failover_replies =
    Ran 6 6 (reason.Operation (id.Byte 0 1)) ∷ MessageIs 0 ∷ New ∷ MessageIs 1 ∷ Stopped ∷ Won ∷ TypedAt 0 ∷ Refused WrongRole
    ∷ MovedAlone 7 ∷ MessageIs 2 ∷ Accepted ∷ Dropped ∷ []

abbrev pub TakesOver : Type 0
TakesOver =
    (w : World ℕ) × Run small small_copying (opening small Logged) failover failover_replies w × (accepted w 0 ≡ 72 ∷ [])

-- ---- a machine that reads a sector and writes it

-- it writes one sector; here a sector has two bytes instead of 137, both 0 at boot
abbrev pub sector_write : SectorWrite
sector_write = record { number = 1; drive = 0; track = 0; sector = 0; bytes = 72 ∷ 105 ∷ [] }

abbrev pub is_its_sector : SectorAddress → Bool
is_its_sector address = same_address address (address_of sector_write)

-- its state: 0 at boot, 1 the disk turns, 2 it waits for the sector, 3 the sector is under the head, 4 its write is
-- outstanding, 5 the write is done
abbrev pub disk_step : ℕ → Option (ℕ × Option Operation)
disk_step s =
    if nat_le s 1 then Some (suc s, None) else if s == 3 then Some (4, Some (Write sector_write)) else None

-- how many steps it has made in each state
abbrev pub disk_count : ℕ → ℕ
disk_count s = slice_index_or (0 ∷ 1 ∷ 2 ∷ 2 ∷ 3 ∷ 3 ∷ []) s 3

-- the sector comes once the disk has turned, and may come again once it is written
abbrev pub after_sector : ℕ → Option ℕ
after_sector s = if s == 2 then Some 3 else if s == 5 then Some 5 else None

-- it takes its sector and the completion of its write, and no key
abbrev pub disk_take : ℕ → Input → Option ℕ
disk_take s (input.Rx port byte) = None
disk_take s (input.Sent port) = None
disk_take s (input.Sector drive sector number bytes) =
    if drive == 0 && sector == 0 then after_sector s else None
disk_take s (input.Written number) = if s == 4 && number == 1 then Some 5 else None

abbrev pub disk_find : ℕ → OpId → Option Operation
disk_find s (id.Byte port number) = None
disk_find s (id.Write number) = if s == 4 && number == 1 then Some (Write sector_write) else None

abbrev pub small_disk : Machine ℕ
small_disk = record {
  boot = 0;
  boot_sector = λ address. 0 ∷ 0 ∷ [];
  window_size = 1;
  step = disk_step;
  take = disk_take;
  count = disk_count;
  is_spent = λ s. false;
  keys = λ s port. 0;
  find = disk_find;
  due_byte = λ s port. None;
  selected = λ s. Some 0;
  address = λ s drive sector. record { drive = drive; track = 0; sector = sector };
  ready = λ s address. is_its_sector address && (s == 2 || nat_le 4 s);
  busy = λ s address. is_its_sector address && s == 4;
  done = λ s address. if is_its_sector address && nat_le 5 s then 1 else 0;
}

-- ---- a sector is read and written

-- the sector that comes is entry 0 of the log, and the mark of its write is entry 1; once the backup has acknowledged
-- both, the primary releases the write, the disk has it, and the primary is told that it is done; then the sector is read
-- again
abbrev pub disk_write : List Event
disk_write =
    Step 0 2 ∷ Get 0 0 ∷ GetReply 0 0 ∷ Step 0 10 ∷ Send 0 0 ∷ Send 0 1 ∷ DeliverLog 1 1 ∷ DeliverLog 2 1 ∷ Acknowledge 1
    ∷ DeliverAcknowledgement 3 0 ∷ Release 0 (id.Write 1) ∷ Put 4 ∷ PutReply 5 0 ∷ Get 0 0 ∷ []

abbrev pub disk_write_replies : List Reply
disk_write_replies =
    Ran 2 2 reason.Turns ∷ MessageIs 0 ∷ Taken ∷ Ran 1 3 (reason.Operation (id.Write 1)) ∷ MessageIs 1 ∷ MessageIs 2 ∷ New ∷ New
    ∷ MessageIs 3 ∷ HeldIs 2 ∷ MessageIs 4 ∷ MessageIs 5 ∷ Taken ∷ MessageIs 6 ∷ []

-- messages 0 to 6: the sector is first read with its bytes at boot under number 0, and last with those of write 1;
-- entry 0 has count 2, and entry 1 count 3
abbrev pub disk_write_messages : List Message
disk_write_messages =
    SectorRead (address_of sector_write) 0 (0 ∷ 0 ∷ []) ∷ LogEntry 1 0 (Sector 2 0 0 0 (0 ∷ 0 ∷ []))
    ∷ LogEntry 1 1 (Mark 3) ∷ Acknowledgement 1 2 0 ∷ Released (Write sector_write) ∷ WriteDone 1
    ∷ SectorRead (address_of sector_write) 1 (72 ∷ 105 ∷ []) ∷ []

abbrev pub WritesDisk : Type 0
WritesDisk =
    (w : World ℕ) × Run small_disk small_copying (opening small_disk Logged) disk_write disk_write_replies w
    × (w.messages ≡ disk_write_messages)

-- ---- the backup reads the sector itself

-- entry 0 of the log is a read now, so the write waits for more than its mark: it is released once the backup has reached
-- the read, has asked the disk, and has reported both entries as replayed
abbrev pub shared_read : List Event
shared_read =
    Step 0 2 ∷ Get 0 0 ∷ GetReply 0 0 ∷ Step 0 10 ∷ Send 0 0 ∷ Send 0 1 ∷ DeliverLog 1 1 ∷ DeliverLog 2 1 ∷ Acknowledge 1
    ∷ DeliverAcknowledgement 3 0 ∷ Release 0 (id.Write 1) ∷ Replay 1 100 ∷ Fetch 1 ∷ Fetched 4 1 ∷ Replay 1 100
    ∷ Acknowledge 1 ∷ DeliverAcknowledgement 5 0 ∷ Release 0 (id.Write 1) ∷ []

abbrev pub shared_read_replies : List Reply
shared_read_replies =
    Ran 2 2 reason.Turns ∷ MessageIs 0 ∷ Taken ∷ Ran 1 3 (reason.Operation (id.Write 1)) ∷ MessageIs 1 ∷ MessageIs 2 ∷ New ∷ New
    ∷ MessageIs 3 ∷ HeldIs 2 ∷ Refused NotCovered ∷ Moved 2 Wait ∷ MessageIs 4 ∷ Taken ∷ Moved 3 End ∷ MessageIs 5 ∷ HeldIs 2
    ∷ MessageIs 6 ∷ []

-- the backup gets the same answer as its primary; its second acknowledgement reports both entries as replayed
abbrev pub shared_read_messages : List Message
shared_read_messages =
    SectorRead (address_of sector_write) 0 (0 ∷ 0 ∷ []) ∷ LogEntry 1 0 (Read 2 0 0 0) ∷ LogEntry 1 1 (Mark 3)
    ∷ Acknowledgement 1 2 0 ∷ SectorRead (address_of sector_write) 0 (0 ∷ 0 ∷ []) ∷ Acknowledgement 1 2 2
    ∷ Released (Write sector_write) ∷ []

abbrev pub SharesReads : Type 0
SharesReads =
    (w : World ℕ) × Run small_disk small_copying (opening small_disk Shared) shared_read shared_read_replies w
    × (w.messages ≡ shared_read_messages)
