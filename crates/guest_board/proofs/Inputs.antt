-- What holds of every board holds after an input is taken.
use Rattle.std.proofs.Common.{◌≡◌, ℕ, zero, suc, ◌+◌, ◌-◌, ◌<◌, ◌≤◌, Bool, true, false, cond, not, ◌==◌, ◌&&◌, List, [], ◌∷◌, filter, ⊎_elim, Option, Some, None, Ok, ok_or, refl, sym, ap, ◌∙◌, arith}
use Rattle.std.specs.Prelude.{nat_lt, slice_index, slice_set, is_some}
use Rattle.std.specs.List.{list_any}
use Rattle.std.specs.Option.{option_map_or}
use Rattle.std.proofs.lemmas.Bool.Decides.{eqb_tells, nat_tests}
use Rattle.std.proofs.lemmas.Grind.{common_steps}
use Rattle.std.proofs.lemmas.List.{length-set}
use Rattle.std.proofs.lemmas.Bool.{and_parts}
use Rattle.serial_2sio.specs.Port as serial
use Rattle.guest_board.proofs.Words.{AreAwaited, AreCompleted, AreInRange, Devices, GREATEST_NUMBER, Guest, IsBoard, NotDue, Operation, Operations, Outstanding, PORTS, Place, SectorWrite, after_complete, after_rx, done_of, due_byte, id_of, is_due, is_on_its_way, oldest_byte, operation_at, port_of, with_completed, without_operation}
use Rattle.disk_dcdd.specs.Drive as drives
use Rattle.disk_dcdd.specs.Completion as completion
use Rattle.disk_dcdd.specs.Address.{address_of, index_of}
use Rattle.event_callbacks.specs.declared.devices.Done.TheVariants as done
use Rattle.event_callbacks.specs.declared.operations.OpId.TheVariants as id
use Rattle.event_callbacks.specs.declared.operations.Operation.TheVariants as operation
use Rattle.guest_board.proofs.OnTheirWay.{oldest}
use Rattle.guest_board.proofs.Awaited.{awaited-port, awaited-disk, awaited-accepted, awaited-written, none_past, any_gone}
use Rattle.guest_board.proofs.Accesses.{in_range-set}

in_range_with : (g : Guest) (versions : List ℕ) (d : Devices) (operations : Operations) (completed : List ℕ) → AreInRange g versions
    → AreInRange (record g { devices = d; operations = operations; completed = completed }) versions
in_range_with g versions d operations completed h = record {
  count = h.count;
  issued = h.issued;
  keys = h.keys;
  ports = h.ports;
  levels = h.levels;
  sense = h.sense;
  writes = h.writes;
}

-- ---- a key

pub board_received : (g : Guest) (versions : List ℕ) (p byte : ℕ) → slice_index g.keys p < GREATEST_NUMBER → IsBoard g versions
    → IsBoard (after_rx g p byte) versions
board_received g versions p byte room board = record {
  awaited = awaited-port g.devices g.operations g.issued p (serial.after_receive (port_of g.devices p) byte) board.awaited refl;
  in_range = record {
    count = board.in_range.count;
    issued = board.in_range.issued;
    keys = in_range-set g.keys p (slice_index g.keys p + 1) board.in_range.keys (omega (arith, room));
    ports = length-set g.keys p _ ∙ board.in_range.ports;
    levels = board.in_range.levels;
    sense = board.in_range.sense;
    writes = board.in_range.writes;
  };
  completed = board.completed;
}

-- ---- a byte

sent-less : (due : Bool) (p : serial.Port) → due ≡ true
    → (cond due (record p { unaccepted = p.unaccepted - 1 }) p).unaccepted ≡ p.unaccepted - 1
sent-less true p e = refl
sent-less false p e = cc

positive : (n : ℕ) → nat_lt 0 n ≡ true → 1 ≤ n
positive n e = grind (arith, nat_tests)

pub board_sent : (g : Guest) (versions : List ℕ) (p : ℕ) (d : Devices) (operations : Operations) → p < PORTS
    → is_due g.devices (done.Sent p) ≡ true → d ≡ done_of g.devices (done.Sent p)
    → operations ≡ without_operation g.operations (id.Byte p (oldest_byte g p)) → IsBoard g versions
    → IsBoard (record g { devices = d; operations = operations }) versions
board_sent g versions p d operations l due after gone board =
    let x : serial.Port = port_of g.devices p in
    let waits : serial.is_sent_due x ≡ true = (and_parts (nat_lt p PORTS) (serial.is_sent_due x) due).1 in
    rw (after, gone) (record {
      awaited = awaited-accepted g.devices g.operations g.issued p (serial.after_sent x) l board.awaited
          (positive x.unaccepted waits) (sent-less (serial.is_sent_due x) x waits);
      in_range = in_range_with g versions (done_of g.devices (done.Sent p)) (without_operation g.operations (id.Byte p (oldest_byte g p))) g.completed board.in_range;
      completed = board.completed;
    })

-- the byte that is due is outstanding
pub oldest_is_there : (g : Guest) (versions : List ℕ) (p : ℕ) → IsBoard g versions → is_due g.devices (done.Sent p) ≡ true
    → is_some (operation_at g.operations (id.Byte p (oldest_byte g p))) ≡ true
oldest_is_there g versions p board due =
    let x : serial.Port = port_of g.devices p in
    let both = and_parts (nat_lt p PORTS) (serial.is_sent_due x) due in
    board.awaited.bytes p (oldest_byte g p)
    ∙ ap (λ b. b && is_on_its_way (slice_index g.issued p) x.unaccepted (oldest_byte g p)) both.0
    ∙ oldest (slice_index g.issued p) x.unaccepted (positive x.unaccepted both.1) (board.awaited.sent p)

pub is_due_byte : (g : Guest) (p n : ℕ) → due_byte g p ≡ Some n → (is_due g.devices (done.Sent p) ≡ true) × (oldest_byte g p ≡ n)
is_due_byte g p n =
    elim (is_due g.devices (done.Sent p)) as (λ b. cond b (Some (oldest_byte g p)) None ≡ Some n → (b ≡ true) × (oldest_byte g p ≡ n)) [
      | true ↦ λ e. (refl, (cc))
      | false ↦ λ e. cc
    ]

-- what is outstanding after the byte that is due is completed
pub completed_there : (g : Guest) (versions : List ℕ) (pending later : Outstanding) (p n : ℕ) → pending.operations ≡ g.operations
    → IsBoard g versions → is_due g.devices (done.Sent p) ≡ true → oldest_byte g p ≡ n → later ≡ after_complete pending (id.Byte p n)
    → later.operations ≡ without_operation g.operations (id.Byte p (oldest_byte g p))
completed_there g versions pending later p n same board due e after =
    let there : is_some (operation_at pending.operations (id.Byte p n)) ≡ true =
    ap (λ m. is_some (operation_at m (id.Byte p n))) same
    ∙ ap (λ k. is_some (operation_at g.operations (id.Byte p k))) (sym e) ∙ oldest_is_there g versions p board due in
    ap (λ (o : Outstanding). o.operations) after
    ∙ ap (λ b. (cond b (record { operations = without_operation pending.operations (id.Byte p n); spare = pending.spare + 1 }) pending).operations) there
    ∙ ap (λ m. without_operation m (id.Byte p n)) same
    ∙ ap (λ k. without_operation g.operations (id.Byte p k)) (sym e)

-- ---- a sector

pub board_sector : (g : Guest) (versions : List ℕ) (sector : ℕ) (bytes : List ℕ) (d : Devices)
    → d ≡ done_of g.devices (done.Sector sector bytes) → IsBoard g versions → IsBoard (record g { devices = d }) versions
board_sector g versions sector bytes d after board =
    rw after (record {
      awaited = awaited-disk g.devices g.operations g.issued (completion.after_sector g.devices.disk sector bytes) board.awaited
          (record { outstanding = refl; issued = refl; attached = refl });
      in_range = in_range_with g versions (done_of g.devices (done.Sector sector bytes)) g.operations g.completed board.in_range;
      completed = record { sectors = board.completed.sectors; last = board.completed.last; done = board.completed.done };
    })

-- for the selected drive, the two tests of whether a write of a sector is outstanding agree
pub selected_busy : (disk : drives.Drives) (drive sector : ℕ) → completion.is_selected disk drive ≡ true
    → completion.is_sector_busy disk sector ≡ completion.is_busy_on disk sector drive
selected_busy disk drive sector =
    elim disk.selected as (λ o. option_map_or (λ selected. selected == drive) o false ≡ true
    → option_map_or (completion.is_busy_on disk sector) o false ≡ completion.is_busy_on disk sector drive) [
      | None ↦ λ e. cc
      | Some selected ↦ λ e. ⊎_elim
          (λ t. let same : selected ≡ drive = t.1 in ap (completion.is_busy_on disk sector) same)
          (λ t. let differs : (selected == drive) ≡ false = t.0 in cc)
          (eqb_tells selected drive)
    ]

-- ---- a write

pub found_there : (operations : Operations) (n : ℕ) (op : Operation) → Ok op ≡ ok_or (operation_at operations (id.Write n)) NotDue
    → operation_at operations (id.Write n) ≡ Some op
found_there operations n op = found (operation_at operations (id.Write n))
  where
    found : (o : Option Operation) → Ok op ≡ ok_or o NotDue → o ≡ Some op
    found None e = cc
    found (Some x) e = cc

pub gone_there : (pending later : Outstanding) (n : ℕ) (op : Operation) → operation_at pending.operations (id.Write n) ≡ Some op
    → later ≡ after_complete pending (id.Write n) → later.operations ≡ without_operation pending.operations (id.Write n)
gone_there pending later n op there after =
    ap (λ (o : Outstanding). o.operations) after
    ∙ ap (λ o. (cond (is_some o) (record { operations = without_operation pending.operations (id.Write n); spare = pending.spare + 1 }) pending).operations) there

-- what holds of each number and of a new one holds after the new one is put at a place
each_after-set : (Q : ℕ → Type 0) (xs : List ℕ) (index n : ℕ) → ((k : ℕ) → Q (slice_index xs k)) → Q n
    → (k : ℕ) → Q (slice_index (slice_set xs index n) k)
each_after-set Q [] index n all new k = all k
each_after-set Q (x ∷ xs) zero n all new zero = new
each_after-set Q (x ∷ xs) zero n all new (suc k) = all (suc k)
each_after-set Q (x ∷ xs) (suc index) n all new zero = all zero
each_after-set Q (x ∷ xs) (suc index) n all new (suc k) = each_after-set Q xs index n (λ q. all (suc q)) new k

-- a write that is done may be the last completed one of its sector
completed-write : (completed : List ℕ) (disk : drives.Drives) (write : SectorWrite) → write.number ≤ disk.issued
    → completion.is_outstanding disk write.number ≡ false → AreCompleted completed disk
    → AreCompleted (with_completed completed (Some (operation.Write write))) disk
completed-write completed disk write few gone h =
    elim (index_of (address_of write)) as (λ o. AreCompleted (option_map_or (λ index. slice_set completed index write.number) o completed) disk) [
      | None ↦ h
      | Some index ↦ record {
        sectors = length-set completed index write.number ∙ h.sectors;
        last = each_after-set (λ n. n ≤ disk.issued) completed index write.number h.last few;
        done = each_after-set (λ n. completion.is_outstanding disk n ≡ false) completed index write.number h.done gone;
      }
    ]

completed-with : (completed : List ℕ) (disk : drives.Drives) (number : ℕ) (op : Operation) → id_of op ≡ id.Write number
    → number ≤ disk.issued → completion.is_outstanding disk number ≡ false → AreCompleted completed disk
    → AreCompleted (with_completed completed (Some op)) disk
completed-with completed disk number (operation.Byte port n byte) e few gone h = h
completed-with completed disk number (operation.Write write) e few gone h =
    let same : write.number ≡ number = cc in
    completed-write completed disk write (omega (arith, same, few))
    (ap (completion.is_outstanding disk) same ∙ gone) h

-- once a write is done it is no longer outstanding, and no other becomes outstanding
completed-done : (completed : List ℕ) (disk : drives.Drives) (number : ℕ) → AreCompleted completed disk
    → AreCompleted completed (completion.after_written disk number)
completed-done completed disk number h = record {
  sectors = h.sectors;
  last = h.last;
  done = λ index. none_after-filter (λ (place : Place). place.number == slice_index completed index)
      (λ (place : Place). not (place.number == number)) disk.outstanding (h.done index);
}
  where
    none_after-filter : {X : Type 0} (p q : X → Bool) (xs : List X) → list_any p xs ≡ false → list_any p (filter q xs) ≡ false
    none_after-filter p q [] none = refl
    none_after-filter p q (x ∷ xs) none = grind (arith, common_steps, none_after-filter p q xs)

outstanding_is_low : (d : Devices) (operations : Operations) (issued : List ℕ) (n : ℕ) → AreAwaited d operations issued
    → completion.is_outstanding d.disk n ≡ true → n ≤ d.disk.issued
outstanding_is_low d operations issued n h there =
    elim (nat_lt d.disk.issued n) as (λ b. nat_lt d.disk.issued n ≡ b → n ≤ d.disk.issued) [
      | true ↦ λ e. let none : completion.is_outstanding d.disk n ≡ false =
          none_past d.disk.outstanding n d.disk.issued h.last (past e) in cc
      | false ↦ λ e. few e
    ] refl
  where
    past : nat_lt d.disk.issued n ≡ true → d.disk.issued < n
    past e = grind (arith, nat_tests)

    few : nat_lt d.disk.issued n ≡ false → n ≤ d.disk.issued
    few e = grind (arith, nat_tests)

pub write_is_due : (g : Guest) (versions : List ℕ) (n : ℕ) (op : Operation) → IsBoard g versions
    → operation_at g.operations (id.Write n) ≡ Some op → is_due g.devices (done.Written n) ≡ true
write_is_due g versions n op board there = sym (board.awaited.writes n) ∙ ap is_some there

pub board_written : (g : Guest) (versions : List ℕ) (n : ℕ) (op : Operation) (d : Devices) (operations : Operations) (completed : List ℕ)
    → operation_at g.operations (id.Write n) ≡ Some op → id_of op ≡ id.Write n
    → d ≡ done_of g.devices (done.Written n) → operations ≡ without_operation g.operations (id.Write n)
    → completed ≡ with_completed g.completed (Some op) → IsBoard g versions
    → IsBoard (record g { devices = d; operations = operations; completed = completed }) versions
board_written g versions n op d operations completed there named after gone last board =
    rw (after, gone, last) (record {
      awaited = awaited-written g.devices g.operations g.issued n board.awaited;
      in_range = in_range_with g versions (done_of g.devices (done.Written n)) (without_operation g.operations (id.Write n)) (with_completed g.completed (Some op)) board.in_range;
      completed = completed-with g.completed (completion.after_written g.devices.disk n) n op named
          (outstanding_is_low g.devices g.operations g.issued n board.awaited (write_is_due g versions n op board there))
          (any_gone g.devices.disk.outstanding n) (completed-done g.completed g.devices.disk n board.completed);
    })
