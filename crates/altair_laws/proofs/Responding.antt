-- An Altair responds: what is outstanding at it is due, and what is due is taken.
use Rattle.std.proofs.Common.{◌≡◌, ℕ, zero, suc, ◌-◌, ◌^◌, ◌<◌, ◌≤◌, inl, inr, Bool, true, false, cond, not, List, [], ◌∷◌, Option, Some, None, refl, sym, ap, subst, ◌∙◌, arith, lt-ltb, ltb-true, eq-eqb, eqb-true}
use Rattle.std.specs.Prelude.{nat_lt, ◌&&◌, ◌||◌, ◌==◌, slice_index}
use Rattle.std.specs.List.{list_any}
use Rattle.std.specs.Option.{option_map_or}
use Rattle.std.proofs.lemmas.Bool.{and_parts}
use Rattle.std.proofs.lemmas.List.{get_or_past}
use Rattle.std.proofs.lemmas.Option.{cond_some}
use Rattle.disk_dcdd.specs.declared.address.SectorAddress.{SectorAddress}
use Rattle.disk_dcdd.specs.declared.sector.Place.{Place}
use Rattle.disk_dcdd.specs.declared.sector.SectorWrite.{SectorWrite}
use Rattle.disk_dcdd.specs.Completion.{is_busy_on, is_outstanding, is_sector_busy, is_sector_due, is_selected}
use Rattle.disk_dcdd.specs.Drive.{drive_of}
use Rattle.disk_dcdd.specs.Sector.{is_at, place_of}
use Rattle.event_callbacks.specs.Completions.{is_due, port_of}
use Rattle.event_callbacks.specs.Operations.{id_of, operation_at}
use Rattle.event_callbacks.specs.declared.devices.Done.TheVariants as done
use Rattle.event_callbacks.specs.declared.operations.OpId.{OpId}
use Rattle.event_callbacks.specs.declared.operations.OpId.TheVariants as id
use Rattle.event_callbacks.specs.declared.operations.Operation.{Operation}
use Rattle.event_callbacks.specs.declared.operations.Operation.TheVariants.{Byte, Write}
use Rattle.guest_board.specs.Guest.{after_rx, after_sector, after_sent, after_written, altair, due_byte, guest_at_boot, may_take_sector, oldest_byte}
use Rattle.guest_board.specs.Inputs.{some_altair}
use Rattle.guest_board.specs.declared.setup.Setup.{Setup}
use Rattle.guest_lockstep.proofs.Booted.{ComesAndGoes-booted}
use Rattle.guest_lockstep.specs.Machine.{Move}
use Rattle.guest_lockstep.specs.Outstanding.{ComesAndGoes}
use Rattle.guest_parts.specs.Guest.{Guest}
use Rattle.serial_2sio.specs.Port as serial
use Rattle.altair_laws.specs.Stands.{AltairStands, IsLast}
use Rattle.altair_laws.proofs.Bytes.{Bytes, bytes_after, unaccepted_sent}
use Rattle.altair_laws.proofs.Windows.{bytes_pending}
use Rattle.pair_protocol.specs.Lawful.{Among, Lawful, Reaches, top}
use Rattle.pair_progress.specs.Completion.{Responds}
use Rattle.pair_progress.specs.Reading.{ReadsSectors}

-- ---- bytes

due : (g : Guest) (port number : ℕ) → port < 2 → IsLast g port number → (k : ℕ) × (due_byte g port ≡ Some k)
due g port number two l =
    let there : nat_lt port 2 ≡ true = lt-ltb port 2 two in
    let some : nat_lt 0 (port_of g.devices port).unaccepted ≡ true =
    lt-ltb 0 (port_of g.devices port).unaccepted
    (let f = l.first in let t = l.last in omega (arith, f, t)) in (
      oldest_byte g port,
      ap (λ b. cond (b && serial.is_sent_due (port_of g.devices port)) (Some (oldest_byte g port)) None) there
          ∙ ap (λ b. cond b (Some (oldest_byte g port)) None) some,
    )

no_such_port : {X : Type 0} (moves : List Move) (g : Guest) (port number : ℕ) → Bytes moves g → 2 ≤ port
    → IsLast g port number → X
no_such_port moves g port number b past l =
    let f = l.first in
    let t = l.last in
    let c = b.counts in
    let p = b.two in
    let i = get_or_past g.issued port 0 (omega (arith, c, past)) in
    let u = ap (λ (p : serial.Port). p.unaccepted)
    (get_or_past g.devices.ports port serial.at_boot (omega (arith, p, past))) in
    absurd (omega (arith, f, t, i, u))

out_is_due : (setup : Setup) (sectors : SectorAddress → List ℕ) (moves : List Move) (g : Guest) (port number : ℕ)
    (o : Operation) → Reaches (altair setup sectors) moves g → operation_at g.operations (id.Byte port number) ≡ Some o
    → (port < 2) × ((k : ℕ) × (due_byte g port ≡ Some k))
out_is_due setup sectors moves g port number o reached found = go port refl
  where
    last : IsLast g port number
    last = (bytes_pending setup sectors moves g reached port).last number o found

    go : (p : ℕ) → p ≡ port → (port < 2) × ((k : ℕ) × (due_byte g port ≡ Some k))
    go zero is = let two : port < 2 = omega (arith, is) in (two, due g port number two last)
    go (suc zero) is = let two : port < 2 = omega (arith, is) in (two, due g port number two last)
    go (suc (suc p)) is =
        no_such_port moves g port number (bytes_after setup sectors moves g reached) (omega (arith, is)) last

due_is_out : (setup : Setup) (sectors : SectorAddress → List ℕ) (moves : List Move) (g : Guest) (port number : ℕ)
    → Reaches (altair setup sectors) moves g → due_byte g port ≡ Some number
    → (o : Operation) × (operation_at g.operations (id.Byte port number) ≡ Some o)
due_is_out setup sectors moves g port number reached h =
    let t = cond_some (is_due g.devices (done.Sent port)) (oldest_byte g port) number h in
    let some = (and_parts (nat_lt port 2) (serial.is_sent_due (port_of g.devices port)) t.0).1 in
    let more = ltb-true 0 (port_of g.devices port).unaccepted some in
    let few = unaccepted_sent moves g port (bytes_after setup sectors moves g reached) in
    let is = t.1 in
    (bytes_pending setup sectors moves g reached port).pending number
    (record { first = omega (arith, is, more, few); last = omega (arith, is, more, few) })

taken_byte : (g : Guest) (port number : ℕ) → due_byte g port ≡ Some number
    → (u : Guest) × (cond (is_due g.devices (done.Sent port)) (Some (after_sent g port)) None ≡ Some u)
taken_byte g port number h =
    let t = cond_some (is_due g.devices (done.Sent port)) (oldest_byte g port) number h in
    (after_sent g port, ap (λ b. cond b (Some (after_sent g port)) None) t.0)

-- ---- writes

any_of : (p : Place → Bool) (xs : List Place) (x : Place) → Among x xs → p x ≡ true → list_any p xs ≡ true
any_of p [] x m is = absurd m
any_of p (y ∷ ys) x (inl same) is = ap (λ b. b || list_any p ys) (ap p (sym same) ∙ is)
any_of p (y ∷ ys) x (inr later) is = ap (λ b. p y || b) (any_of p ys x later is) ∙ or_true (p y)
  where
    or_true : (b : Bool) → (b || true) ≡ true
    or_true true = refl
    or_true false = refl

write_of_name : (o : Operation) (number : ℕ) → id_of o ≡ id.Write number
    → (v : SectorWrite) × (o ≡ Write v) × (v.number ≡ number)
write_of_name (Byte p k byte) number h = absurd (cc)
write_of_name (Write v) number h = (v, refl, (cc))

taken_write : (setup : Setup) (sectors : SectorAddress → List ℕ) → Lawful (altair setup sectors)
    → ((moves : List Move) (g : Guest) → Reaches (altair setup sectors) moves g → AltairStands setup moves g)
    → (moves : List Move) (g : Guest) (number : ℕ) (o : Operation) → Reaches (altair setup sectors) moves g
    → operation_at g.operations (id.Write number) ≡ Some o
    → (u : Guest) × (cond (is_due g.devices (done.Written number)) (Some (after_written g number)) None ≡ Some u)
taken_write setup sectors laws stands moves g number o reached found =
    let w = write_of_name o number (laws.named moves g (id.Write number) o reached found) in
    let pending : operation_at g.operations (id.Write w.0.number) ≡ Some (Write w.0) =
    ap (λ k. operation_at g.operations (id.Write k)) w.2 ∙ found ∙ ap (λ (z : Operation). Some z) w.1 in
    let there = (stands moves g reached).writes.placed w.0 pending in
    let any : is_outstanding g.devices.disk number ≡ true =
    any_of (λ place. place.number == number) g.devices.disk.outstanding (place_of w.0) there
    (eq-eqb (place_of w.0).number number w.2) in
    (after_written g number, ap (λ b. cond b (Some (after_written g number)) None) any)

-- ---- keys

taken_key : (g : Guest) (port byte : ℕ) → port < 2 → slice_index g.keys port < 2 ^ 62 - 1
    → (u : Guest)
    × (cond (nat_lt port 2 && nat_lt (slice_index g.keys port) (2 ^ 62 - 1)) (Some (after_rx g port byte)) None ≡ Some u)
taken_key g port byte two room =
    let there : nat_lt port 2 ≡ true = lt-ltb port 2 two in
    let free : nat_lt (slice_index g.keys port) (2 ^ 62 - 1) ≡ true = lt-ltb (slice_index g.keys port) (2 ^ 62 - 1) room in (
      after_rx g port byte,
      ap (λ b. cond (b && nat_lt (slice_index g.keys port) (2 ^ 62 - 1)) (Some (after_rx g port byte)) None) there
          ∙ ap (λ b. cond b (Some (after_rx g port byte)) None) free,
    )

pub responds : ComesAndGoes some_altair
    → ((setup : Setup) (sectors : SectorAddress → List ℕ) → Lawful (altair setup sectors))
    → ((setup : Setup) (sectors : SectorAddress → List ℕ) (moves : List Move) (g : Guest)
    → Reaches (altair setup sectors) moves g → AltairStands setup moves g)
    → (setup : Setup) (sectors : SectorAddress → List ℕ) → Responds (altair setup sectors)
unfolding top
responds operations lawful stands setup sectors = record {
  operations = ComesAndGoes-booted some_altair (guest_at_boot setup) sectors operations;
  due = out_is_due setup sectors;
  found = due_is_out setup sectors;
  takes_byte = λ moves s port number reached due. taken_byte s port number due;
  takes_write = taken_write setup sectors (lawful setup sectors) (stands setup sectors);
  takes_key = λ moves s port byte reached two room. taken_key s port byte two room;
}

-- ---- sectors

none_busy : (setup : Setup) (moves : List Move) (g : Guest) → AltairStands setup moves g → (p : Place → Bool)
    → ((name : OpId) → operation_at g.operations name ≡ None) → list_any p g.devices.disk.outstanding ≡ false
none_busy setup moves g stands p none = go g.devices.disk.outstanding refl
  where
    go : (places : List Place) → g.devices.disk.outstanding ≡ places → list_any p g.devices.disk.outstanding ≡ false
    go [] is = ap (list_any p) is
    go (place ∷ places) is =
        let w = stands.writes.pending place (subst (Among place) (sym is) (inl refl)) in
        let both : ◌≡◌ {A = Option Operation} None (Some (Write w.0)) = sym (none (id.Write w.0.number)) ∙ w.1 in
        absurd (cc)

-- a test of the selected drive
of_selected : (o : Option ℕ) (f : ℕ → Bool) (drive : ℕ) → option_map_or (λ selected. selected == drive) o false ≡ true
    → f drive ≡ false → option_map_or f o false ≡ false
of_selected None f drive is h = refl
of_selected (Some k) f drive is h = ap f (eqb-true k drive is) ∙ h

taken_sector : (g : Guest) (drive sector number : ℕ) (bytes : List ℕ)
    → (is_selected g.devices.disk drive && is_sector_due g.devices.disk sector) ≡ true
    → is_busy_on g.devices.disk sector drive ≡ false
    → (u : Guest) × (cond (may_take_sector g drive sector bytes) (Some (after_sector g sector bytes)) None ≡ Some u)
taken_sector g drive sector number bytes ready free =
    let p = and_parts (is_selected g.devices.disk drive) (is_sector_due g.devices.disk sector) ready in
    let busy : is_sector_busy g.devices.disk sector ≡ false =
    of_selected g.devices.disk.selected (is_busy_on g.devices.disk sector) drive p.0 free in (
      after_sector g sector bytes,
      ap (λ b. cond (b && (is_sector_due g.devices.disk sector && not (is_sector_busy g.devices.disk sector)))
          (Some (after_sector g sector bytes)) None) p.0
          ∙ ap (λ b. cond (b && not (is_sector_busy g.devices.disk sector)) (Some (after_sector g sector bytes)) None) p.1
          ∙ ap (λ b. cond (not b) (Some (after_sector g sector bytes)) None) busy,
    )

pub reads_sectors : ((setup : Setup) (sectors : SectorAddress → List ℕ) (moves : List Move) (g : Guest)
    → Reaches (altair setup sectors) moves g → AltairStands setup moves g)
    → (setup : Setup) (sectors : SectorAddress → List ℕ) → ReadsSectors (altair setup sectors)
reads_sectors stands setup sectors = record {
  free = λ moves s address reached none. none_busy setup moves s (stands setup sectors moves s reached)
      (is_at address.drive (drive_of s.devices.disk address.drive).track address.sector) none;
  takes = λ moves s drive sector number bytes reached ready free. taken_sector s drive sector number bytes ready free;
}
