-- Each access of a step keeps what is outstanding in agreement with the devices, counting the operation that the step
-- gives; the operation given is a new one. So do all accesses of a step, one after another.
use Rattle.std.proofs.Common.{◌≡◌, ℕ, ◌+◌, ◌<◌, ◌≤◌, Bool, true, false, cond, ◌==◌, ◌||◌, List, [], ◌∷◌, Some, None, is_none, refl, sym, ap, subst, ◌∙◌, arith, lit<, zero, suc, nat_eq}
use Rattle.std.specs.Prelude.{nat_lt, slice_index, slice_set, IfSome}
use Rattle.std.specs.List.{list_any}
use Rattle.std.specs.Option.{option_map_or}
use Rattle.std.proofs.lemmas.Bool.Decides.{nat_tests}
use Rattle.std.proofs.lemmas.List.Folds.{list_any-append}
use Rattle.guest_board.proofs.Words.{Access, AreAwaited, GREATEST_NUMBER, IsThere, Operations, PORTS, Place, SectorWrite, Wired, after_access, after_accesses, after_byte, after_disk_data, after_out, after_serial_data, device_at, devices_after_in, id_of, is_outstanding, operation_at, place_of, port_of, with_disk, with_given, with_port, write_given}
use Rattle.i8080_words.specs.Effects.Access.{Write, Input, Output}
use Rattle.serial_2sio.specs.Port as serial
use Rattle.disk_dcdd.specs.Drive as drives
use Rattle.guest_board.specs.declared.ports.Device.{Device}
use Rattle.guest_board.specs.declared.ports.Device.TheVariants.{SerialControl, SerialData, DiskSelect, DiskControl, DiskData, SenseSwitches, Nothing}
use Rattle.guest_board.proofs.Awaited.{IsAlike, awaited-port, awaited-disk, awaited-sent, awaited-issued, byte_is_new, write_is_new}
use Rattle.guest_board.proofs.Commands.{selects, shows, reads, commands, keeps, issues_next}

-- no write that was issued, and is not outstanding, becomes outstanding later
abbrev pub StayDone : drives.Drives → drives.Drives → Type 0
StayDone old new =
    (number : ℕ) → number ≤ old.issued → is_outstanding old number ≡ false → is_outstanding new number ≡ false

-- no byte and no write was given a number
pub record IsNumberedAs (start w : Wired) : Type 0 where
  pub bytes : w.issued ≡ start.issued
  pub writes : w.devices.disk.issued ≡ start.devices.disk.issued

-- while a step is executed: what is outstanding is awaited, the operation given is new, and the numbers stay in range;
-- the drives and the switches are those of the start, no number of writes falls, and no write that was done becomes
-- outstanding again
pub record IsWired (operations : Operations) (start w : Wired) : Type 0 where
  pub awaited : AreAwaited w.devices (with_given operations w.given) w.issued
  pub fresh : IfSome w.given (λ op. operation_at operations (id_of op) ≡ None)
  pub range : (port : ℕ) → slice_index w.issued port ≤ GREATEST_NUMBER
  pub attached : w.devices.disk.attached ≡ start.devices.disk.attached
  pub writes : start.devices.disk.issued ≤ w.devices.disk.issued
  pub done : StayDone start.devices.disk w.devices.disk
  pub sense : w.sense ≡ start.sense
  pub unless_given : w.given ≡ None → IsNumberedAs start w

-- ---- an access that gives nothing

same_writes : (a b : drives.Drives) (n : ℕ) → IsAlike a b → is_outstanding a n ≡ is_outstanding b n
same_writes a b n alike = ap (list_any (λ (place : Place). place.number == n)) alike.outstanding

wired-port : (operations : Operations) (start w : Wired) (p : ℕ) (x : serial.Port) → IsWired operations start w
    → x.unaccepted ≡ (port_of w.devices p).unaccepted
    → IsWired operations start (record w { devices = with_port w.devices p x })
wired-port operations start w p x h e = record {
  awaited = awaited-port w.devices (with_given operations w.given) w.issued p x h.awaited e;
  fresh = h.fresh;
  range = h.range;
  attached = h.attached;
  writes = h.writes;
  done = h.done;
  sense = h.sense;
  unless_given = λ none. record { bytes = (h.unless_given none).bytes; writes = (h.unless_given none).writes };
}

wired-disk : (operations : Operations) (start w : Wired) (c : drives.Drives) → IsWired operations start w
    → IsAlike c w.devices.disk → IsWired operations start (record w { devices = with_disk w.devices c })
wired-disk operations start w c h alike = record {
  awaited = awaited-disk w.devices (with_given operations w.given) w.issued c h.awaited alike;
  fresh = h.fresh;
  range = h.range;
  attached = alike.attached ∙ h.attached;
  writes = subst (λ n. start.devices.disk.issued ≤ n) (sym alike.issued) h.writes;
  done = λ n low before. same_writes c w.devices.disk n alike ∙ h.done n low before;
  sense = h.sense;
  unless_given = λ none.
      record { bytes = (h.unless_given none).bytes; writes = alike.issued ∙ (h.unless_given none).writes };
}

in_kept : (operations : Operations) (start w : Wired) (device : Device) → IsWired operations start w
    → IsWired operations start (record w { devices = devices_after_in w.devices device })
in_kept operations start w (SerialControl p) h = h
in_kept operations start w (SerialData p) h = wired-port operations start w p (serial.after_data_in (port_of w.devices p)) h refl
in_kept operations start w DiskSelect h = h
in_kept operations start w DiskControl h = wired-disk operations start w (drives.after_position w.devices.disk) h (shows w.devices.disk)
in_kept operations start w DiskData h = wired-disk operations start w (drives.after_read w.devices.disk) h (reads w.devices.disk)
in_kept operations start w SenseSwitches h = h
in_kept operations start w Nothing h = h

-- ---- a byte is sent

quiet : (operations : Operations) (start w : Wired) → w.given ≡ None → IsWired operations start w
    → AreAwaited w.devices operations w.issued
quiet operations start w none h = subst (λ o. AreAwaited w.devices (with_given operations o) w.issued) none h.awaited

sent-more : (ready : Bool) (p : serial.Port) → ready ≡ true
    → (cond ready (record p { unaccepted = p.unaccepted + 1 }) p).unaccepted ≡ p.unaccepted + 1
sent-more true p e = refl
sent-more false p e = cc

pub in_range-set : (issued : List ℕ) (p n : ℕ) → ((q : ℕ) → slice_index issued q ≤ GREATEST_NUMBER) → n ≤ GREATEST_NUMBER
    → (q : ℕ) → slice_index (slice_set issued p n) q ≤ GREATEST_NUMBER
in_range-set [] p n all m q = all q
in_range-set (x ∷ xs) zero n all m zero = m
in_range-set (x ∷ xs) zero n all m (suc q) = all (suc q)
in_range-set (x ∷ xs) (suc p) n all m zero = all zero
in_range-set (x ∷ xs) (suc p) n all m (suc q) = in_range-set xs p n (λ k. all (suc k)) m q

below : (m n : ℕ) → nat_lt m n ≡ true → m + 1 ≤ n
below m n e = grind (arith, nat_tests)

sent_ready : (operations : Operations) (start w : Wired) (p byte : ℕ) → nat_lt p PORTS ≡ true → p < PORTS
    → w.given ≡ None → nat_lt (slice_index w.issued p) GREATEST_NUMBER ≡ true
    → serial.is_ready (port_of w.devices p) ≡ true → IsWired operations start w
    → IsWired operations start (after_byte w p byte)
sent_ready operations start w p byte lt l none room ready h =
    let x : serial.Port = port_of w.devices p in
    let alone : AreAwaited w.devices operations w.issued = quiet operations start w none h in
    record {
      awaited = awaited-sent w.devices operations w.issued p byte (serial.after_data_out x) lt l alone
          (sent-more (serial.is_ready x) x ready);
      fresh = byte_is_new w.devices operations w.issued p alone;
      range = in_range-set w.issued p (slice_index w.issued p + 1) h.range (below (slice_index w.issued p) GREATEST_NUMBER room);
      attached = h.attached;
      writes = h.writes;
      done = h.done;
      sense = h.sense;
      unless_given = λ none. cc;
    }

sent_kept : (operations : Operations) (start w : Wired) (p byte : ℕ) → nat_lt p PORTS ≡ true → p < PORTS
    → w.given ≡ None → IsWired operations start w → IsWired operations start (after_serial_data w p byte)
sent_kept operations start w p byte lt l none h =
    elim (nat_lt (slice_index w.issued p) GREATEST_NUMBER) as (λ b. nat_lt (slice_index w.issued p) GREATEST_NUMBER ≡ b
    → IsWired operations start (cond b (option_map_or (after_byte w p) (serial.data_out_answer (port_of w.devices p) byte) w) w)) [
      | false ↦ λ e. h
      | true ↦ λ room.
          elim (serial.is_ready (port_of w.devices p)) as (λ b. serial.is_ready (port_of w.devices p) ≡ b
          → IsWired operations start (option_map_or (after_byte w p) (cond b (Some (serial.word_of (port_of w.devices p).control byte)) None) w)) [
            | false ↦ λ e. h
            | true ↦ λ ready. sent_ready operations start w p (serial.word_of (port_of w.devices p).control byte) lt l none room ready h
          ] refl
    ] refl

-- ---- a byte for the drive

-- apart from the number of the write that is issued, the same numbers are outstanding
others_outstanding : (disk : drives.Drives) (w : SectorWrite) (n : ℕ) → n < w.number
    → is_outstanding (drives.after_issue disk w) n ≡ is_outstanding disk n
others_outstanding disk w n past =
    list_any-append (λ (place : Place). place.number == n) disk.outstanding (place_of w ∷ [])
    ∙ ap (λ b. is_outstanding disk n || (b || false)) (later_differs w.number n past)
    ∙ or_false (is_outstanding disk n)
  where
    later_differs : (a b : ℕ) → b < a → (a == b) ≡ false
    later_differs a b past = grind (arith, nat_tests)

    or_false : (b : Bool) → (b || (false || false)) ≡ b
    or_false true = refl
    or_false false = refl

issued_kept : (operations : Operations) (start w : Wired) (byte : ℕ) → w.given ≡ None → IsWired operations start w
    → IsWired operations start (record w {
      devices = with_disk w.devices (drives.after_data w.devices.disk byte);
      given = write_given (drives.issued_by w.devices.disk byte);
    })
issued_kept operations start w byte none h =
    let disk : drives.Drives = w.devices.disk in
    let alone : AreAwaited w.devices operations w.issued = quiet operations start w none h in
    elim (drives.issued_by disk byte) as (λ o. drives.issued_by disk byte ≡ o
    → IsWired operations start (record w {
      devices = with_disk w.devices (option_map_or (drives.after_issue disk) o (drives.after_keep disk byte));
      given = write_given o;
    })) [
      | None ↦ λ e.
          let alike : IsAlike (drives.after_keep disk byte) disk = keeps disk byte in
          record {
            awaited = awaited-disk w.devices operations w.issued (drives.after_keep disk byte) alone alike;
            fresh = tt;
            range = h.range;
            attached = alike.attached ∙ h.attached;
            writes = subst (λ n. start.devices.disk.issued ≤ n) (sym alike.issued) h.writes;
            done = λ n low before. same_writes (drives.after_keep disk byte) disk n alike ∙ h.done n low before;
            sense = h.sense;
            unless_given = λ same.
                record { bytes = (h.unless_given none).bytes; writes = alike.issued ∙ (h.unless_given none).writes };
          }
      | Some write ↦ λ e.
          let number : write.number ≡ disk.issued + 1 = issues_next disk byte write e in
          let grows : start.devices.disk.issued ≤ disk.issued = h.writes in
          record {
            awaited = awaited-issued w.devices operations w.issued write alone number;
            fresh = write_is_new w.devices operations w.issued write.number alone (omega (arith, number));
            range = h.range;
            attached = h.attached;
            writes = omega (arith, number, grows);
            done = λ n low before. others_outstanding disk write n (omega (arith, number, grows, low)) ∙ h.done n low before;
            sense = h.sense;
            unless_given = λ same. cc;
          }
    ] refl

data_kept : (operations : Operations) (start w : Wired) (byte : ℕ) → w.given ≡ None → IsWired operations start w
    → IsWired operations start (after_disk_data w byte)
data_kept operations start w byte none h =
    elim (nat_lt w.devices.disk.issued GREATEST_NUMBER) as (λ b. IsWired operations start (cond b (record w {
      devices = with_disk w.devices (drives.after_data w.devices.disk byte);
      given = write_given (drives.issued_by w.devices.disk byte);
    }) w)) [
      | false ↦ h
      | true ↦ issued_kept operations start w byte none h
    ]

-- ---- an access, and those of a step

port_there : (p : ℕ) → p < PORTS → nat_lt p PORTS ≡ true
port_there p l = grind (arith, nat_tests)

out_kept : (operations : Operations) (start w : Wired) (device : Device) (byte : ℕ) → IsThere device → w.given ≡ None
    → IsWired operations start w → IsWired operations start (after_out w device byte)
out_kept operations start w (SerialControl p) byte there none h =
    wired-port operations start w p (serial.after_control (port_of w.devices p) byte) h refl
out_kept operations start w (SerialData p) byte there none h =
    sent_kept operations start w p byte (port_there p there) there none h
out_kept operations start w DiskSelect byte there none h =
    wired-disk operations start w (drives.after_select w.devices.disk byte) h (selects w.devices.disk byte)
out_kept operations start w DiskControl byte there none h =
    wired-disk operations start w (drives.after_command w.devices.disk byte) h (commands w.devices.disk byte)
out_kept operations start w DiskData byte there none h = data_kept operations start w byte none h
out_kept operations start w SenseSwitches byte there none h = h
out_kept operations start w Nothing byte there none h = h

pub either : {A : Type 0} (P : A → Type 0) (b : Bool) (x y : A) → P x → P y → P (cond b x y)
either P true x y p q = p
either P false x y p q = q

devices_there : (number : ℕ) → IsThere (device_at number)
devices_there number =
    either IsThere (nat_eq number 0x10) _ _ (lit< tt)
    (either IsThere (nat_eq number 0x11) _ _ (lit< tt)
    (either IsThere (nat_eq number 0x12) _ _ (lit< tt)
    (either IsThere (nat_eq number 0x13) _ _ (lit< tt)
    (either IsThere (nat_eq number 0x08) _ _ tt
    (either IsThere (nat_eq number 0x09) _ _ tt
    (either IsThere (nat_eq number 0x0A) _ _ tt
    (either IsThere (nat_eq number 0xFF) _ _ tt tt)))))))

access_kept : (operations : Operations) (start w : Wired) (access : Access) → IsWired operations start w
    → IsWired operations start (after_access access w)
access_kept operations start w (Write address byte) h = record {
  awaited = h.awaited;
  fresh = h.fresh;
  range = h.range;
  attached = h.attached;
  writes = h.writes;
  done = h.done;
  sense = h.sense;
  unless_given = λ none. record { bytes = (h.unless_given none).bytes; writes = (h.unless_given none).writes };
}
access_kept operations start w (Input number) h = in_kept operations start w (device_at number) h
access_kept operations start w (Output number byte) h =
    elim w.given as (λ o. w.given ≡ o → IsWired operations start (cond (is_none o) (after_out w (device_at number) byte) w)) [
      | None ↦ λ none. out_kept operations start w (device_at number) byte (devices_there number) none h
      | Some op ↦ λ e. h
    ] refl

pub accesses_kept : (operations : Operations) (start : Wired) (accesses : List Access) (w : Wired) → IsWired operations start w
    → IsWired operations start (after_accesses after_access accesses w)
accesses_kept operations start [] w h = h
accesses_kept operations start (x ∷ xs) w h =
    accesses_kept operations start xs (after_access x w) (access_kept operations start w x h)
