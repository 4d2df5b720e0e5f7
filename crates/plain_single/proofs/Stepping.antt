-- A step of the single machine is a step of the guest that it stands for. Accesses keep two ports, so what the
-- processor is wired to after them is all of the guest's wiring.
use Rattle.std.proofs.Common.{◌≡◌, ℕ, ◌+◌, Bool, true, false, ◌==◌, ◌||◌, List, [], ◌∷◌, length, Option, None, Some, is_none, refl, ap, ◌∙◌, arith}
use Rattle.std.specs.Prelude.{slice_index, slice_index_or, slice_set, nat_lt, if◌then◌else◌}
use Rattle.std.specs.Option.{option_map_or}
use Rattle.std.proofs.lemmas.List.{length-set}
use Rattle.i8080_words.specs.Effects.{Access, after_accesses}
use Rattle.i8080_words.specs.Effects.Access.{Write, Input, Output}
use Rattle.i8080_words.specs.declared.refusal.Fault.{Fault}
use Rattle.i8080_words.specs.declared.refusal.Fault.TheVariants.{Spent}
use Rattle.i8080_words.specs.declared.registers.Processor.{Processor}
use Rattle.serial_2sio.specs.Port as serial
use Rattle.i8080_words.specs.declared.limits.TheConstants.{GREATEST_NUMBER}
use Rattle.event_callbacks.specs.Operations.{Operations}
use Rattle.event_callbacks.specs.declared.devices.Devices.{Devices}
use Rattle.guest_parts.specs.Guest.{Guest}
use Rattle.guest_board.specs.Guest.{step_of, wired, wired_after, with_given, step_from, next, is_spent, is_idle}
use Rattle.guest_board.specs.Ports.{Wired, device_at, devices_after_in, after_byte, after_serial_data, after_disk_data, after_out, after_access}
use Rattle.plain_single.specs.SingleState.{SingleState, guest_with, guest_of, idle_towards, step_refusal, after_step}

-- ---- two ports at all times

pub record HasTwo (w : Wired) : Type 0 where
  pub ports : length w.devices.ports ≡ 2
  pub issued : length w.issued ≡ 2

set_two : {A : Type 0} (xs : List A) (i : ℕ) (x : A) → length xs ≡ 2 → length (slice_set xs i x) ≡ 2
set_two xs i x e = length-set xs i x ∙ e

-- a choice has what both its sides have
choice : {A : Type 0} (P : A → Type 0) (b : Bool) (x y : A) → P x → P y → P (if b then x else y)
choice P true x y h k = h
choice P false x y h k = k

in_two : (d : Devices) (number : ℕ) → length d.ports ≡ 2 → length (devices_after_in d (device_at number)).ports ≡ 2
in_two d number e =
    choice (λ device. length (devices_after_in d device).ports ≡ 2) (number == 0x10) _ _ e
    (choice (λ device. length (devices_after_in d device).ports ≡ 2) (number == 0x11) _ _ (set_two d.ports 0 _ e)
    (choice (λ device. length (devices_after_in d device).ports ≡ 2) (number == 0x12) _ _ e
    (choice (λ device. length (devices_after_in d device).ports ≡ 2) (number == 0x13) _ _ (set_two d.ports 1 _ e)
    (choice (λ device. length (devices_after_in d device).ports ≡ 2) (number == 0x08) _ _ e
    (choice (λ device. length (devices_after_in d device).ports ≡ 2) (number == 0x09) _ _ e
    (choice (λ device. length (devices_after_in d device).ports ≡ 2) (number == 0x0A) _ _ e
    (choice (λ device. length (devices_after_in d device).ports ≡ 2) (number == 0xFF) _ _ e e)))))))

sent_two : (w : Wired) (port : ℕ) (answer : Option ℕ) → HasTwo w → HasTwo (option_map_or (after_byte w port) answer w)
sent_two w port None h = h
sent_two w port (Some byte) h = record {
  ports = set_two w.devices.ports port _ h.ports;
  issued = set_two w.issued port _ h.issued;
}

control_two : (w : Wired) (port : ℕ) (p : serial.Port) → HasTwo w
    → HasTwo (record w { devices = record w.devices { ports = slice_set w.devices.ports port p } })
control_two w port p h = record { ports = set_two w.devices.ports port p h.ports; issued = h.issued }

bytes_two : (w : Wired) (port byte : ℕ) → HasTwo w → HasTwo (after_serial_data w port byte)
bytes_two w port byte h =
    choice HasTwo (nat_lt (slice_index w.issued port) GREATEST_NUMBER) _ w (sent_two w port _ h) h

fill_two : (w : Wired) (byte : ℕ) → HasTwo w → HasTwo (after_disk_data w byte)
fill_two w byte h =
    choice HasTwo (nat_lt w.devices.disk.issued GREATEST_NUMBER) _ w (record { ports = h.ports; issued = h.issued }) h

out_two : (w : Wired) (number byte : ℕ) → HasTwo w → HasTwo (after_out w (device_at number) byte)
out_two w number byte h =
    choice (λ device. HasTwo (after_out w device byte)) (number == 0x10) _ _ (control_two w 0 _ h)
    (choice (λ device. HasTwo (after_out w device byte)) (number == 0x11) _ _ (bytes_two w 0 byte h)
    (choice (λ device. HasTwo (after_out w device byte)) (number == 0x12) _ _ (control_two w 1 _ h)
    (choice (λ device. HasTwo (after_out w device byte)) (number == 0x13) _ _ (bytes_two w 1 byte h)
    (choice (λ device. HasTwo (after_out w device byte)) (number == 0x08) _ _ (record { ports = h.ports; issued = h.issued })
    (choice (λ device. HasTwo (after_out w device byte)) (number == 0x09) _ _ (record { ports = h.ports; issued = h.issued })
    (choice (λ device. HasTwo (after_out w device byte)) (number == 0x0A) _ _ (fill_two w byte h)
    (choice (λ device. HasTwo (after_out w device byte)) (number == 0xFF) _ _ h h)))))))

access_two : (x : Access) (w : Wired) → HasTwo w → HasTwo (after_access x w)
access_two (Write address byte) w h = record { ports = h.ports; issued = h.issued }
access_two (Input number) w h = record { ports = in_two w.devices number h.ports; issued = h.issued }
access_two (Output number byte) w h = choice HasTwo (is_none w.given) _ w (out_two w number byte h) h

pub accesses_two : (xs : List Access) (w : Wired) → HasTwo w → HasTwo (after_accesses after_access xs w)
accesses_two [] w h = h
accesses_two (x ∷ xs) w h = accesses_two xs (after_access x w) (access_two x w h)

both : {A : Type 0} (d : A) (xs : List A) → length xs ≡ 2 → slice_index_or xs 0 d ∷ slice_index_or xs 1 d ∷ [] ≡ xs
both d [] e = absurd (omega (arith, e))
both d (x ∷ []) e = absurd (omega (arith, e))
both d (x ∷ y ∷ []) e = refl
both d (x ∷ y ∷ z ∷ rest) e = absurd (omega (arith, e))

-- ---- the step

may_step : (spent idle : Bool) (fault : Fault)
    → (if spent then Some Spent else if idle then Some fault else None) ≡ None → (spent || idle) ≡ false
may_step true idle fault e = absurd (cc)
may_step false true fault e = absurd (cc)
may_step false false fault e = refl

wired_two : (a : SingleState) → HasTwo (wired_after (guest_of a))
unfolding wired_after
wired_two a = accesses_two (step_of (guest_of a)).accesses (wired (guest_of a)) (record { ports = refl; issued = refl })

-- a guest by its ports and what they have sent
unfoldable built : Processor → Wired → SingleState → Operations → List ℕ → List serial.Port → List ℕ → Guest
built p w a o c ports issued = record {
  processor = p;
  memory = w.memory;
  devices = record w.devices { ports = ports };
  operations = with_given o w.given;
  issued = issued;
  completed = c;
  count = a.count + 1;
  keys = a.behind.first.keys ∷ a.behind.second.keys ∷ [];
  levels = a.levels;
  sense = a.behind.sense;
}

-- the guest after wiring that has two ports
pub next_is : (a : SingleState) (o : Operations) (c : List ℕ)
    → guest_with (after_step a) (next (guest_with a o c)).operations (next (guest_with a o c)).completed
    ≡ next (guest_with a o c)
unfolding step_of wired_after built
next_is a o c =
    let p : Processor = (step_of (guest_of a)).after in
    let w : Wired = wired_after (guest_of a) in
    let sent : List ℕ = slice_index w.issued 0 ∷ slice_index w.issued 1 ∷ [] in
    ap (λ ports. built p w a o c ports sent) (both serial.at_boot w.devices.ports (wired_two a).ports)
    ∙ ap (λ issued. built p w a o c w.devices.ports issued) (both 0 w.issued (wired_two a).issued)

pub step_is : (last : ℕ) (a : SingleState) (o : Operations) (c : List ℕ) → step_refusal last a ≡ None
    → step_from (guest_with a o c) ≡ Some (next (guest_with a o c), (wired_after (guest_of a)).given)
unfolding step_of wired_after
step_is last a o c e = rw (may_step (is_spent (guest_of a)) (is_idle (guest_of a)) (idle_towards last) e) refl
