-- The first part: what is written is read again, and what is read is written just so, in version 02 or in version 01.
use Rattle.std.proofs.Common.{◌≡◌, ℕ, ◌<◌, ◌^◌, Bool, true, false, cond, eqb, List, [], ◌∷◌, ◌++◌, length, map, Option, Some, None, ◌⊎◌, inl, inr, refl, sym, ap, subst, ◌∙◌, append-nil, arith}
use Rattle.std.specs.Prelude.{All, IfSome}
use Rattle.std.specs.List.{zip}
use Rattle.std.proofs.lemmas.Bool.{eq-eqb, eqb-true}
use Rattle.std.proofs.lemmas.List.{nil_from_length}
use Rattle.std.proofs.lemmas.Option.{none-some}
use Rattle.serial_2sio.specs.Port as serial
use Rattle.clone_state.proofs.Words.{Again, Codec, FirstImage, FirstPart, IsBytes, IsBytes-rest, IsOfBoard, PortImage, admitted, alone, are_few, by, bytes, controller, counted, current, devices, drives, fields, first, first_in, first_of_image, first_read, has_window, image_of_first, is_possible, maybe, number, of_drives, one, place_of, port, port_01, processor, read_all, spelling_01, times, truth, two_numbers, versioned, write, writes}
use Rattle.log_entry.specs.Numbers.{◌>>=◌}
use Rattle.clone_state.proofs.Codecs.{both_again, by_again, only_again, one_again, bytes_again, numbers_again, times_again, counted_again, all_again}
use Rattle.clone_state.proofs.Spellings.{Spells, weaker, one_spells, bytes_spells, number_spells, both_spells, by_spells, only_spells, times_spells, counted_spells}
use Rattle.clone_state.proofs.Devices.{HasOne, port_again, port_spells, port_01_again, port_01_spells, IsCurrent, current_again, current_spells, drives_again, drives_spells, IsWrite, write_again, write_spells}
use Rattle.clone_state.proofs.Lists.{zip_first, zip_second, zip_length, zip_again}
use Rattle.clone_state.proofs.Values.{truth_again, truth_spells, maybe_again, maybe_spells, processor_again, processor_spells}

-- ---- what is written is read again

-- all of a list's numbers are in their range
abbrev pub AreNumbers : List ℕ → Type 0
AreNumbers xs = All (λ n. n < 2 ^ 62) xs

-- a port with all places of its window
abbrev pub IsPortImage : PortImage → Type 0
IsPortImage p = (length p.1 ≡ serial.window) × (has_window p ≡ true)

-- what the first part can say
pub record IsFirst (f : FirstPart) : Type 0 where
  pub levels : length f.levels ≡ 3
  pub count : f.count < 2 ^ 62
  pub two_keys : length f.keys ≡ 2
  pub keys : AreNumbers f.keys
  pub two_issued : length f.issued ≡ 2
  pub issued : AreNumbers f.issued
  pub two_ports : length f.devices.ports ≡ 2
  pub two_windows : length f.unaccepted ≡ 2
  pub ports : All IsPortImage (zip f.devices.ports f.unaccepted)
  pub writes_issued : f.devices.disk.issued < 2 ^ 62
  pub selected : IfSome f.devices.disk.selected (λ n. n < 255)
  pub drives : length f.devices.disk.drives ≡ 4
  pub current : IsCurrent f.devices.disk.current
  pub writes : All IsWrite f.writes
  pub few : are_few f.writes ≡ true
  pub outstanding : map place_of f.writes ≡ f.devices.disk.outstanding
  pub possible : is_possible f ≡ true

-- what holds of each element of a list
all_of : {A : Type 0} {P Q : A → Type 0} (xs : List A) → ((x : A) → P x → Q x) → All P xs → All Q xs
all_of xs f h = λ k x inside. f _ (h k x inside)

fields_again : (c : Codec PortImage) (f : FirstPart) → IsFirst f → All (Again c) (zip f.devices.ports f.unaccepted)
    → Again (fields c) (image_of_first f)
unfolding fields devices two_numbers controller writes
fields_again c f h each =
    both_again one _ _ _ (one_again _) (both_again (bytes 3) _ _ _ (bytes_again 3 f.levels h.levels)
    (both_again one _ _ _ (one_again f.sense) (both_again number _ _ _ (numbers_again f.count h.count)
    (both_again processor _ _ _ (processor_again f.processor)
    (both_again (times 2 number) _ _ _ (times_again 2 number f.keys h.two_keys (numbers f.keys h.keys))
    (both_again (times 2 number) _ _ _ (times_again 2 number f.issued h.two_issued (numbers f.issued h.issued))
    (both_again (times 2 c) _ _ _ (times_again 2 c (zip f.devices.ports f.unaccepted)
    (zip_length f.devices.ports f.unaccepted (h.two_ports ∙ sym h.two_windows) ∙ h.two_ports) each)
    (both_again number _ _ _ (numbers_again _ h.writes_issued) (both_again maybe _ _ _ (maybe_again _ h.selected)
    (both_again truth _ _ _ (truth_again _) (both_again drives _ _ _ (drives_again _ h.drives)
    (both_again current writes _ _ (current_again _ h.current)
    (only_again (counted write) are_few f.writes (counted_again write f.writes (all_of f.writes write_again h.writes)) h.few)))))))))))))
  where
    numbers : (xs : List ℕ) → AreNumbers xs → All (Again number) xs
    numbers xs h = all_of xs numbers_again h

first_back : (f : FirstPart) → IsFirst f → first_of_image (image_of_first f) ≡ f
first_back f h =
    let two = h.two_ports ∙ sym h.two_windows in
    ap (λ ports. record f {
      devices = record f.devices {
        ports = ports;
        disk = record f.devices.disk { outstanding = map place_of f.writes };
      };
      unaccepted = map (λ (p : PortImage). p.1) (zip f.devices.ports f.unaccepted);
    }) (zip_first f.devices.ports f.unaccepted two)
    ∙ ap (λ windows. record f {
      devices = record f.devices { disk = record f.devices.disk { outstanding = map place_of f.writes } };
      unaccepted = windows;
    }) (zip_second f.devices.ports f.unaccepted two)
    ∙ ap (λ places. record f { devices = record f.devices { disk = record f.devices.disk { outstanding = places } } })
    h.outstanding

versioned_again : (c : Codec PortImage) (f : FirstPart) → IsFirst f
    → All (Again c) (zip f.devices.ports f.unaccepted) → Again (versioned c) f
unfolding versioned
versioned_again c f h each =
    only_again (by (fields c) image_of_first first_of_image) is_possible f
    (by_again (fields c) image_of_first first_of_image f (fields_again c f h each) (first_back f h)) h.possible

ports_again : (f : FirstPart) → IsFirst f → All (Again port) (zip f.devices.ports f.unaccepted)
ports_again f h =
    all_of (zip f.devices.ports f.unaccepted) (λ (p : PortImage) (is : IsPortImage p). port_again p is.0 is.1) h.ports

first_again : (f : FirstPart) → IsFirst f → Again first f
unfolding first
first_again f h = record { again = λ rest. (versioned_again port f h (ports_again f h)).again rest }

read_of_drives : (drives : ℕ) (f : FirstPart) (payload : List ℕ) → read_all first payload ≡ Some f
    → f.devices.disk.attached ≡ drives → first_in drives payload ≡ Some f
unfolding first_in
read_of_drives drives f payload read e =
    ap (λ o. o >>= of_drives drives) read
    ∙ subst (λ n. of_drives n f ≡ Some f) e (ap (λ b. cond b (Some f) None) (same f.devices.disk.attached))
  where
    same : (n : ℕ) → eqb n n ≡ true
    same n = grind arith

pub first_in_again : (drives : ℕ) (f : FirstPart) → IsFirst f → f.devices.disk.attached ≡ drives
    → first_in drives (first.spell f) ≡ Some f
first_in_again drives f h e = read_of_drives drives f (first.spell f) (all_again first f (first_again f h)) e

-- ---- and so it is in version 01, if no port has more than one byte on its way

pub first_in_again_01 : (drives : ℕ) (f : FirstPart) → IsFirst f → All HasOne (zip f.devices.ports f.unaccepted)
    → f.devices.disk.attached ≡ drives → first_in drives (spelling_01 f) ≡ Some f
unfolding first
first_in_again_01 drives f h few e = read_of_drives drives f (spelling_01 f) read e
  where
    each : All (Again port_01) (zip f.devices.ports f.unaccepted)
    each = λ k p inside. port_01_again _ (h.ports k p inside).0 (h.ports k p inside).1 (few k p inside)

    read : read_all first (spelling_01 f) ≡ Some f
    read =
        ap alone (ap (versioned port_01).read (sym (append-nil ((versioned port_01).spell f)))
        ∙ (versioned_again port_01 f h each).again [])

-- ---- what is read is written just so

-- the count is in its range
abbrev HasCount : FirstImage → Type 0
HasCount r = r.1.1.1.0 < 2 ^ 62

fields_spells : {P : PortImage → Type 0} (c : Codec PortImage) → Spells c P → Spells (fields c) HasCount
unfolding fields devices two_numbers controller writes
fields_spells c h =
    weaker (both_spells one _ one_spells (both_spells (bytes 3) _ (bytes_spells 3) (both_spells one _ one_spells
    (both_spells number _ number_spells (both_spells processor _ processor_spells
    (both_spells (times 2 number) _ (times_spells 2 number number_spells)
    (both_spells (times 2 number) _ (times_spells 2 number number_spells)
    (both_spells (times 2 c) _ (times_spells 2 c h) (both_spells number _ number_spells
    (both_spells maybe _ maybe_spells (both_spells truth _ truth_spells (both_spells drives _ drives_spells
    (both_spells current writes current_spells (only_spells (counted write) are_few (counted_spells write write_spells)))))))))))))))
    (λ r p. p.1.1.1.0)

abbrev with_ports : FirstImage → List PortImage → FirstImage
with_ports r ports = (
  r.0,
  (
    r.1.0,
    (
      r.1.1.0,
      (
        r.1.1.1.0,
        (
          r.1.1.1.1.0,
          (
            r.1.1.1.1.1.0,
            (
              r.1.1.1.1.1.1.0,
              (ports, r.1.1.1.1.1.1.1.1),
            ),
          ),
        ),
      ),
    ),
  ),
)

-- the count is in its range, and the controller waits for just these writes
abbrev HasWrites : FirstPart → Type 0
HasWrites f = (f.count < 2 ^ 62) × (map place_of f.writes ≡ f.devices.disk.outstanding)

versioned_spells : {P : PortImage → Type 0} (c : Codec PortImage) → Spells c P
    → Spells (versioned c) (λ f. HasWrites f × (is_possible f ≡ true))
unfolding versioned
versioned_spells c h =
    only_spells (by (fields c) image_of_first first_of_image) is_possible
    (by_spells (fields c) image_of_first first_of_image (fields_spells c h) (λ r p. back r)
    (λ r p. (p, refl)))
  where
    back : (r : FirstImage) → image_of_first (first_of_image r) ≡ r
    back r =
        ap (with_ports r) (zip_again r.1.1.1.1.1.1.1.0)

-- the bytes are the value's spelling in version 02 or in version 01, and a board can have the value
pub record IsSpelled (f : FirstPart) (bytes rest : List ℕ) : Type 0 where
  pub spelled : (bytes ≡ first.spell f ++ rest) ⊎ (bytes ≡ spelling_01 f ++ rest)
  pub holds : HasWrites f × (is_possible f ≡ true)

version_spelled : (version : ℕ) (a b : Bool) (bytes : List ℕ) (r : FirstPart × List ℕ) → IsBytes bytes
    → eqb version 2 ≡ a → eqb version 1 ≡ b
    → cond a ((versioned port).read bytes) (cond b ((versioned port_01).read bytes) None) ≡ Some r
    → IsSpelled r.0 (version ∷ bytes) r.1
unfolding first
version_spelled version true b bytes r all is_two is_one e =
    record {
      spelled = inl (ap (λ n. n ∷ bytes) (eqb-true version 2 is_two)
          ∙ ap (λ xs. 2 ∷ xs) ((versioned_spells port port_spells).written bytes r all e));
      holds = (versioned_spells port port_spells).holds bytes r all e;
    }
version_spelled version false true bytes r all is_two is_one e =
    record {
      spelled = inr (ap (λ n. n ∷ bytes) (eqb-true version 1 is_one)
          ∙ ap (λ xs. 1 ∷ xs) ((versioned_spells port_01 port_01_spells).written bytes r all e));
      holds = (versioned_spells port_01 port_01_spells).holds bytes r all e;
    }
version_spelled version false false bytes r all is_two is_one e = absurd (none-some r e)

pub first_spelled : (bytes : List ℕ) (r : FirstPart × List ℕ) → IsBytes bytes → first.read bytes ≡ Some r
    → IsSpelled r.0 bytes r.1
unfolding first
first_spelled [] r all e = absurd (none-some r e)
first_spelled (version ∷ bytes) r all e =
    version_spelled version (eqb version 2) (eqb version 1) bytes r (IsBytes-rest version bytes all) refl refl e

-- what a first part that is read is
pub record FirstRead (drives : ℕ) (payload : List ℕ) (f : FirstPart) : Type 0 where
  pub spelled : (payload ≡ first.spell f) ⊎ (payload ≡ spelling_01 f)
  pub attached : f.devices.disk.attached ≡ drives
  pub holds : HasWrites f × (is_possible f ≡ true)

pub first_in_spelled : (drives : ℕ) (payload : List ℕ) (f : FirstPart) → IsBytes payload
    → first_in drives payload ≡ Some f → FirstRead drives payload f
unfolding first_in
first_in_spelled drives payload f all e =
    let x = first_read (read_all first payload) (of_drives drives) f e in
    let d = admitted (eqb x.0.devices.disk.attached drives) x.0 f x.2 in
    let r = first_read (first.read payload) (λ r. cond (eqb (length r.1) 0) (Some r.0) None) x.0 x.1 in
    let a = admitted (eqb (length r.0.1) 0) r.0.0 x.0 r.2 in
    let nothing : r.0.1 ≡ [] = nil_from_length r.0.1 (eqb-true _ _ a.0) in
    let same : r.0.0 ≡ f = a.1 ∙ d.1 in
    let s = first_spelled payload r.0 all r.1 in
    record {
      spelled = elim s.spelled [
        | inl e ↦ inl (e ∙ ap (λ xs. first.spell r.0.0 ++ xs) nothing ∙ append-nil (first.spell r.0.0)
            ∙ ap first.spell same)
        | inr e ↦ inr (e ∙ ap (λ xs. spelling_01 r.0.0 ++ xs) nothing ∙ append-nil (spelling_01 r.0.0)
            ∙ ap spelling_01 same)
      ];
      attached = ap (λ (g : FirstPart). g.devices.disk.attached) (sym d.1) ∙ eqb-true _ _ d.0;
      holds = subst (λ g. HasWrites g × (is_possible g ≡ true)) same s.holds;
    }

-- so a board with this many drives can have it
pub is_of_board : (drives : ℕ) (payload : List ℕ) (f : FirstPart) → IsBytes payload → Some f ≡ read_all first payload
    → f.devices.disk.attached ≡ drives → IsOfBoard drives f
unfolding first_in
is_of_board drives payload f all e attached =
    let read : first_in drives payload ≡ Some f =
    ap (λ (o : Option FirstPart). o >>= of_drives drives) (sym e)
    ∙ ap (λ b. cond b (Some f) None) (eq-eqb f.devices.disk.attached drives attached) in
    let h = first_in_spelled drives payload f all read in
    record { attached = h.attached; possible = h.holds.1; count = h.holds.0.0; writes = h.holds.0.1 }
