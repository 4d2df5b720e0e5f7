-- A guest that may be copied: each field of its image is in its range and passes its test, so the parts make it again.
use Rattle.std.proofs.Common.{◌≡◌, ℕ, zero, suc, ◌*◌, ◌<◌, ◌≤◌, ◌^◌, true, List, [], ◌∷◌, ◌++◌, length, take, drop, replicate, Option, Some, None, refl, ap, ◌∙◌, arith}
use Rattle.std.specs.Prelude.{All, IfSome, slice_index, slice_index_or, nat_le, nat_lt}
use Rattle.std.specs.List.{zip}
use Rattle.std.proofs.lemmas.List.Elements.{All-cons, All-head, All-tail}
use Rattle.std.proofs.lemmas.Bool.{and_from, le-leb, lt-ltb}
use Rattle.serial_2sio.specs.Port as serial
use Rattle.clone_state.proofs.Words.{Checkpoint, CurrentSector, Drives, GREATEST_NUMBER, Guest, HasOneByte, IsCopyable, IsIssued, IsUnderHead, Place, SECTOR_BYTES, SectorWrite, are_levels, are_zeros, checkpoint_of, first, first_in, guest_in, guest_of, is_controller, is_possible, is_window, later_parts, may_halt, oldest_of, padded, parts_of, port_stands, spelling_01, window_of, write_at, writes_at}
use Rattle.disk_dcdd.specs.declared.address.TheConstants.{DRIVE_SECTORS}
use Rattle.disk_dcdd.specs.declared.controller.TheConstants.{DRIVES, OUTSTANDING}
use Rattle.event_callbacks.specs.Completions.{port_of}
use Rattle.event_callbacks.specs.Operations.{Operations, operation_at}
use Rattle.event_callbacks.specs.declared.operations.OpId.TheVariants as id
use Rattle.event_callbacks.specs.declared.operations.Operation.TheVariants as operation
use Rattle.guest_parts.specs.Board.{IsHeld}
use Rattle.guest_parts.proofs.Shown.{all_pass, completed_pass, port_passes}
use Rattle.log_entry.specs.Numbers.{◌>>=◌}
use Rattle.clone_state.proofs.Controllers.{controller_passes}
use Rattle.clone_state.proofs.First.{AreNumbers, IsFirst, IsPortImage, first_in_again, first_in_again_01}
use Rattle.clone_state.proofs.Devices.{HasOne, IsCurrent, IsWrite}
use Rattle.clone_state.proofs.Lists.{map_length}
use Rattle.clone_state.proofs.Guests.{guest_again, padded_length, window_length, write_itself, writes_placed}
use Rattle.clone_state.proofs.PartLaws.{IsImage, parts_again}

-- ---- the ranges

numbers_all : (xs : List ℕ) → ((k : ℕ) → slice_index xs k ≤ GREATEST_NUMBER) → AreNumbers xs
numbers_all [] h = λ k x inside. absurd (omega (arith, inside))
numbers_all (x ∷ xs) h =
    let few : x ≤ GREATEST_NUMBER = h 0 in
    All-cons (λ n. n < 2 ^ 62) x xs (omega (arith, few)) (numbers_all xs (λ k. h (suc k)))

selected_few : (o : Option ℕ) (attached : ℕ) → attached ≤ DRIVES → IfSome o (λ n. n < attached)
    → IfSome o (λ n. n < 255)
selected_few None attached few h = tt
selected_few (Some n) attached few h = omega (arith, few, h)

current_whole : (d : Drives) (o : Option CurrentSector) → IfSome o (IsUnderHead d) → IsCurrent o
current_whole d None h = tt
current_whole d (Some s) h = (h.bytes, filled s.filled h.unfinished.filled)
  where
    filled : (o : Option ℕ) → IfSome o (λ n. n < SECTOR_BYTES) → IfSome o (λ n. n < 255)
    filled None h = tt
    filled (Some n) h = omega (arith, h)

writes_whole : (d : Drives) (all : Operations) (places : List Place)
    → ((w : SectorWrite) → operation_at all (id.Write w.number) ≡ Some (operation.Write w)
    → length w.bytes ≡ SECTOR_BYTES)
    → All (IsHeld all) places → All (IsIssued d.attached d.issued) places → d.issued ≤ GREATEST_NUMBER
    → All IsWrite (writes_at all places)
writes_whole d all [] whole held issued few = λ k x inside. absurd (omega (arith, inside))
writes_whole d all (x ∷ xs) whole held issued few =
    let i = write_itself all x (All-head (IsHeld all) x xs held) in
    let p = All-head (IsIssued d.attached d.issued) x xs issued in
    let w : SectorWrite = write_at x (operation_at all (id.Write x.number)) in
    let same : w.number ≡ x.number = ap (λ (q : Place). q.number) i.1 in
    let last : x.number ≤ d.issued = p.last in
    All-cons IsWrite w (writes_at all xs)
    (record {
      number = omega (arith, same, last, few);
      bytes = whole w (ap (λ n. operation_at all (id.Write n)) same ∙ i.0);
    })
    (writes_whole d all xs whole (All-tail (IsHeld all) x xs held)
    (All-tail (IsIssued d.attached d.issued) x xs issued) few)

-- ---- the windows

zeros_after : (n m : ℕ) (xs : List ℕ) → length xs ≡ n
    → are_zeros (drop n (take m (xs ++ replicate m 0))) ≡ true
zeros_after n zero xs e = nothing n
  where
    nothing : (n : ℕ) → are_zeros (drop n []) ≡ true
    nothing zero = refl
    nothing (suc n) = refl
zeros_after zero (suc m) [] e = zeros m m
  where
    zeros : (k m : ℕ) → are_zeros (take k (replicate m 0)) ≡ true
    zeros zero m = refl
    zeros (suc k) zero = refl
    zeros (suc k) (suc m) = zeros k m
zeros_after zero (suc m) (x ∷ xs) e = absurd (omega (arith, e))
zeros_after (suc n) (suc m) [] e = absurd (omega (arith, e))
zeros_after (suc n) (suc m) (x ∷ xs) e = more n m (suc m) xs (omega (arith, e))
  where
    past : (k j : ℕ) → are_zeros (take k (replicate j 0)) ≡ true
    past zero j = refl
    past (suc k) zero = refl
    past (suc k) (suc j) = past k j

    nothing : (n : ℕ) → are_zeros (drop n []) ≡ true
    nothing zero = refl
    nothing (suc n) = refl

    more : (n k j : ℕ) (xs : List ℕ) → length xs ≡ n → are_zeros (drop n (take k (xs ++ replicate j 0))) ≡ true
    more n zero j xs e = nothing n
    more zero (suc k) j [] e = past (suc k) j
    more zero (suc k) j (x ∷ xs) e = absurd (omega (arith, e))
    more (suc n) (suc k) j [] e = absurd (omega (arith, e))
    more (suc n) (suc k) j (x ∷ xs) e = more n k j xs (omega (arith, e))

padded_window : (n : ℕ) (xs : List ℕ) → length xs ≡ n → n ≤ serial.window → is_window n (padded xs) ≡ true
unfolding padded
padded_window n xs e few =
    and_from (nat_le n serial.window) _ (le-leb n serial.window few) (zeros_after n serial.window xs e)

two_images : (ports : List serial.Port) (xs ys : List ℕ) → length ports ≡ 2
    → IsPortImage (slice_index_or ports 0 serial.at_boot, xs) → IsPortImage (slice_index_or ports 1 serial.at_boot, ys)
    → All IsPortImage (zip ports (xs ∷ ys ∷ []))
two_images [] xs ys e h k = absurd (omega (arith, e))
two_images (p ∷ []) xs ys e h k = absurd (omega (arith, e))
two_images (p ∷ q ∷ []) xs ys e h k =
    All-cons IsPortImage (p, xs) ((q, ys) ∷ []) h (All-cons IsPortImage (q, ys) [] k
    (λ n x inside. absurd (omega (arith, inside))))
two_images (p ∷ q ∷ r ∷ ports) xs ys e h k = absurd (omega (arith, e))

port_image : (g : Guest) (port : ℕ) → (port_of g.devices port).unaccepted ≤ serial.window
    → IsPortImage (port_of g.devices port, padded (window_of g port))
port_image g port few =
    let n : ℕ = (port_of g.devices port).unaccepted in (
      padded_length (window_of g port),
      padded_window n (window_of g port) (window_length g.operations port (oldest_of g.devices g.issued port) n) few,
    )

-- ---- the tests

possible : (g : Guest) → IsCopyable g → is_possible (checkpoint_of g).first ≡ true
unfolding is_possible
possible g h =
    let a = h.board.awaited in
    let r = h.board.in_range in
    and_from _ (is_controller g.devices.disk)
    (and_from _ (port_stands g.devices g.issued g.keys 1)
    (and_from _ (port_stands g.devices g.issued g.keys 0)
    (and_from (may_halt g.processor) (are_levels g.levels) h.awake
    (all_pass (λ level. nat_lt level 8) g.levels (λ k. lt-ltb (slice_index g.levels k) 8 (r.levels k))))
    (port_passes g.devices g.issued g.keys 0 (a.sent 0) (r.issued 0) (r.keys 0)))
    (port_passes g.devices g.issued g.keys 1 (a.sent 1) (r.issued 1) (r.keys 1)))
    (controller_passes g.devices.disk h.disk)

-- ---- all together

first_is : (g : Guest) → IsCopyable g → IsFirst (checkpoint_of g).first
first_is g h =
    let a = h.board.awaited in
    let r = h.board.in_range in
    let d : Drives = g.devices.disk in
    let few : d.issued ≤ GREATEST_NUMBER = h.disk.issued in
    let count : g.count ≤ GREATEST_NUMBER = r.count in
    record {
      levels = h.levels;
      count = omega (arith, count);
      two_keys = r.ports;
      keys = numbers_all g.keys r.keys;
      two_issued = a.numbers;
      issued = numbers_all g.issued r.issued;
      two_ports = a.ports;
      two_windows = refl;
      ports = two_images g.devices.ports (padded (window_of g 0)) (padded (window_of g 1)) a.ports
          (port_image g 0 (h.window 0)) (port_image g 1 (h.window 1));
      writes_issued = omega (arith, few);
      selected = selected_few d.selected d.attached h.disk.few h.disk.selected;
      drives = h.disk.drives.count;
      current = current_whole d d.current h.disk.current;
      writes = writes_whole d g.operations d.outstanding h.writes a.places h.disk.outstanding.each few;
      few = le-leb (length (writes_at g.operations d.outstanding)) OUTSTANDING
          (let few_places = h.disk.outstanding.few in
          let long = map_length (λ place. write_at place (operation_at g.operations (id.Write place.number))) d.outstanding in
          omega (arith, few_places, long));
      outstanding = writes_placed g.operations d.outstanding a.places;
      possible = possible g h;
    }

pub image_is : (g : Guest) → IsCopyable g → IsImage (checkpoint_of g)
image_is g h =
    let d : Drives = g.devices.disk in
    let sectors : length g.completed ≡ d.attached * DRIVE_SECTORS = h.board.completed.sectors in
    let last = h.board.completed.last in
    let few : d.issued ≤ GREATEST_NUMBER = h.disk.issued in
    record {
      first = first_is g h;
      memory = h.memory;
      tables = omega (arith, sectors);
      completed = numbers_all g.completed (λ k. (let low = last k in omega (arith, low, few)));
      fits = completed_pass d g.completed h.board.completed;
    }

pub says_it_all : (g : Guest) → IsCopyable g → guest_of (checkpoint_of g) ≡ g
says_it_all g h =
    guest_again g h.versions (record { first = h.window 0; second = h.window 1 }) h.board h.disk

-- the parts with a first part that says the same
made_of : (g : Guest) (front : List ℕ) → IsCopyable g
    → first_in g.devices.disk.attached front ≡ Some (checkpoint_of g).first
    → guest_in g.devices.disk.attached (front ∷ later_parts (checkpoint_of g)) ≡ Some g
unfolding guest_in
made_of g front h e =
    ap (λ (o : Option Checkpoint). o >>= λ c. Some (guest_of c)) (parts_again (checkpoint_of g) front (image_is g h) e)
    ∙ ap (λ x. Some x) (says_it_all g h)

pub parts_make_it : (g : Guest) → IsCopyable g
    → guest_in g.devices.disk.attached (parts_of (checkpoint_of g)) ≡ Some g
unfolding parts_of
parts_make_it g h =
    made_of g (first.spell (checkpoint_of g).first) h
    (first_in_again g.devices.disk.attached (checkpoint_of g).first (first_is g h) refl)

pub parts_make_it_01 : (g : Guest) → IsCopyable g → HasOneByte g
    → guest_in g.devices.disk.attached (spelling_01 (checkpoint_of g).first ∷ later_parts (checkpoint_of g)) ≡ Some g
parts_make_it_01 g h one =
    made_of g (spelling_01 (checkpoint_of g).first) h
    (first_in_again_01 g.devices.disk.attached (checkpoint_of g).first (first_is g h)
    (two_ones g.devices.ports (padded (window_of g 0)) (padded (window_of g 1)) h.board.awaited.ports (one 0) (one 1)) refl)
  where
    two_ones : (ports : List serial.Port) (xs ys : List ℕ) → length ports ≡ 2
        → (slice_index_or ports 0 serial.at_boot).unaccepted ≤ 1
        → (slice_index_or ports 1 serial.at_boot).unaccepted ≤ 1 → All HasOne (zip ports (xs ∷ ys ∷ []))
    two_ones [] xs ys e h k = absurd (omega (arith, e))
    two_ones (p ∷ []) xs ys e h k = absurd (omega (arith, e))
    two_ones (p ∷ q ∷ []) xs ys e h k =
        All-cons HasOne (p, xs) ((q, ys) ∷ []) h (All-cons HasOne (q, ys) [] k
        (λ n x inside. absurd (omega (arith, inside))))
    two_ones (p ∷ q ∷ r ∷ ports) xs ys e h k = absurd (omega (arith, e))
