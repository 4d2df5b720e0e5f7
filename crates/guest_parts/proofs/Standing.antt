-- When a board can be in the state that its parts describe. The writes are those that the controller waits for, so
-- exactly the bytes on their way and those writes are outstanding, and every number is in range: what every board
-- needs.
use Rattle.std.proofs.Common.{◌≡◌, ℕ, zero, suc, ◌+◌, ◌-◌, ◌*◌, ◌^◌, ◌<◌, ◌≤◌, Bool, true, false, not, ◌==◌, ◌||◌, ◌&&◌, List, [], ◌∷◌, length, map, None, is_some, refl, sym, ap, subst, ◌∙◌, arith}
use Rattle.std.specs.Prelude.{nat_lt, nat_le, slice_index, slice_index_or, IfSome, All}
use Rattle.std.specs.List.{list_any, list_all}
use Rattle.std.specs.FinMap as finite
use Rattle.std.proofs.lemmas.Bool.{and_parts, eqb-true, leb-true, ltb-true, not-true}
use Rattle.std.proofs.lemmas.Bool.Decides.{nat_tests}
use Rattle.std.proofs.lemmas.List.{get_or_past, length-take-le}
use Rattle.std.proofs.lemmas.List.Elements.{All-map, All-head, All-tail}
use Rattle.std.proofs.Math.Bool.{or-false}
use Rattle.i8080_words.specs.declared.registers.Processor.{Processor}
use Rattle.serial_2sio.specs.Port as serial
use Rattle.disk_dcdd.specs.Controller.{IsDrives}
use Rattle.disk_dcdd.specs.Completion.{is_outstanding}
use Rattle.disk_dcdd.specs.Drive as drives
use Rattle.disk_dcdd.specs.declared.address.TheConstants.{DRIVE_SECTORS}
use Rattle.i8080_words.specs.declared.limits.TheConstants.{GREATEST_NUMBER}
use Rattle.disk_dcdd.specs.Sector.{place_of}
use Rattle.disk_dcdd.specs.declared.sector.Place.{Place}
use Rattle.disk_dcdd.specs.declared.sector.SectorWrite.{SectorWrite}
use Rattle.event_callbacks.specs.Completions.{port_of}
use Rattle.event_callbacks.specs.declared.devices.Devices.{Devices}
use Rattle.event_callbacks.specs.declared.devices.TheConstants.{PORTS}
use Rattle.event_callbacks.specs.declared.operations.OpId.TheVariants as id
use Rattle.event_callbacks.specs.Operations.{Operations, operation_at, id_of}
use Rattle.event_callbacks.proofs.OperationMap.{operation_at-empty}
use Rattle.guest_memory.specs.Pages.{zeros}
use Rattle.guest_memory.specs.declared.memory.TheConstants.{PAGES}
use Rattle.guest_memory.proofs.NewMemory.{only_zeros}
use Rattle.guest_parts.specs.Board.{AreAwaited, AreCompleted, IsBoard, IsHeld, is_on_its_way}
use Rattle.guest_parts.specs.Parts.{with_each, bytes_from, writes_of, Rise, go_to, port_stands, may_be_completed, are_completed, are_levels, stands, operations_of, guest_of_parts}
use Rattle.guest_parts.specs.declared.parts.BoardParts.{BoardParts}
use Rattle.guest_parts.proofs.Names.{other_port, no_byte}
use Rattle.guest_parts.proofs.Places.{go_there, rises}
use Rattle.guest_parts.proofs.Waiting.{bytes-other, bytes-on_their_way, writes-byte, writes-held, writes-numbers, each_named}

-- ---- what is outstanding

any_place : (ws : List SectorWrite) (n : ℕ)
    → list_any (λ (w : SectorWrite). w.number == n) ws
    ≡ list_any (λ (place : Place). place.number == n) (map place_of ws)
any_place [] n = refl
any_place (w ∷ ws) n = ap (λ b. (w.number == n) || b) (any_place ws n)

-- exactly the newest bytes of and_parts ports and the writes of the controller's places are outstanding
pub awaited-parts : (d : Devices) (issued : List ℕ) (xs ys : List ℕ) (ws : List SectorWrite)
    → length d.ports ≡ PORTS → length issued ≡ PORTS
    → length xs ≡ (port_of d 0).unaccepted → length ys ≡ (port_of d 1).unaccepted
    → (port_of d 0).unaccepted ≤ slice_index issued 0 → (port_of d 1).unaccepted ≤ slice_index issued 1
    → map place_of ws ≡ d.disk.outstanding → IsDrives d.disk
    → AreAwaited d
    (with_each (with_each (with_each finite.empty (bytes_from 0
    (slice_index issued 0 + 1 - (port_of d 0).unaccepted) xs))
    (bytes_from 1 (slice_index issued 1 + 1 - (port_of d 1).unaccepted) ys)) (writes_of ws)) issued
awaited-parts d issued xs ys ws two numbers first second sent others there stand =
    let n : ℕ = slice_index issued 0 + 1 - (port_of d 0).unaccepted in
    let m : ℕ = slice_index issued 1 + 1 - (port_of d 1).unaccepted in
    let one : Operations = with_each finite.empty (bytes_from 0 n xs) in
    let both_ports : Operations = with_each one (bytes_from 1 m ys) in
    let all : Operations = with_each both_ports (writes_of ws) in
    let rise : Rise ws = rises ws d.disk.outstanding there stand.outstanding.order in
    record {
      ports = two;
      numbers = numbers;
      sent = each_port two sent others;
      bytes = bytes_at n m one both_ports;
      writes = λ k. writes-numbers both_ports ws k
          ∙ ap (λ o. list_any (λ (w : SectorWrite). w.number == k) ws || is_some o) (no_write_yet n m k)
          ∙ or-false (list_any (λ (w : SectorWrite). w.number == k) ws)
          ∙ any_place ws k ∙ ap (list_any (λ (place : Place). place.number == k)) there;
      places = subst (All (IsHeld all)) there
          (All-map (IsHeld all) place_of ws (λ k w inside. record {
            write = slice_index_or ws k w;
            held = writes-held both_ports ws rise k w inside;
            there = refl;
          }));
      last = λ k place inside. (stand.outstanding.each k place inside).last;
      names = each_named both_ports (writes_of ws) (each_named one (bytes_from 1 m ys)
          (each_named finite.empty (bytes_from 0 n xs)
          (λ name. subst (λ o. IfSome o (λ op. id_of op ≡ name)) (sym (operation_at-empty name)) tt)));
    }
  where
    past : (p : ℕ) → port_of d (suc (suc p)) ≡ serial.at_boot
    past p = get_or_past d.ports (suc (suc p)) serial.at_boot (omega (arith, two))

    each_port : length d.ports ≡ PORTS → (port_of d 0).unaccepted ≤ slice_index issued 0
        → (port_of d 1).unaccepted ≤ slice_index issued 1
        → (p : ℕ) → (port_of d p).unaccepted ≤ slice_index issued p
    each_port e sent others zero = sent
    each_port e sent others (suc zero) = others
    each_port e sent others (suc (suc p)) =
        let none : (port_of d (suc (suc p))).unaccepted ≡ 0 =
        ap (λ (x : serial.Port). x.unaccepted) (past p) in omega (arith, none)

    no_write_yet : (n m k : ℕ)
        → operation_at (with_each (with_each finite.empty (bytes_from 0 n xs)) (bytes_from 1 m ys)) (id.Write k) ≡ None
    no_write_yet n m k =
        bytes-other (with_each finite.empty (bytes_from 0 n xs)) 1 m ys (id.Write k) (λ j. no_byte 1 j k)
        ∙ bytes-other finite.empty 0 n xs (id.Write k) (λ j. no_byte 0 j k) ∙ operation_at-empty (id.Write k)

    none_past : (p : ℕ) → nat_lt (suc (suc p)) PORTS ≡ false
    none_past p = grind (arith, nat_tests)

    bytes_at : (n m : ℕ) (one both_ports : Operations) → (p k : ℕ)
        → is_some (operation_at (with_each (with_each
        (with_each finite.empty (bytes_from 0 (slice_index issued 0 + 1 - (port_of d 0).unaccepted) xs))
        (bytes_from 1 (slice_index issued 1 + 1 - (port_of d 1).unaccepted) ys)) (writes_of ws)) (id.Byte p k))
        ≡ (nat_lt p PORTS && is_on_its_way (slice_index issued p) (port_of d p).unaccepted k)
    bytes_at n m one both_ports zero k =
        ap is_some (writes-byte _ ws 0 k ∙ bytes-other _ 1 _ ys (id.Byte 0 k) (λ j. other_port 0 1 k j (λ e. cc)))
        ∙ bytes-on_their_way finite.empty 0 (slice_index issued 0) (port_of d 0).unaccepted xs
        (λ j. operation_at-empty (id.Byte 0 j)) first sent k
    bytes_at n m one both_ports (suc zero) k =
        ap is_some (writes-byte _ ws 1 k)
        ∙ bytes-on_their_way _ 1 (slice_index issued 1) (port_of d 1).unaccepted ys
        (λ j. bytes-other finite.empty 0 _ xs (id.Byte 1 j) (λ i. other_port 1 0 j i (λ e. cc))
        ∙ operation_at-empty (id.Byte 1 j)) second others k
    bytes_at n m one both_ports (suc (suc p)) k =
        ap is_some (writes-byte _ ws (suc (suc p)) k
        ∙ bytes-other _ 1 _ ys (id.Byte (suc (suc p)) k)
        (λ j. other_port (suc (suc p)) 1 k j (λ e. absurd (omega (arith, e))))
        ∙ bytes-other finite.empty 0 _ xs (id.Byte (suc (suc p)) k)
        (λ j. other_port (suc (suc p)) 0 k j (λ e. absurd (omega (arith, e))))
        ∙ operation_at-empty (id.Byte (suc (suc p)) k))
        ∙ sym (ap (λ b. b && is_on_its_way (slice_index issued (suc (suc p)))
        (port_of d (suc (suc p))).unaccepted k) (none_past p))

-- ---- what the tests say

-- a list of numbers that all pass a test passes it at each index, if 0 passes it
each_passes : (p : ℕ → Bool) (xs : List ℕ) → list_all p xs ≡ true → p 0 ≡ true → (k : ℕ) → p (slice_index xs k) ≡ true
each_passes p [] all none k = none
each_passes p (x ∷ xs) all none zero = (and_parts (p x) (list_all p xs) all).0
each_passes p (x ∷ xs) all none (suc k) = each_passes p xs (and_parts (p x) (list_all p xs) all).1 none k

-- what the test of parts says, rule by rule
pub record Rules (p : BoardParts) : Type 0 where
  pub first : port_stands p.devices p.issued p.keys 0 ≡ true
  pub second : port_stands p.devices p.issued p.keys 1 ≡ true
  pub count : nat_le p.count GREATEST_NUMBER ≡ true
  pub levels : are_levels p.levels ≡ true
  pub writes : go_to p.writes.items p.devices.disk.outstanding ≡ true
  pub completed : are_completed p.devices.disk p.completed.items ≡ true

pub rules_of : (p : BoardParts) → stands p ≡ true → Rules p
rules_of p e =
    let ports : Bool = port_stands p.devices p.issued p.keys 0 && port_stands p.devices p.issued p.keys 1 in
    let counted : Bool = ports && nat_le p.count GREATEST_NUMBER in
    let leveled : Bool = counted && are_levels p.levels in
    let written : Bool = leveled && go_to p.writes.items p.devices.disk.outstanding in
    let five = and_parts written (are_completed p.devices.disk p.completed.items) e in
    let four = and_parts leveled (go_to p.writes.items p.devices.disk.outstanding) five.0 in
    let three = and_parts counted (are_levels p.levels) four.0 in
    let two = and_parts ports (nat_le p.count GREATEST_NUMBER) three.0 in
    let one = and_parts (port_stands p.devices p.issued p.keys 0) (port_stands p.devices p.issued p.keys 1) two.0 in
    record { first = one.0; second = one.1; count = two.1; levels = three.1; writes = four.1; completed = five.1 }

pub standing_writes : (p : BoardParts) → stands p ≡ true → map place_of p.writes.items ≡ p.devices.disk.outstanding
standing_writes p e = go_there p.writes.items p.devices.disk.outstanding (rules_of p e).writes

-- ---- the board

-- the numbers of a port that passes
record PortRules (d : Devices) (issued keys : List ℕ) (port : ℕ) : Type 0 where
  sent : (port_of d port).unaccepted ≤ slice_index issued port
  issued_few : slice_index issued port ≤ GREATEST_NUMBER
  keys_few : slice_index keys port ≤ GREATEST_NUMBER

port_rules : (d : Devices) (issued keys : List ℕ) (port : ℕ) → port_stands d issued keys port ≡ true
    → PortRules d issued keys port
port_rules d issued keys port e =
    let two = and_parts (nat_le (port_of d port).unaccepted (slice_index issued port) && nat_le
    (slice_index issued port) GREATEST_NUMBER)
    (nat_le (slice_index keys port) GREATEST_NUMBER) e in
    let one = and_parts (nat_le (port_of d port).unaccepted (slice_index issued port))
    (nat_le (slice_index issued port) GREATEST_NUMBER) two.0 in
    record {
      sent = leb-true _ _ one.0;
      issued_few = leb-true _ _ one.1;
      keys_few = leb-true _ _ two.1;
    }

-- two numbers in range, and none after them
two_in_range : (xs : List ℕ) → length xs ≡ PORTS → slice_index xs 0 ≤ GREATEST_NUMBER
    → slice_index xs 1 ≤ GREATEST_NUMBER
    → (port : ℕ) → slice_index xs port ≤ GREATEST_NUMBER
two_in_range xs two first second zero = first
two_in_range xs two first second (suc zero) = second
two_in_range xs two first second (suc (suc port)) =
    let none : slice_index xs (suc (suc port)) ≡ 0 = get_or_past xs (suc (suc port)) 0
    (omega (arith, two)) in omega (arith, none)

-- no write has number 0
zero_is_done : (disk : drives.Drives) → IsDrives disk → may_be_completed disk 0 ≡ true
zero_is_done disk stands =
    ap (λ b. nat_le 0 disk.issued && not b)
    (none_at disk.outstanding (λ k place inside. (stands.outstanding.each k place inside).first)) ∙ at_least disk.issued
  where
    at_least : (n : ℕ) → (nat_le 0 n && true) ≡ true
    at_least n = grind (arith, nat_tests)

    none_at : (places : List Place) → All (λ (place : Place). 1 ≤ place.number) places
        → list_any (λ (place : Place). place.number == 0) places ≡ false
    none_at [] all = refl
    none_at (x ∷ xs) all =
        let some : 1 ≤ x.number = All-head (λ (place : Place). 1 ≤ place.number) x xs all in
        ap (λ b. b || list_any (λ (place : Place). place.number == 0) xs) (not_zero x.number some)
        ∙ none_at xs (All-tail (λ (place : Place). 1 ≤ place.number) x xs all)
      where
        not_zero : (n : ℕ) → 1 ≤ n → (n == 0) ≡ false
        not_zero n some = grind (arith, nat_tests)

completed_stand : (disk : drives.Drives) (completed : List ℕ) → IsDrives disk → are_completed disk completed ≡ true
    → AreCompleted completed disk
completed_stand disk completed stands e =
    let h = and_parts (length completed == disk.attached * DRIVE_SECTORS) (list_all (may_be_completed disk) completed) e in
    let each : (k : ℕ) → may_be_completed disk (slice_index completed k) ≡ true =
    each_passes (may_be_completed disk) completed h.1 (zero_is_done disk stands) in
    record {
      sectors = eqb-true (length completed) (disk.attached * DRIVE_SECTORS) h.0;
      last = λ k. leb-true _ _ (and_parts (nat_le (slice_index completed k) disk.issued)
          (not (is_outstanding disk (slice_index completed k))) (each k)).0;
      done = λ k. not-true _ (and_parts (nat_le (slice_index completed k) disk.issued)
          (not (is_outstanding disk (slice_index completed k))) (each k)).1;
    }

pub board-parts : (p : BoardParts) → length p.devices.ports ≡ PORTS → length p.issued ≡ PORTS → length p.keys ≡ PORTS
    → (port_of p.devices 0).unaccepted ≤ length (slice_index_or p.unaccepted 0 [])
    → (port_of p.devices 1).unaccepted ≤ length (slice_index_or p.unaccepted 1 [])
    → p.sense < 2 ^ 8 → IsDrives p.devices.disk → stands p ≡ true → IsBoard (guest_of_parts p) (zeros PAGES)
board-parts p ports numbers keys first second sense stand e =
    let rules = rules_of p e in
    let zeroth : PortRules p.devices p.issued p.keys 0 = port_rules p.devices p.issued p.keys 0 rules.first in
    let other : PortRules p.devices p.issued p.keys 1 = port_rules p.devices p.issued p.keys 1 rules.second in
    record {
      awaited = awaited-parts p.devices p.issued _ _ p.writes.items ports numbers
          (length-take-le (port_of p.devices 0).unaccepted (slice_index_or p.unaccepted 0 []) first)
          (length-take-le (port_of p.devices 1).unaccepted (slice_index_or p.unaccepted 1 []) second)
          zeroth.sent other.sent (standing_writes p e) stand;
      in_range = record {
        count = leb-true _ _ rules.count;
        issued = two_in_range p.issued numbers zeroth.issued_few other.issued_few;
        keys = two_in_range p.keys keys zeroth.keys_few other.keys_few;
        ports = keys;
        levels = λ device. ltb-true _ _ (each_passes (λ level. nat_lt level 8) p.levels rules.levels refl device);
        sense = sense;
        writes = λ page. rw (only_zeros PAGES page) (omega arith);
      };
      completed = completed_stand p.devices.disk p.completed.items stand rules.completed;
    }

-- and what holds of a board that is made from them, with their processor, memory and operations
pub board-from_parts : (p : BoardParts) (processor : Processor) (memory : List ℕ) (operations : Operations)
    (versions : List ℕ)
    → processor ≡ p.processor → memory ≡ p.memory.items → operations ≡ operations_of p → versions ≡ zeros PAGES
    → IsBoard (guest_of_parts p) (zeros PAGES)
    → IsBoard (record {
      processor = processor;
      memory = memory;
      devices = p.devices;
      operations = operations;
      issued = p.issued;
      completed = p.completed.items;
      count = p.count;
      keys = p.keys;
      levels = p.levels;
      sense = p.sense;
    }) versions
board-from_parts p processor memory operations versions goes_on holds waiting unwritten board =
    rw (goes_on, holds, waiting, unwritten) board
