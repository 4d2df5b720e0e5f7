-- What a board shows can be rebuilt. Its parts pass each test, by what holds of every board, and each operation of the
-- parts is one of the board's; both have equally many, so they are the same, and so are the guests.
use Rattle.std.proofs.Common.{◌≡◌, ℕ, suc, ◌+◌, ◌-◌, ◌*◌, ◌<◌, ◌≤◌, Bool, true, false, not, ◌==◌, ◌&&◌, List, [], ◌∷◌, length, map, take, Option, Some, None, is_some, refl, sym, ap, subst, ◌∙◌, ⊎_elim, arith}
use Rattle.std.specs.Prelude.{nat_lt, nat_le, slice_index, slice_index_or, All}
use Rattle.std.specs.List.{list_all}
use Rattle.std.specs.FinMap as finite
use Rattle.std.proofs.lemmas.Bool.{and_from, eq-eqb, le-leb, lt-ltb}
use Rattle.std.proofs.lemmas.List.{length-take-le, get_or-take}
use Rattle.std.proofs.lemmas.List.Elements.{All-cons, All-map, All-head, All-tail}
use Rattle.i8080_words.specs.declared.registers.Processor.{Processor}
use Rattle.disk_dcdd.specs.Completion.{is_outstanding}
use Rattle.disk_dcdd.specs.Drive as drives
use Rattle.disk_dcdd.specs.Sector.{place_of}
use Rattle.disk_dcdd.specs.declared.address.TheConstants.{DRIVE_SECTORS}
use Rattle.i8080_words.specs.declared.limits.TheConstants.{GREATEST_NUMBER}
use Rattle.disk_dcdd.specs.declared.sector.Place.{Place}
use Rattle.disk_dcdd.specs.declared.sector.SectorWrite.{SectorWrite}
use Rattle.event_callbacks.specs.Completions.{port_of}
use Rattle.event_callbacks.specs.declared.devices.Devices.{Devices}
use Rattle.event_callbacks.specs.declared.operations.OpId.{OpId}
use Rattle.event_callbacks.specs.declared.operations.OpId.TheVariants as id
use Rattle.event_callbacks.specs.declared.operations.Operation.{Operation}
use Rattle.event_callbacks.specs.declared.operations.Operation.TheVariants as operation
use Rattle.event_callbacks.specs.Operations.{Operations, operation_at, with_operation, id_of}
use Rattle.event_callbacks.proofs.Names.{name_cases}
use Rattle.event_callbacks.proofs.OperationMap.{operation_at-empty, operation_at-with_named, operation_at-with_other, same_operations}
use Rattle.guest_memory.specs.Pages.{zeros}
use Rattle.guest_memory.specs.declared.memory.TheConstants.{PAGES}
use Rattle.guest_parts.specs.Guest.{Guest}
use Rattle.guest_parts.specs.Board.{AreAwaited, AreCompleted, IsBoard}
use Rattle.guest_parts.specs.Parts.{with_each, bytes_from, bytes_of, writes_of, goes_to, go_to, port_stands, may_be_completed, are_completed, are_levels, stands, operations_of, guest_of_parts, HaveBytes, HaveWrites, Shows}
use Rattle.guest_parts.specs.declared.parts.BoardParts.{BoardParts}

-- ---- the tests

pub all_pass : (p : ℕ → Bool) (xs : List ℕ) → ((k : ℕ) → p (slice_index xs k) ≡ true) → list_all p xs ≡ true
all_pass p [] each = refl
all_pass p (x ∷ xs) each = and_from (p x) (list_all p xs) (each 0) (all_pass p xs (λ k. each (suc k)))

pub go_itself : (ws : List SectorWrite) → go_to ws (map place_of ws) ≡ true
go_itself [] = refl
go_itself (w ∷ ws) =
    and_from (goes_to w (place_of w)) (go_to ws (map place_of ws))
    (and_from (w.number == w.number && w.drive == w.drive && w.track == w.track) (w.sector == w.sector)
    (and_from (w.number == w.number && w.drive == w.drive) (w.track == w.track)
    (and_from (w.number == w.number) (w.drive == w.drive) (eq-eqb w.number w.number refl)
    (eq-eqb w.drive w.drive refl))
    (eq-eqb w.track w.track refl)) (eq-eqb w.sector w.sector refl))
    (go_itself ws)

pub completed_pass : (disk : drives.Drives) (completed : List ℕ) → AreCompleted completed disk
    → are_completed disk completed ≡ true
completed_pass disk completed h =
    and_from (length completed == disk.attached * DRIVE_SECTORS) (list_all (may_be_completed disk) completed)
    (eq-eqb (length completed) (disk.attached * DRIVE_SECTORS) h.sectors)
    (all_pass (may_be_completed disk) completed (λ k.
    and_from (nat_le (slice_index completed k) disk.issued) (not (is_outstanding disk (slice_index completed k)))
    (le-leb (slice_index completed k) disk.issued (h.last k)) (ap not (h.done k))))

pub port_passes : (d : Devices) (issued keys : List ℕ) (port : ℕ) → (port_of d port).unaccepted ≤ slice_index issued port
    → slice_index issued port ≤ GREATEST_NUMBER → slice_index keys port ≤ GREATEST_NUMBER
    → port_stands d issued keys port ≡ true
port_passes d issued keys port sent few rare =
    and_from (nat_le (port_of d port).unaccepted (slice_index issued port) && nat_le
    (slice_index issued port) GREATEST_NUMBER)
    (nat_le (slice_index keys port) GREATEST_NUMBER)
    (and_from (nat_le (port_of d port).unaccepted (slice_index issued port))
    (nat_le (slice_index issued port) GREATEST_NUMBER)
    (le-leb _ _ sent) (le-leb _ _ few))
    (le-leb _ _ rare)

-- parts from which a board is made pass, if their writes are those of the controller's places
pub parts_pass : (p : BoardParts) (operations : Operations) (versions : List ℕ)
    → IsBoard (record (guest_of_parts p) { operations = operations }) versions
    → map place_of p.writes.items ≡ p.devices.disk.outstanding → stands p ≡ true
parts_pass p operations versions board there =
    and_from _ (are_completed p.devices.disk p.completed.items)
    (and_from _ (go_to p.writes.items p.devices.disk.outstanding)
    (and_from _ (are_levels p.levels)
    (and_from _ (nat_le p.count GREATEST_NUMBER)
    (and_from (port_stands p.devices p.issued p.keys 0) (port_stands p.devices p.issued p.keys 1)
    (port_passes p.devices p.issued p.keys 0 (board.awaited.sent 0) (board.in_range.issued 0) (board.in_range.keys 0))
    (port_passes p.devices p.issued p.keys 1 (board.awaited.sent 1) (board.in_range.issued 1) (board.in_range.keys 1)))
    (le-leb p.count GREATEST_NUMBER board.in_range.count))
    (all_pass (λ level. nat_lt level 8) p.levels (λ k. lt-ltb (slice_index p.levels k) 8 (board.in_range.levels k))))
    (subst (λ (places : List Place). go_to p.writes.items places ≡ true) there (go_itself p.writes.items)))
    (completed_pass p.devices.disk p.completed.items board.completed)

-- ---- the operations

-- what the first has, the second has too
abbrev pub AreAmong : Operations → Operations → Type 0
AreAmong m all = (name : OpId) (op : Operation) → operation_at m name ≡ Some op → operation_at all name ≡ Some op

with-among : (m all : Operations) (op : Operation) → operation_at all (id_of op) ≡ Some op → AreAmong m all
    → AreAmong (with_operation m op) all
with-among m all op there among name found e =
    ⊎_elim
    (λ same. let f : Some op ≡ Some found = sym (operation_at-with_named m op name same) ∙ e in
    ap (operation_at all) same ∙ there ∙ f)
    (λ differs. among name found (sym (operation_at-with_other m op name differs) ∙ e))
    (name_cases name (id_of op))

pub each-among : (m all : Operations) (ops : List Operation) → All (λ op. operation_at all (id_of op) ≡ Some op) ops
    → AreAmong m all → AreAmong (with_each m ops) all
each-among m all [] there among = among
each-among m all (op ∷ ops) there among =
    each-among (with_operation m op) all ops (All-tail (λ x. operation_at all (id_of x) ≡ Some x) op ops there)
    (with-among m all op (All-head (λ x. operation_at all (id_of x) ≡ Some x) op ops there) among)

bytes_there : (all : Operations) (p n : ℕ) (xs : List ℕ)
    → ((j k : ℕ) → j < length xs → k ≡ n + j → operation_at all (id.Byte p k)
    ≡ Some (operation.Byte p k (slice_index xs j)))
    → All (λ op. operation_at all (id_of op) ≡ Some op) (bytes_from p n xs)
bytes_there all p n [] each = λ k op inside. absurd (omega (arith, inside))
bytes_there all p n (x ∷ xs) each =
    All-cons (λ op. operation_at all (id_of op) ≡ Some op) (operation.Byte p n x) (bytes_from p (n + 1) xs)
    (each 0 n (omega arith) (omega arith))
    (bytes_there all p (n + 1) xs (λ j k inside e. each (suc j) k (omega (arith, inside)) (omega (arith, e))))

-- the bytes of a port that are shown are among those that are outstanding
port-among : (d : Devices) (issued : List ℕ) (unaccepted : List (List ℕ)) (m all : Operations) (p : ℕ)
    → (port_of d p).unaccepted ≤ length (slice_index_or unaccepted p [])
    → ((j : ℕ) → j < (port_of d p).unaccepted
    → operation_at all (id.Byte p (slice_index issued p + 1 - (port_of d p).unaccepted + j))
    ≡ Some (operation.Byte p (slice_index issued p + 1 - (port_of d p).unaccepted + j)
    (slice_index (slice_index_or unaccepted p []) j)))
    → AreAmong m all → AreAmong (with_each m (bytes_of d issued unaccepted p)) all
port-among d issued unaccepted m all p window shown among =
    let u : ℕ = (port_of d p).unaccepted in
    let bytes : List ℕ = slice_index_or unaccepted p [] in
    let n : ℕ = slice_index issued p + 1 - u in
    each-among m all (bytes_from p n (take u bytes))
    (bytes_there all p n (take u bytes) (λ j k inside e.
    let low : j < u = omega (arith, inside, length-take-le u bytes window) in
    ap (λ i. operation_at all (id.Byte p i)) e ∙ shown j low
    ∙ ap (λ i. Some (operation.Byte p i (slice_index bytes j))) (sym e)
    ∙ ap (λ b. Some (operation.Byte p k b)) (sym (get_or-take u bytes j 0 low)))) among

pub empty-among : (all : Operations) → AreAmong finite.empty all
empty-among all name op e = let none = operation_at-empty name in cc

-- two maps with operations under the same names are equal, if one is among the other
pub same_by_names : (m all : Operations) → AreAmong m all
    → ((name : OpId) → is_some (operation_at m name) ≡ is_some (operation_at all name)) → m ≡ all
same_by_names m all among names =
    same_operations m all among (λ name op e. found name op (operation_at m name) refl e)
  where
    found : (name : OpId) (op : Operation) (o : Option Operation) → operation_at m name ≡ o
        → operation_at all name ≡ Some op
        → operation_at m name ≡ Some op
    found name op None none e =
        let clash : false ≡ true = sym (ap is_some none) ∙ names name ∙ ap is_some e in cc
    found name op (Some x) some e =
        let there : operation_at all name ≡ Some x = among name x some in
        some ∙ sym there ∙ e

-- two maps that agree with the same devices have operations under the same names
pub same_names : (d : Devices) (m n : Operations) (issued : List ℕ) → AreAwaited d m issued → AreAwaited d n issued
    → (name : OpId) → is_some (operation_at m name) ≡ is_some (operation_at n name)
same_names d m n issued a b (id.Byte port number) = a.bytes port number ∙ sym (b.bytes port number)
same_names d m n issued a b (id.Write number) = a.writes number ∙ sym (b.writes number)

-- the operations of the parts that a board shows are those of the board
pub shown_operations : (p : BoardParts) (all : Operations)
    → (port_of p.devices 0).unaccepted ≤ length (slice_index_or p.unaccepted 0 [])
    → (port_of p.devices 1).unaccepted ≤ length (slice_index_or p.unaccepted 1 [])
    → HaveBytes all p 0 → HaveBytes all p 1 → HaveWrites all p.writes.items
    → AreAwaited p.devices (operations_of p) p.issued → AreAwaited p.devices all p.issued → operations_of p ≡ all
shown_operations p all first second zeroth other held ours theirs =
    let one : Operations = with_each finite.empty (bytes_of p.devices p.issued p.unaccepted 0) in
    let two : Operations = with_each one (bytes_of p.devices p.issued p.unaccepted 1) in
    same_by_names (operations_of p) all
    (each-among two all (writes_of p.writes.items)
    (All-map (λ op. operation_at all (id_of op) ≡ Some op) operation.Write p.writes.items held)
    (port-among p.devices p.issued p.unaccepted one all 1 second other
    (port-among p.devices p.issued p.unaccepted finite.empty all 0 first zeroth (empty-among all))))
    (same_names p.devices (operations_of p) all p.issued ours theirs)

-- ---- the guest

same_guest : (g : Guest) (processor : Processor) (memory : List ℕ) (devices : Devices) (operations : Operations)
    (issued completed : List ℕ) (count : ℕ) (keys levels : List ℕ) (sense : ℕ)
    → processor ≡ g.processor → memory ≡ g.memory → devices ≡ g.devices → operations ≡ g.operations → issued ≡ g.issued
    → completed ≡ g.completed → count ≡ g.count → keys ≡ g.keys → levels ≡ g.levels → sense ≡ g.sense
    → record {
      processor = processor;
      memory = memory;
      devices = devices;
      operations = operations;
      issued = issued;
      completed = completed;
      count = count;
      keys = keys;
      levels = levels;
      sense = sense;
    } ≡ g
same_guest g processor memory devices operations issued completed count keys levels sense
    e1 e2 e3 e4 e5 e6 e7 e8 e9 e10 =
    rw (e1, e2, e3, e4, e5, e6, e7, e8, e9, e10) refl

-- the guest that the parts describe, with these operations, is the guest that shows them
pub shown_guest : (g : Guest) (p : BoardParts) (operations : Operations) → Shows g p → operations ≡ g.operations
    → record (guest_of_parts p) { operations = operations } ≡ g
shown_guest g p operations s e =
    same_guest g p.processor p.memory.items p.devices operations p.issued p.completed.items p.count p.keys p.levels
    p.sense
    s.processor s.memory s.devices e s.issued s.completed s.count s.keys s.levels s.sense

pub shown_stands : (g : Guest) (p : BoardParts) (versions : List ℕ) → IsBoard g versions → Shows g p → stands p ≡ true
shown_stands g p versions board s =
    parts_pass p g.operations versions
    (subst (λ (x : Guest). IsBoard x versions) (sym (shown_guest g p g.operations s refl)) board) s.places

pub shown_is_rebuilt : (g : Guest) (p : BoardParts) (versions : List ℕ)
    → (port_of p.devices 0).unaccepted ≤ length (slice_index_or p.unaccepted 0 [])
    → (port_of p.devices 1).unaccepted ≤ length (slice_index_or p.unaccepted 1 [])
    → IsBoard g versions → Shows g p → IsBoard (guest_of_parts p) (zeros PAGES) → guest_of_parts p ≡ g
shown_is_rebuilt g p versions first second board s rebuilt =
    let theirs : AreAwaited p.devices g.operations p.issued =
    subst (λ (x : Guest). AreAwaited x.devices g.operations x.issued)
    (sym (shown_guest g p g.operations s refl)) board.awaited in
    shown_guest g p (operations_of p) s
    (shown_operations p g.operations first second s.first s.second s.writes rebuilt.awaited theirs)
