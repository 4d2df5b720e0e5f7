-- What a part says, by its index: the first part, a page, a table.
use Rattle.std.proofs.Common.{◌≡◌, ℕ, zero, suc, ◌+◌, ◌-◌, ◌*◌, ◌<◌, ◌≤◌, List, [], ◌∷◌, ◌++◌, length, map, take, drop, get_or, sym, ap, ◌∙◌, append_assoc, arith}
use Rattle.std.specs.Prelude.{slice_index_or}
use Rattle.std.specs.List.{zip}
use Rattle.std.proofs.lemmas.List.{append-nil, take_more, get_or-append_right, get_or_append_left, get_or-map, drop-drop, length-map}
use Rattle.std.proofs.Math.Nat.{suc-mul}
use Rattle.clone_state.proofs.Words.{Checkpoint, Codec, FirstPart, SECTORS, both, by, bytes, controller, counted, current, devices, drives, fields, first, later_parts, maybe, number, one, only, page, part_count, parts_of, pieces, port, processor, spell_each, table, table_count, times, truth, two_numbers, versioned, write, writes}
use Rattle.serial_2sio.specs.Port as serial
use Rattle.guest_memory.specs.declared.memory.TheConstants.{PAGES, PAGE_BYTES}
use Rattle.clone_state.proofs.PartLaws.{pieces_length}

-- one more value is spelled after the others
pub spell_each-append : {A : Type 0} (c : Codec A) (xs : List A) (x : A)
    → spell_each c (xs ++ x ∷ []) ≡ spell_each c xs ++ c.spell x
spell_each-append c [] x = append-nil (c.spell x)
spell_each-append c (y ∷ ys) x =
    ap (λ (zs : List ℕ). c.spell y ++ zs) (spell_each-append c ys x)
    ∙ sym (append_assoc (c.spell y) (spell_each c ys) (c.spell x))

pub spell_next : {A : Type 0} (c : Codec A) (out : List ℕ) (xs : List A) (i : ℕ) (d : A) → i < length xs
    → (out ++ spell_each c (take i xs)) ++ c.spell (get_or xs i d) ≡ out ++ spell_each c (take (i + 1) xs)
spell_next c out xs i d inside =
    append_assoc out (spell_each c (take i xs)) (c.spell (get_or xs i d))
    ∙ ap (λ (zs : List ℕ). out ++ zs) (sym (spell_each-append c (take i xs) (get_or xs i d)))
    ∙ ap (λ ys. out ++ spell_each c ys) (sym (take_more xs i d inside))

-- ---- the first part

-- the pieces that are written one after another are the spelling of the first part
pub first_spelled : (f : FirstPart) → first.spell f
    ≡ (2 ∷ f.devices.disk.attached ∷ (f.levels ++ (f.sense ∷ number.spell f.count)))
    ++ (processor.spell f.processor ++ (spell_each number f.keys ++ (spell_each number f.issued
    ++ (spell_each port (zip f.devices.ports f.unaccepted)
    ++ ((number.spell f.devices.disk.issued ++ (maybe.spell f.devices.disk.selected ++ truth.spell f.devices.disk.interrupts))
    ++ (drives.spell f.devices.disk.drives ++ (current.spell f.devices.disk.current
    ++ ((length f.writes ∷ []) ++ spell_each write f.writes))))))))
unfolding first versioned fields devices two_numbers controller writes both by only one bytes times counted
first_spelled f = simp append_assoc

-- what is appended piece by piece is appended together
pub regrouped : (out a b c d e f g h i j : List ℕ)
    → (((((((((out ++ a) ++ b) ++ c) ++ d) ++ e) ++ f) ++ g) ++ h) ++ i) ++ j
    ≡ out ++ (a ++ (b ++ (c ++ (d ++ (e ++ (f ++ (g ++ (h ++ (i ++ j)))))))))
regrouped out a b c d e f g h i j = simp append_assoc

pub appended : (out o1 o2 o3 o4 o5 o6 o7 o8 o9 a b c d e f g h i j s : List ℕ) → o1 ≡ out ++ a → o2 ≡ o1 ++ b
    → o3 ≡ o2 ++ c → o4 ≡ o3 ++ d → o5 ≡ o4 ++ e → o6 ≡ o5 ++ f → o7 ≡ o6 ++ g → o8 ≡ o7 ++ h → o9 ≡ o8 ++ i
    → s ≡ a ++ (b ++ (c ++ (d ++ (e ++ (f ++ (g ++ (h ++ (i ++ j))))))))
    → o9 ++ j ≡ out ++ s
appended out o1 o2 o3 o4 o5 o6 o7 o8 o9 a b c d e f g h i j s e1 e2 e3 e4 e5 e6 e7 e8 e9 together =
    rw (e9, e8, e7, e6, e5, e4, e3, e2, e1, together) (regrouped out a b c d e f g h i j)

-- two ports, one after the other
pub two_ports : (ports : List serial.Port) (windows : List (List ℕ)) → length ports ≡ 2 → length windows ≡ 2
    → (p q : serial.Port) → spell_each port (zip ports windows)
    ≡ port.spell (get_or ports 0 p, slice_index_or windows 0 [])
    ++ port.spell (get_or ports 1 q, slice_index_or windows 1 [])
two_ports (x ∷ y ∷ []) (w ∷ v ∷ []) two both p q =
    ap (λ (xs : List ℕ). port.spell (x, w) ++ xs) (append-nil (port.spell (y, v)))
two_ports [] windows two both p q = absurd (omega (arith, two))
two_ports (x ∷ []) windows two both p q = absurd (omega (arith, two))
two_ports (x ∷ y ∷ z ∷ rest) windows two both p q = absurd (omega (arith, two))
two_ports (x ∷ y ∷ []) [] two both p q = absurd (omega (arith, both))
two_ports (x ∷ y ∷ []) (w ∷ []) two both p q = absurd (omega (arith, both))
two_ports (x ∷ y ∷ []) (w ∷ v ∷ u ∷ rest) two both p q = absurd (omega (arith, both))

-- ---- parts by index

get_or-pieces : (count size : ℕ) (xs : List ℕ) (k : ℕ) → k < count
    → get_or (pieces count size xs) k [] ≡ take size (drop (k * size) xs)
get_or-pieces zero size xs k low = absurd (omega arith)
get_or-pieces (suc count) size xs zero low =
    let e : 0 ≡ 0 * size = omega arith in ap (λ n. take size (drop n xs)) e
get_or-pieces (suc count) size xs (suc k) low =
    get_or-pieces count size (drop size xs) k (omega arith)
    ∙ ap (λ ys. take size ys) (drop-drop (k * size) size xs)
    ∙ ap (λ n. take size (drop n xs)) (sum size (k * size) ∙ sym (suc-mul k size))
  where
    sum : (n m : ℕ) → n + m ≡ m + n
    sum n m = omega arith

pub payload_of_page : (c : Checkpoint) (index : ℕ) → 1 ≤ index → index ≤ 256
    → slice_index_or (parts_of c) index [] ≡ take 256 (drop ((index - 1) * 256) c.memory)
unfolding parts_of later_parts page bytes
payload_of_page c zero some few = absurd (omega arith)
payload_of_page c (suc k) some few =
    let tables : List (List ℕ) = map table.spell (pieces (table_count c.first.devices.disk.attached) SECTORS c.completed) in
    let pages : List (List ℕ) = pieces PAGES PAGE_BYTES c.memory in
    let n : length pages ≡ 256 = pieces_length PAGES PAGE_BYTES c.memory in
    let m : length (map page.spell pages) ≡ length pages = length-map pages page.spell in
    let e : k ≡ suc k - 1 = omega arith in
    get_or_append_left (map page.spell pages) tables [] k (omega arith)
    ∙ get_or-map page.spell pages k [] [] (omega arith) ∙ get_or-pieces PAGES PAGE_BYTES c.memory k (omega arith)
    ∙ ap (λ i. take 256 (drop (i * 256) c.memory)) e

pub payload_of_table : (c : Checkpoint) (index : ℕ) → 257 ≤ index → index < part_count c.first.devices.disk.attached
    → slice_index_or (parts_of c) index [] ≡ spell_each number (take 32 (drop ((index - 257) * 32) c.completed))
unfolding parts_of later_parts table times
payload_of_table c zero past inside = absurd (omega arith)
payload_of_table c (suc k) past inside =
    let all : List (List ℕ) = pieces (table_count c.first.devices.disk.attached) SECTORS c.completed in
    let pages : List (List ℕ) = pieces PAGES PAGE_BYTES c.memory in
    let n : length pages ≡ 256 = pieces_length PAGES PAGE_BYTES c.memory in
    let m : length (map page.spell pages) ≡ 256 = length-map pages page.spell ∙ n in
    let t : length all ≡ table_count c.first.devices.disk.attached =
    pieces_length (table_count c.first.devices.disk.attached) SECTORS c.completed in
    let e : k - 256 ≡ suc k - 257 = omega arith in
    get_or-append_right (map page.spell pages) (map table.spell all) 256 k [] m (omega arith)
    ∙ get_or-map table.spell all (k - 256) [] [] (omega arith)
    ∙ ap (spell_each number) (get_or-pieces (table_count c.first.devices.disk.attached) SECTORS c.completed (k - 256) (omega arith))
    ∙ ap (λ i. spell_each number (take 32 (drop (i * 32) c.completed))) e
