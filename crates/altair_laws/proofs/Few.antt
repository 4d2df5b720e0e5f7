-- How few operations of an Altair are outstanding. For each port they are the last bytes that were sent, sixteen at
-- most, and the writes are those that the controller waits for, eight at most; so a list of their names has at most
-- forty elements.
use Rattle.std.proofs.Common.{◌≡◌, ℕ, zero, suc, ◌+◌, ◌-◌, ◌≤◌, ◌<◌, List, [], ◌∷◌, ◌++◌, length, map, Some, ⊎_elim, inl, inr, refl, sym, ap, subst, arith, length-append}
use Rattle.std.specs.Prelude.{Contains, slice_index}
use Rattle.std.proofs.lemmas.Bool.{cases_lt}
use Rattle.std.proofs.lemmas.List.{get_or_past, length-map}
use Rattle.std.proofs.lemmas.List.Elements.{Contains-append_left, Contains-append_right}
use Rattle.altair_laws.proofs.Words.{Among, AreBytes, Byte, Guest, IsLast, Move, OpId, Operation, Place, SectorAddress, Setup, Write, altair, id_of, operation_at, place_of, port_of}
use Rattle.serial_2sio.specs.Port as serial
use Rattle.event_callbacks.specs.declared.operations.OpId.TheVariants as id
use Rattle.guest_lockstep.specs.Outstanding.{AreFew}
use Rattle.altair_laws.proofs.Bytes.{Bytes}
use Rattle.altair_laws.proofs.Writes.{Writes}

-- ---- bytes

-- the last names that a port gave, this many
abbrev last_names : ℕ → ℕ → ℕ → List OpId
last_names port issued zero = []
last_names port issued (suc n) = id.Byte port (issued - n) ∷ last_names port issued n

length-last_names : (port issued n : ℕ) → length (last_names port issued n) ≡ n
length-last_names port issued zero = refl
length-last_names port issued (suc n) = let rest = length-last_names port issued n in omega arith

here : {X : Type 0} (y : X) (ys : List X) (x : X) → y ≡ x → Contains (y ∷ ys) x
here y ys x e = (0, omega arith, e)

later : {X : Type 0} (y : X) (ys : List X) (x : X) → Contains ys x → Contains (y ∷ ys) x
later y ys x h = let l = h.1 in (suc h.0, omega arith, h.2)

is_last_name : (port issued n number : ℕ) → issued < number + n → number ≤ issued
    → Contains (last_names port issued n) (id.Byte port number)
is_last_name port issued zero number first last = absurd (omega arith)
is_last_name port issued (suc n) number first last =
    ⊎_elim
    (λ l. later (id.Byte port (issued - n)) (last_names port issued n) (id.Byte port number)
    (is_last_name port issued n number l last))
    (λ l. let e : issued - n ≡ number = omega arith in
    here (id.Byte port (issued - n)) (last_names port issued n) (id.Byte port number) (ap (id.Byte port) e))
    (cases_lt issued (number + n))

-- the bytes of a port that are not accepted
abbrev port_names : Guest → ℕ → List OpId
port_names g port = last_names port (slice_index g.issued port) (port_of g.devices port).unaccepted

is_port_name : (g : Guest) (port number : ℕ) → IsLast g port number → Contains (port_names g port) (id.Byte port number)
is_port_name g port number l =
    is_last_name port (slice_index g.issued port) (port_of g.devices port).unaccepted number l.first l.last

-- no byte is outstanding at a port that is not there
no_such_port : (moves : List Move) (g : Guest) (port number : ℕ) → Bytes moves g → 2 ≤ port → IsLast g port number → ⊥
no_such_port moves g port number b past l =
    let f = l.first in
    let t = l.last in
    let i = get_or_past g.issued port 0 (let c = b.counts in omega arith) in
    let u = ap (λ (p : serial.Port). p.unaccepted)
    (get_or_past g.devices.ports port serial.at_boot (let c = b.two in omega arith)) in
    omega arith

-- ---- writes

abbrev write_names : List Place → List OpId
write_names places = map (λ (p : Place). id.Write p.number) places

is_write_name : (place : Place) (places : List Place) → Among place places
    → Contains (write_names places) (id.Write place.number)
is_write_name place [] h = absurd h
is_write_name place (x ∷ places) (inl e) =
    here (id.Write x.number) (write_names places) (id.Write place.number)
    (ap (λ (p : Place). id.Write p.number) (sym e))
is_write_name place (x ∷ places) (inr h) =
    later (id.Write x.number) (write_names places) (id.Write place.number) (is_write_name place places h)

-- ---- all of them

abbrev names_of : Guest → List OpId
names_of g = port_names g 0 ++ (port_names g 1 ++ write_names g.devices.disk.outstanding)

names-few : (start : SectorAddress → List ℕ) (moves : List Move) (g : Guest) → Bytes moves g → Writes start moves g
    → length (names_of g) ≤ 40
names-few start moves g b w =
    let all = length-append (port_names g 0) (port_names g 1 ++ write_names g.devices.disk.outstanding) in
    let rest = length-append (port_names g 1) (write_names g.devices.disk.outstanding) in
    let first = length-last_names 0 (slice_index g.issued 0) (port_of g.devices 0).unaccepted in
    let second = length-last_names 1 (slice_index g.issued 1) (port_of g.devices 1).unaccepted in
    let writes = length-map g.devices.disk.outstanding (λ (p : Place). id.Write p.number) in
    let f = b.few 0 in
    let s = b.few 1 in
    let o = w.stands.outstanding.few in
    omega arith

named : (start : SectorAddress → List ℕ) (moves : List Move) (g : Guest) → Bytes moves g
    → ((port : ℕ) → AreBytes g port) → Writes start moves g → (name : OpId) (x : Operation)
    → operation_at g.operations name ≡ Some x → Contains (names_of g) name
named start moves g b ports w (id.Byte zero number) x h =
    Contains-append_left (port_names g 0) (port_names g 1 ++ write_names g.devices.disk.outstanding) _
    (is_port_name g 0 number ((ports 0).last number x h))
named start moves g b ports w (id.Byte (suc zero) number) x h =
    Contains-append_right (port_names g 0) (port_names g 1 ++ write_names g.devices.disk.outstanding) _
    (Contains-append_left (port_names g 1) (write_names g.devices.disk.outstanding) _
    (is_port_name g 1 number ((ports 1).last number x h)))
named start moves g b ports w (id.Byte (suc (suc port)) number) x h =
    absurd (no_such_port moves g (suc (suc port)) number b (omega arith) ((ports (suc (suc port))).last number x h))
named start moves g b ports w (id.Write number) x h = of_kind x h (w.are_given.named (id.Write number) x h)
  where
    of_kind : (x : Operation) → operation_at g.operations (id.Write number) ≡ Some x → id_of x ≡ id.Write number
        → Contains (names_of g) (id.Write number)
    of_kind (Byte port other byte) h e = (cc)
    of_kind (Write write) h e =
        let n : write.number ≡ number = cc in
        Contains-append_right (port_names g 0) (port_names g 1 ++ write_names g.devices.disk.outstanding) _
        (Contains-append_right (port_names g 1) (write_names g.devices.disk.outstanding) _
        (subst (λ k. Contains (write_names g.devices.disk.outstanding) (id.Write k)) n
        (is_write_name (place_of write) g.devices.disk.outstanding
        (w.placed write (subst (λ k. operation_at g.operations (id.Write k) ≡ Some (Write write)) (sym n) h)))))

pub few_is : (setup : Setup) (sectors : SectorAddress → List ℕ) (moves : List Move) (g : Guest) → Bytes moves g
    → ((port : ℕ) → AreBytes g port) → Writes sectors moves g → AreFew (altair setup sectors) g
few_is setup sectors moves g b ports w =
    record { names = names_of g; few = names-few sectors moves g b w; all = named sectors moves g b ports w }
