-- How many bytes a value that is read takes: no fewer and no more than these.
use Rattle.std.proofs.Common.{◌≡◌, ℕ, zero, suc, ◌+◌, ◌*◌, ◌^◌, ◌<◌, ◌≤◌, Bool, true, false, cond, ltb, eqb, List, [], ◌∷◌, length, take, drop, Option, Some, None, refl, ap, subst, length-drop, arith}
use Rattle.std.specs.Int.{w64, from_be_bytes}
use Rattle.std.proofs.lemmas.Bool.{eqb-true, leb-true}
use Rattle.std.proofs.lemmas.Bool.Decides.{nat_tests}
use Rattle.std.proofs.lemmas.Option.{none-some, same_Some}
use Rattle.clone_state.proofs.Words.{Codec, FirstPart, PortImage, SectorWrite, admitted, are_few, both, by, byte_at, bytes, controller, counted, current, devices, drives, fields, first, first_in, first_read, flags, interrupts, is_possible, limited, maybe, number, number_from, of_drives, one, only, port, port_01, processor, read_all, read_each, receiver, registers, table, times, truth, two_numbers, versioned, word, write, writes}
use Rattle.log_entry.specs.Numbers.{◌>>=◌}
use Rattle.clone_state.proofs.Collecting.{read_count}

record Takes {A : Type 0} (c : Codec A) (low high : ℕ) : Type 0 where
  least : (bytes : List ℕ) (r : A × List ℕ) → c.read bytes ≡ Some r → low + length r.1 ≤ length bytes
  most : (bytes : List ℕ) (r : A × List ℕ) → c.read bytes ≡ Some r → length bytes ≤ high + length r.1

both_takes : {A B : Type 0} (c : Codec A) (d : Codec B) (i j k l : ℕ) → Takes c i j → Takes d k l
    → Takes (both c d) (i + k) (j + l)
unfolding both
both_takes {A} {B} c d i j k l h g = record {
  least = λ bytes r e.
      let x = first_read (c.read bytes) (λ r. d.read r.1 >>= λ q. Some ((r.0, q.0), q.1)) r e in
      let y = first_read (d.read x.0.1) (λ q. Some ((x.0.0, q.0), q.1)) r x.2 in
      let rest : length y.0.1 ≡ length r.1 = ap (λ (q : (A × B) × List ℕ). length q.1) (same_Some ((x.0.0, y.0.0), y.0.1) r y.2) in
      let a = h.least bytes x.0 x.1 in
      let b = g.least x.0.1 y.0 y.1 in
      omega arith;
  most = λ bytes r e.
      let x = first_read (c.read bytes) (λ r. d.read r.1 >>= λ q. Some ((r.0, q.0), q.1)) r e in
      let y = first_read (d.read x.0.1) (λ q. Some ((x.0.0, q.0), q.1)) r x.2 in
      let rest : length y.0.1 ≡ length r.1 = ap (λ (q : (A × B) × List ℕ). length q.1) (same_Some ((x.0.0, y.0.0), y.0.1) r y.2) in
      let a = h.most bytes x.0 x.1 in
      let b = g.most x.0.1 y.0 y.1 in
      omega arith;
}

by_takes : {A B : Type 0} (c : Codec A) (to : B → A) (from : A → B) (i j : ℕ) → Takes c i j → Takes (by c to from) i j
unfolding by
by_takes {A} {B} c to from i j h = record {
  least = λ bytes r e.
      let x = first_read (c.read bytes) (λ r. Some (from r.0, r.1)) r e in
      let rest : length x.0.1 ≡ length r.1 = ap (λ (q : B × List ℕ). length q.1) (same_Some (from x.0.0, x.0.1) r x.2) in
      let a = h.least bytes x.0 x.1 in omega arith;
  most = λ bytes r e.
      let x = first_read (c.read bytes) (λ r. Some (from r.0, r.1)) r e in
      let rest : length x.0.1 ≡ length r.1 = ap (λ (q : B × List ℕ). length q.1) (same_Some (from x.0.0, x.0.1) r x.2) in
      let a = h.most bytes x.0 x.1 in omega arith;
}

only_takes : {A : Type 0} (c : Codec A) (test : A → Bool) (i j : ℕ) → Takes c i j → Takes (only c test) i j
unfolding only
only_takes {A} c test i j h = record {
  least = λ bytes r e.
      let x = first_read (c.read bytes) (λ x. cond (test x.0) (Some x) None) r e in
      let rest : length x.0.1 ≡ length r.1 = ap (λ (q : A × List ℕ). length q.1) (admitted (test x.0.0) x.0 r x.2).1 in
      let a = h.least bytes x.0 x.1 in omega arith;
  most = λ bytes r e.
      let x = first_read (c.read bytes) (λ x. cond (test x.0) (Some x) None) r e in
      let rest : length x.0.1 ≡ length r.1 = ap (λ (q : A × List ℕ). length q.1) (admitted (test x.0.0) x.0 r x.2).1 in
      let a = h.most bytes x.0 x.1 in omega arith;
}

-- a byte
byte_rest : (bytes : List ℕ) (r : ℕ × List ℕ) → one.read bytes ≡ Some r → length bytes ≡ 1 + length r.1
unfolding one
byte_rest [] r e = absurd (none-some r e)
byte_rest (x ∷ xs) r e =
    let rest : length xs ≡ length r.1 = ap (λ q. length q.1) (same_Some (x, xs) r e) in omega arith

one_takes : Takes one 1 1
one_takes = record {
  least = λ bytes r e. let h = byte_rest bytes r e in omega arith;
  most = λ bytes r e. let h = byte_rest bytes r e in omega arith;
}

-- so many bytes
block_rest : (n : ℕ) (xs : List ℕ) (r : List ℕ × List ℕ) → (b : Bool) → ltb (length xs) n ≡ b
    → cond b None (Some (take n xs, drop n xs)) ≡ Some r → length xs ≡ n + length r.1
block_rest n xs r true less e = absurd (none-some r e)
block_rest n xs r false less e =
    let rest : length (drop n xs) ≡ length r.1 = ap (λ q. length q.1) (same_Some (take n xs, drop n xs) r e) in
    let left = length-drop n xs in
    let enough : n ≤ length xs = grind (arith, nat_tests, less) in
    omega arith

bytes_takes : (n : ℕ) → Takes (bytes n) n n
unfolding bytes
bytes_takes n = record {
  least = λ xs r e. let h = block_rest n xs r (ltb (length xs) n) refl e in omega arith;
  most = λ xs r e. let h = block_rest n xs r (ltb (length xs) n) refl e in omega arith;
}

-- a number
number_rest : (xs : List ℕ) (r : ℕ × List ℕ) → (b : Bool) → ltb (length xs) 8 ≡ b
    → cond b None (limited (from_be_bytes w64 (take 8 xs)) (drop 8 xs)) ≡ Some r → length xs ≡ 8 + length r.1
number_rest xs r true less e = absurd (none-some r e)
number_rest xs r false less e =
    let rest : length (drop 8 xs) ≡ length r.1 =
    ap (λ (q : ℕ × List ℕ). length q.1) (admitted (ltb (from_be_bytes w64 (take 8 xs)) (2 ^ 62)) (from_be_bytes w64 (take 8 xs), drop 8 xs) r e).1 in
    let left = length-drop 8 xs in
    let enough : 8 ≤ length xs = grind (arith, nat_tests, less) in
    omega arith

number_takes : Takes number 8 8
unfolding number number_from
number_takes = record {
  least = λ xs r e. let h = number_rest xs r (ltb (length xs) 8) refl e in omega arith;
  most = λ xs r e. let h = number_rest xs r (ltb (length xs) 8) refl e in omega arith;
}

-- so many values that take as many bytes each
each_rest : {A : Type 0} (c : Codec A) (k : ℕ) → Takes c k k → (n : ℕ) (xs : List ℕ) (r : List A × List ℕ)
    → read_each c n xs ≡ Some r → length xs ≡ k * n + length r.1
each_rest {A} c k h zero xs r e =
    let rest : length xs ≡ length r.1 = ap (λ (q : List A × List ℕ). length q.1) (same_Some ([], xs) r e) in
    let none : k * 0 ≡ 0 = grind arith in omega arith
each_rest {A} c k h (suc n) xs r e =
    let x = first_read (c.read xs) (λ r. read_each c n r.1 >>= λ q. Some (r.0 ∷ q.0, q.1)) r e in
    let y = first_read (read_each c n x.0.1) (λ q. Some (x.0.0 ∷ q.0, q.1)) r x.2 in
    let rest : length y.0.1 ≡ length r.1 =
    ap (λ (q : List A × List ℕ). length q.1) (same_Some (x.0.0 ∷ y.0.0, y.0.1) r y.2) in
    let a = h.least xs x.0 x.1 in
    let b = h.most xs x.0 x.1 in
    let more = each_rest c k h n x.0.1 y.0 y.1 in
    let next : k * suc n ≡ k + k * n = grind arith in
    omega arith

times_takes : {A : Type 0} (n : ℕ) (c : Codec A) (k : ℕ) → Takes c k k → Takes (times n c) (k * n) (k * n)
unfolding times
times_takes n c k h = record {
  least = λ xs r e. let a = each_rest c k h n xs r e in omega arith;
  most = λ xs r e. let a = each_rest c k h n xs r e in omega arith;
}

-- ---- the groups

exactly : {A B : Type 0} (c : Codec A) (d : Codec B) (n m : ℕ) → Takes c n n → Takes d m m
    → Takes (both c d) (n + m) (n + m)
exactly c d n m h g = both_takes c d n n m m h g

truth_takes : Takes truth 1 1
unfolding truth
truth_takes = by_takes _ _ _ 1 1 (only_takes one _ 1 1 one_takes)

word_takes : Takes word 2 2
unfolding word
word_takes = by_takes _ _ _ 2 2 (exactly one one 1 1 one_takes one_takes)

maybe_takes : Takes maybe 1 1
unfolding maybe
maybe_takes = by_takes _ _ _ 1 1 one_takes

flags_takes : Takes flags 1 1
unfolding flags
flags_takes = by_takes _ _ _ 1 1 (only_takes one _ 1 1 one_takes)

interrupts_takes : Takes interrupts 1 1
unfolding interrupts
interrupts_takes = by_takes _ _ _ 1 1 (only_takes one _ 1 1 one_takes)

receiver_takes : Takes receiver 1 1
unfolding receiver
receiver_takes = by_takes _ _ _ 1 1 (only_takes one _ 1 1 one_takes)

registers_takes : Takes registers 8 8
unfolding registers
registers_takes =
    exactly one _ 1 7 one_takes (exactly flags _ 1 6 flags_takes (exactly one _ 1 5 one_takes
    (exactly one _ 1 4 one_takes (exactly one _ 1 3 one_takes (exactly one _ 1 2 one_takes
    (exactly one one 1 1 one_takes one_takes))))))

processor_takes : Takes processor 14 14
unfolding processor
processor_takes =
    by_takes _ _ _ 14 14 (exactly registers _ 8 6 registers_takes (exactly word _ 2 4 word_takes
    (exactly word _ 2 2 word_takes (exactly interrupts truth 1 1 interrupts_takes truth_takes))))

port_takes : Takes port 20 20
unfolding port
port_takes =
    only_takes _ _ 20 20 (by_takes _ _ _ 20 20 (exactly one _ 1 19 one_takes (exactly one _ 1 18 one_takes
    (exactly receiver _ 1 17 receiver_takes (exactly one (bytes 16) 1 16 one_takes (bytes_takes 16))))))

port_01_takes : Takes port_01 5 5
unfolding port_01
port_01_takes =
    by_takes _ _ _ 5 5 (only_takes _ _ 5 5 (exactly one _ 1 4 one_takes (exactly one _ 1 3 one_takes
    (exactly receiver _ 1 2 receiver_takes (exactly truth one 1 1 truth_takes one_takes)))))

drives_takes : Takes drives 8 8
unfolding drives
drives_takes =
    by_takes _ _ _ 8 8 (exactly (times 4 one) (times 4 truth) 4 4 (times_takes 4 one 1 one_takes) (times_takes 4 truth 1 truth_takes))

current_takes : Takes current 142 142
unfolding current
current_takes =
    by_takes _ _ _ 142 142 (only_takes _ _ 142 142 (exactly truth _ 1 141 truth_takes (exactly one _ 1 140 one_takes
    (exactly truth _ 1 139 truth_takes (exactly one _ 1 138 one_takes
    (exactly maybe (bytes 137) 1 137 maybe_takes (bytes_takes 137)))))))

write_takes : Takes write 148 148
unfolding write
write_takes =
    by_takes _ _ _ 148 148 (exactly number _ 8 140 number_takes (exactly one _ 1 139 one_takes
    (exactly one _ 1 138 one_takes (exactly one (bytes 137) 1 137 one_takes (bytes_takes 137)))))

-- a byte, and at most eight writes
writes_rest : (xs : List ℕ) (r : List SectorWrite × List ℕ) → writes.read xs ≡ Some r
    → (1 + length r.1 ≤ length xs) × (length xs ≤ 1185 + length r.1)
unfolding writes only counted
writes_rest xs r e =
    let x = first_read (byte_at xs >>= λ b. read_each write b.0 b.1) (λ x. cond (are_few x.0) (Some x) None) r e in
    let a = admitted (are_few x.0.0) x.0 r x.2 in
    let b = first_read (byte_at xs) (λ b. read_each write b.0 b.1) x.0 x.1 in
    let all : length x.0.0 ≡ b.0.0 = read_count write b.0.0 b.0.1 x.0 b.2 in
    let few : length x.0.0 ≤ 8 = leb-true (length x.0.0) 8 a.0 in
    let rest : length x.0.1 ≡ length r.1 = ap (λ (q : List SectorWrite × List ℕ). length q.1) a.1 in
    let front = byte_front xs b.0 b.1 in
    let each = each_rest write 148 write_takes b.0.0 b.0.1 x.0 b.2 in
    (omega arith, omega arith)
  where
    byte_front : (xs : List ℕ) (r : ℕ × List ℕ) → byte_at xs ≡ Some r → length xs ≡ 1 + length r.1
    byte_front [] r e = absurd (none-some r e)
    byte_front (x ∷ xs) r e =
        let rest : length xs ≡ length r.1 = ap (λ q. length q.1) (same_Some (x, xs) r e) in omega arith

writes_takes : Takes writes 1 1185
writes_takes = record { least = λ xs r e. (writes_rest xs r e).0; most = λ xs r e. (writes_rest xs r e).1 }

controller_takes : Takes controller 161 1345
unfolding controller
controller_takes =
    both_takes number _ 8 8 153 1337 number_takes (both_takes maybe _ 1 1 152 1336 maybe_takes
    (both_takes truth _ 1 1 151 1335 truth_takes (both_takes drives _ 8 8 143 1327 drives_takes
    (both_takes current writes 142 142 1 1185 current_takes writes_takes))))

two_takes : Takes two_numbers 16 16
unfolding two_numbers
two_takes = times_takes 2 number 8 number_takes

devices_takes : (c : Codec PortImage) (k : ℕ) → Takes c k k
    → Takes (devices c) (16 + (16 + (k * 2 + 161))) (16 + (16 + (k * 2 + 1345)))
unfolding devices
devices_takes c k h =
    both_takes two_numbers _ 16 16 (16 + (k * 2 + 161)) (16 + (k * 2 + 1345)) two_takes
    (both_takes two_numbers _ 16 16 (k * 2 + 161) (k * 2 + 1345) two_takes
    (both_takes (times 2 c) controller (k * 2) (k * 2) 161 1345 (times_takes 2 c k h) controller_takes))

fields_take : (c : Codec PortImage) (k low high : ℕ) → Takes c k k → k * 2 + 220 ≡ low → k * 2 + 1404 ≡ high
    → Takes (fields c) low high
unfolding fields
fields_take c k low high h e g =
    let l = 16 + (16 + (k * 2 + 161)) in
    let m = 16 + (16 + (k * 2 + 1345)) in
    let a : 1 + (3 + (1 + (8 + (14 + l)))) ≡ low = omega arith in
    let b : 1 + (3 + (1 + (8 + (14 + m)))) ≡ high = omega arith in
    subst (λ i. Takes (fields c) i high) a (subst (λ j. Takes (fields c) (1 + (3 + (1 + (8 + (14 + l))))) j) b
    (both_takes one _ 1 1 (3 + (1 + (8 + (14 + l)))) (3 + (1 + (8 + (14 + m)))) one_takes
    (both_takes (bytes 3) _ 3 3 (1 + (8 + (14 + l))) (1 + (8 + (14 + m))) (bytes_takes 3)
    (both_takes one _ 1 1 (8 + (14 + l)) (8 + (14 + m)) one_takes
    (both_takes number _ 8 8 (14 + l) (14 + m) number_takes
    (both_takes processor (devices c) 14 14 l m processor_takes (devices_takes c k h)))))))

versioned_takes : (c : Codec PortImage) (low high : ℕ) → Takes (fields c) low high → Takes (versioned c) low high
unfolding versioned
versioned_takes c low high h = only_takes _ is_possible low high (by_takes _ _ _ low high h)

-- ---- the first part, in either version

version_rest : (version : ℕ) (a b : Bool) (xs : List ℕ) (r : FirstPart × List ℕ)
    → cond a ((versioned port).read xs) (cond b ((versioned port_01).read xs) None) ≡ Some r
    → (1 ≤ length xs) × (length xs ≤ 1444 + length r.1)
version_rest version true b xs r e =
    let t = versioned_takes port 260 1444 (fields_take port 20 260 1444 port_takes refl refl) in
    let low = t.least xs r e in
    (omega arith, t.most xs r e)
version_rest version false true xs r e =
    let t = versioned_takes port_01 230 1414 (fields_take port_01 5 230 1414 port_01_takes refl refl) in
    let low = t.least xs r e in
    let high = t.most xs r e in
    (omega arith, omega arith)
version_rest version false false xs r e = absurd (none-some r e)

first_rest : (xs : List ℕ) (r : FirstPart × List ℕ) → first.read xs ≡ Some r
    → (1 ≤ length xs) × (length xs ≤ 1445 + length r.1)
unfolding first
first_rest [] r e = absurd (none-some r e)
first_rest (version ∷ xs) r e =
    let h = version_rest version (eqb version 2) (eqb version 1) xs r e in
    let low = h.0 in
    let high = h.1 in
    (omega arith, omega arith)

pub first_size : (drives : ℕ) (payload : List ℕ) (f : FirstPart) → first_in drives payload ≡ Some f
    → (1 ≤ length payload) × (length payload ≤ 1445)
unfolding first_in
first_size drives payload f e =
    let x = first_read (read_all first payload) (of_drives drives) f e in
    let r = first_read (first.read payload) (λ r. cond (eqb (length r.1) 0) (Some r.0) None) x.0 x.1 in
    let a = admitted (eqb (length r.0.1) 0) r.0.0 x.0 r.2 in
    let nothing : length r.0.1 ≡ 0 = eqb-true _ _ a.0 in
    let h = first_rest payload r.0 r.1 in
    let low = h.0 in
    let high = h.1 in
    (omega arith, omega arith)

-- a table has as many bytes as a page
pub table_size : (payload xs : List ℕ) → read_all table payload ≡ Some xs → length payload ≡ 256
unfolding table
table_size payload xs e =
    let r = first_read (table.read payload) (λ r. cond (eqb (length r.1) 0) (Some r.0) None) xs e in
    let a = admitted (eqb (length r.0.1) 0) r.0.0 xs r.2 in
    let nothing : length r.0.1 ≡ 0 = eqb-true _ _ a.0 in
    let t = times_takes 32 number 8 number_takes in
    let low = t.least payload r.0 r.1 in
    let high = t.most payload r.0 r.1 in
    omega arith

-- ---- too few bytes

-- bytes that are fewer than a value takes begin with none
too_few : {A : Type 0} (c : Codec A) (low high : ℕ) → Takes c low high → (bytes : List ℕ) → length bytes < low
    → c.read bytes ≡ None
too_few {A} c low high h bytes few = go (c.read bytes) refl
  where
    go : (o : Option (A × List ℕ)) → c.read bytes ≡ o → c.read bytes ≡ None
    go None e = e
    go (Some r) e = let least = h.least bytes r e in absurd (omega arith)

pub no_registers : (bytes : List ℕ) → length bytes < 8 → registers.read bytes ≡ None
no_registers = too_few registers 8 8 registers_takes

pub no_port : (bytes : List ℕ) → length bytes < 20 → port.read bytes ≡ None
no_port = too_few port 20 20 port_takes

pub no_port_01 : (bytes : List ℕ) → length bytes < 5 → port_01.read bytes ≡ None
no_port_01 = too_few port_01 5 5 port_01_takes

pub no_drives : (bytes : List ℕ) → length bytes < 8 → drives.read bytes ≡ None
no_drives = too_few drives 8 8 drives_takes

pub no_current : (bytes : List ℕ) → length bytes < 142 → current.read bytes ≡ None
no_current = too_few current 142 142 current_takes
