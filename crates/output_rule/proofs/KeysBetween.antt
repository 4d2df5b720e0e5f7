-- The keys of a part of a log. The keys of two lists of entries, one after the other, are those of both, so a part of a
-- log has the keys of its first entry and of the rest of the part.
use Rattle.std.proofs.Common.{◌≡◌, ℕ, zero, suc, ◌+◌, ◌-◌, ◌<◌, ◌≤◌, List, [], ◌∷◌, ◌++◌, length, take, drop, append_assoc, length-append, arith, refl, sym, ap, ◌∙◌, Some, true, false, ◌==◌, cond, nat_lt}
use Rattle.std.specs.Prelude.{slice_get}
use Rattle.std.proofs.lemmas.Bool.{le-ltb}
use Rattle.std.proofs.lemmas.List.{length-take}
use Rattle.guest_lockstep.specs.declared.timed.Timed.{Timed}
use Rattle.guest_lockstep.specs.Reach as reach
use Rattle.log_entry.specs.declared.entry.Entry.{Entry}
use Rattle.log_entry.specs.declared.entry.Entry.TheVariants.{Mark, Rx, Sent, Sector, Written, Read}
use Rattle.log_entry.specs.Entries.{inputs_of, timed_in, timed_of}
use Rattle.log_buffer.specs.Log.{Log, next_of, kept_at}
use Rattle.output_rule.specs.Keys.{between, keys_at, keys_in}

inputs_of-append : (front back : List Entry) → inputs_of (front ++ back) ≡ inputs_of front ++ inputs_of back
inputs_of-append [] back = refl
inputs_of-append (e ∷ es) back =
    ap (λ rest. timed_in (timed_of e) ++ rest) (inputs_of-append es back)
    ∙ sym (append_assoc (timed_in (timed_of e)) (inputs_of es) (inputs_of back))

keys-append : (port : ℕ) (front back : List Timed)
    → reach.keys port (front ++ back) ≡ reach.keys port front ++ reach.keys port back
keys-append port [] back = refl
keys-append port (t ∷ ts) back =
    ap (λ rest. reach.key_at port t.input ++ rest) (keys-append port ts back)
    ∙ sym (append_assoc (reach.key_at port t.input) (reach.keys port ts) (reach.keys port back))

pub keys_in-append : (port : ℕ) (front back : List Entry)
    → keys_in port (front ++ back) ≡ keys_in port front + keys_in port back
keys_in-append port front back =
    ap (λ inputs. length (reach.keys port inputs)) (inputs_of-append front back)
    ∙ ap length (keys-append port (inputs_of front) (inputs_of back))
    ∙ length-append (reach.keys port (inputs_of front)) (reach.keys port (inputs_of back))

-- the keys of a part of a list, by its first entry
keys_in-part : (port : ℕ) (entries : List Entry) (i n : ℕ) → i < length entries
    → keys_in port (take (suc n) (drop i entries))
    ≡ keys_at port (slice_get entries i) + keys_in port (take n (drop (suc i) entries))
keys_in-part port [] i n within = omega arith
keys_in-part port (e ∷ es) zero n within = keys_in-append port (e ∷ []) (take n es)
keys_in-part port (e ∷ es) (suc i) n within = keys_in-part port es i n (omega arith)

pub keys_in_between : (l : Log) (port from to : ℕ) → l.first ≤ from → from < to → to ≤ next_of l
    → keys_in port (between l from to) ≡ keys_at port (kept_at l from) + keys_in port (between l (from + 1) to)
keys_in_between l port from to first order next =
    let here : nat_lt from l.first ≡ false = le-ltb from l.first first in
    let more : to - from ≡ suc (to - (from + 1)) = omega arith in
    let later : from + 1 - l.first ≡ suc (from - l.first) = omega arith in
    let within : from - l.first < length l.entries = omega arith in
    rw (more, later, here) (keys_in-part port l.entries (from - l.first) (to - (from + 1)) within)

-- an entry is one key or none, so entries have no more keys than there are of them
keys_at-few : (port : ℕ) (entry : Entry) → keys_at port (Some entry) ≤ 1
keys_at-few port (Mark count) = omega arith
keys_at-few port (Rx count at byte) = elim (port == at) as (λ b. length (cond b (byte ∷ []) [] ++ []) ≤ 1) [
  | true ↦ omega arith
  | false ↦ omega arith
]
keys_at-few port (Sent count at) = omega arith
keys_at-few port (Sector count drive sector number bytes) = omega arith
keys_at-few port (Written count number) = omega arith
keys_at-few port (Read count drive sector number) = omega arith

pub keys_in-few : (port : ℕ) (entries : List Entry) → keys_in port entries ≤ length entries
keys_in-few port [] = omega arith
keys_in-few port (e ∷ es) =
    let split : keys_in port (e ∷ es) ≡ keys_in port (e ∷ []) + keys_in port es = keys_in-append port (e ∷ []) es in
    let one : keys_in port (e ∷ []) ≤ 1 = keys_at-few port e in
    let rest : keys_in port es ≤ length es = keys_in-few port es in
    rw split (omega arith)

pub keys_in_between-few : (l : Log) (port from to : ℕ) → keys_in port (between l from to) ≤ to - from
keys_in_between-few l port from to =
    let few = keys_in-few port (between l from to) in
    let taken = length-take (to - from) (drop (from - l.first) l.entries) in
    omega arith
