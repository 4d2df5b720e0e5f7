-- A part's message is read again; so is each of the parts that make a guest, in a message of any generation.
use Rattle.std.proofs.Common.{◌≡◌, ℕ, zero, suc, ◌+◌, ◌*◌, ◌/◌, ◌%◌, ◌<◌, ◌^◌, Bool, true, false, cond, eqb, ltb, List, [], ◌∷◌, ◌++◌, length, take, drop, Option, Some, None, is_some, ◌⊎◌, inl, inr, refl, sym, ap, ◌∙◌, arith}
use Rattle.std.specs.Prelude.{slice_get}
use Rattle.std.specs.Int.{w32, from_be_bytes}
use Rattle.std.proofs.lemmas.Bool.{ne_eqb, eqb-true, lt-ltb, le-ltb}
use Rattle.std.proofs.Math.Dec.{eqb-suc-zero}
use Rattle.std.proofs.lemmas.Nat.{from_be_bytes-to_be_bytes_4}
use Rattle.std.proofs.lemmas.Option.{none-some, same_Some, slice_get_within}
use Rattle.byteorder.specs.Endian.{big_bytes}
use Rattle.log_entry.specs.Numbers.{◌>>=◌}
use Rattle.log_entry.proofs.GenerationLaws.{generation_again}
use Rattle.clone_state.proofs.Words.{Checkpoint, Codec, IsMessage, PartMessage, PartsAreReadAgain, both, by, checked, checkpoint_in, first_in, first_read, fitting, guest_in, guest_of, is_page, is_payload, message_at, message_bytes, one, page, part_count, read_all, read_joined, read_parts, table, table_count, word}

-- ---- a message is read again

abbrev pub Read : Type 0
Read = ℕ × List ℕ

-- what follows the generation, and what follows the index
abbrev pub after_generation : ℕ → Read → Option PartMessage
after_generation drives generation = word.read generation.1 >>= λ index.
    checked drives (record { generation = generation.0; index = index.0; payload = index.1 })

abbrev pub after_index : ℕ → ℕ → Read → Option PartMessage
after_index drives generation index =
    checked drives (record { generation = generation; index = index.0; payload = index.1 })

word_again : (n : ℕ) (rest : List ℕ) → word.read (word.spell n ++ rest) ≡ Some (n, rest)
unfolding word both by one
word_again n rest =
    let whole : n / 256 * 256 + n % 256 ≡ n = omega arith in ap (λ m. Some (m, rest)) whole

pub message_again : (drives : ℕ) (m : PartMessage) → IsMessage drives m → message_at drives (message_bytes m) ≡ Some m
unfolding message_at
message_again drives m h =
    ap (λ (o : Option Read). o >>= after_generation drives)
    (generation_again m.generation (word.spell m.index ++ m.payload) h.some h.few)
    ∙ ap (λ (o : Option Read). o >>= after_index drives m.generation) (word_again m.index m.payload)
    ∙ ap (λ b. cond b (Some m) None) h.payload

-- ---- each of the parts that make a guest is the payload of its index

-- what is some of something
was_some : {A : Type 0} (o : Option A) → is_some o ≡ true → (x : A) × (o ≡ Some x)
was_some (Some x) e = (x, refl)
was_some None e = absurd cc

is_there : {A : Type 0} (o : Option A) (x : A) → o ≡ Some x → is_some o ≡ true
is_there o x e = ap is_some e

-- each of parts that are read together is read by itself
each_read : (c : Codec (List ℕ)) (parts : List (List ℕ)) (all : List ℕ) (i : ℕ) (payload : List ℕ)
    → read_joined c parts ≡ Some all → slice_get parts i ≡ Some payload → is_some (read_all c payload) ≡ true
each_read c [] all i payload e there = absurd (none-some payload there)
each_read c (part ∷ parts) all zero payload e there =
    let xs = first_read (read_all c part) (λ xs. read_joined c parts >>= λ rest. Some (xs ++ rest)) all e in
    ap (λ p. is_some (read_all c p)) (sym (same_Some part payload there)) ∙ ap is_some xs.1
each_read c (part ∷ parts) all (suc i) payload e there =
    let xs = first_read (read_all c part) (λ xs. read_joined c parts >>= λ rest. Some (xs ++ rest)) all e in
    let ys = first_read (read_joined c parts) (λ rest. Some (xs.0 ++ rest)) all xs.2 in
    each_read c parts ys.0 i payload ys.1 there

-- an element is among the first or among the others
get_split : {A : Type 0} (n : ℕ) (xs : List A) (i : ℕ) (x : A) → slice_get xs i ≡ Some x
    → ((i < n) × (slice_get (take n xs) i ≡ Some x)) ⊎ ((k : ℕ) × (i ≡ n + k) × (slice_get (drop n xs) k ≡ Some x))
get_split zero xs i x e = inr (i, omega arith, e)
get_split (suc n) [] i x e = absurd (none-some x e)
get_split (suc n) (y ∷ ys) zero x e = inl (omega arith, e)
get_split (suc n) (y ∷ ys) (suc i) x e = go (get_split n ys i x e)
  where
    go : ((i < n) × (slice_get (take n ys) i ≡ Some x)) ⊎ ((k : ℕ) × (i ≡ n + k) × (slice_get (drop n ys) k ≡ Some x))
        → ((suc i < suc n) × (slice_get (take n ys) i ≡ Some x))
        ⊎ ((k : ℕ) × (suc i ≡ suc n + k) × (slice_get (drop n ys) k ≡ Some x))
    go (inl h) = let low = h.0 in inl (omega (arith, low), h.1)
    go (inr h) = let past = h.1 in inr (h.0, omega (arith, past), h.2)

-- what the parts of an image say
record Says (drives : ℕ) (front : List ℕ) (rest : List (List ℕ)) : Type 0 where
  first : is_some (first_in drives front) ≡ true
  memory : List ℕ
  pages : read_joined page (take 256 rest) ≡ Some memory
  completed : List ℕ
  tables : read_joined table (drop 256 rest) ≡ Some completed
  count : length rest ≡ 256 + table_count drives

says : (drives : ℕ) (front : List ℕ) (rest : List (List ℕ)) → is_some (guest_in drives (front ∷ rest)) ≡ true
    → Says drives front rest
unfolding guest_in checkpoint_in
says drives front rest fits =
    let g = was_some (guest_in drives (front ∷ rest)) fits in
    let c = first_read (checkpoint_in drives (front ∷ rest)) (λ (c : Checkpoint). Some (guest_of c)) g.0 g.1 in
    let t = test (eqb (length rest) (256 + table_count drives)) (read_parts drives front (take 256 rest) (drop 256 rest)) c.0 c.1 in
    let f = first_read (first_in drives front) (λ f. read_joined page (take 256 rest) >>= λ memory.
    read_joined table (drop 256 rest) >>= λ completed.
    fitting (record { first = f; memory = memory; completed = completed })) c.0 t.1 in
    let m = first_read (read_joined page (take 256 rest)) (λ memory. read_joined table (drop 256 rest) >>= λ completed.
    fitting (record { first = f.0; memory = memory; completed = completed })) c.0 f.2 in
    let n = first_read (read_joined table (drop 256 rest)) (λ completed.
    fitting (record { first = f.0; memory = m.0; completed = completed })) c.0 m.2 in
    record {
      first = is_there (first_in drives front) f.0 f.1;
      memory = m.0;
      pages = m.1;
      completed = n.0;
      tables = n.1;
      count = eqb-true _ _ t.0;
    }
  where
    test : (b : Bool) (o : Option Checkpoint) (x : Checkpoint) → cond b o None ≡ Some x → (b ≡ true) × (o ≡ Some x)
    test true o x e = (refl, e)
    test false o x e = absurd (none-some x e)

payload_fits : (drives index : ℕ) (parts : List (List ℕ)) (payload : List ℕ) → is_some (guest_in drives parts) ≡ true
    → slice_get parts index ≡ Some payload → is_payload drives index payload ≡ true
unfolding is_payload
payload_fits drives index [] payload fits there = absurd (none-some payload there)
payload_fits drives zero (front ∷ rest) payload fits there =
    ap (λ p. is_some (first_in drives p)) (sym (same_Some front payload there)) ∙ (says drives front rest fits).first
payload_fits drives (suc i) (front ∷ rest) payload fits there = go (get_split 256 rest i payload there)
  where
    s : Says drives front rest
    s = says drives front rest fits

    not_first : is_payload drives (suc i) payload
        ≡ cond (ltb (suc i) 257) (is_page payload)
        (cond (ltb (suc i) (part_count drives)) (is_some (read_all table payload)) false)
    not_first =
        ap (λ b. cond b (is_some (first_in drives payload)) (cond (ltb (suc i) 257) (is_page payload)
        (cond (ltb (suc i) (part_count drives)) (is_some (read_all table payload)) false))) (eqb-suc-zero i)

    go : ((i < 256) × (slice_get (take 256 rest) i ≡ Some payload))
        ⊎ ((k : ℕ) × (i ≡ 256 + k) × (slice_get (drop 256 rest) k ≡ Some payload))
        → is_payload drives (suc i) payload ≡ true
    go (inl h) =
        let low = h.0 in
        not_first
        ∙ ap (λ b. cond b (is_page payload)
        (cond (ltb (suc i) (part_count drives)) (is_some (read_all table payload)) false)) (lt-ltb (suc i) 257 (omega (arith, low)))
        ∙ each_read page (take 256 rest) s.memory i payload s.pages h.1
    go (inr h) =
        let past = h.1 in
        let inside = slice_get_within rest i payload there in
        let count = s.count in
        not_first
        ∙ ap (λ b. cond b (is_page payload)
        (cond (ltb (suc i) (part_count drives)) (is_some (read_all table payload)) false)) (le-ltb (suc i) 257 (omega (arith, past)))
        ∙ ap (λ b. cond b (is_some (read_all table payload)) false)
        (lt-ltb (suc i) (part_count drives) (omega (arith, inside, count)))
        ∙ each_read table (drop 256 rest) s.completed h.0 payload s.tables h.2

pub parts_read : PartsAreReadAgain
parts_read drives generation index parts payload fits some few there =
    message_again drives (record { generation = generation; index = index; payload = payload })
    (record { some = some; few = few; payload = payload_fits drives index parts payload fits there })
