-- What follows a tag: what is written is read again, and what is read is written just so and is in range.
use Rattle.std.proofs.Common.{◌≡◌, ℕ, zero, suc, ◌<◌, ◌≤◌, ◌^◌, Bool, true, false, eqb, ltb, List, [], ◌∷◌, ◌++◌, length, take, drop, Option, Some, None, refl, sym, ap, ◌∙◌, arith}
use Rattle.std.specs.Prelude.{◌&&◌, slice_index}
use Rattle.std.specs.Int.{w32, from_be_bytes}
use Rattle.std.proofs.lemmas.Bool.{eqb-true, ltb-true, ltb-false, le-ltb, lt-ltb}
use Rattle.std.proofs.lemmas.List.{take-append-drop, length-take}
use Rattle.std.proofs.lemmas.Nat.{be_bytes_4, from_be_bytes-to_be_bytes_4}
use Rattle.std.proofs.lemmas.Option.{same_Some}
use Rattle.byteorder.specs.Endian.{big_bytes}
use Rattle.clone_state.proofs.Codecs.{both_again, by_again, bytes_again, code_again, numbers_again, one_again, only_again}
use Rattle.clone_state.proofs.Spellings.{Spells, both_spells, by_spells, bytes_spells, number_spells, one_spells, only_spells, weaker}
use Rattle.clone_state.specs.Codec.{Again, both, bytes, number, one, only}
use Rattle.disk_dcdd.specs.declared.address.SectorAddress.{SectorAddress}
use Rattle.log_entry.proofs.GenerationLaws.{generation_again, generation_takes}
use Rattle.log_entry.proofs.ReadingLaws.{IsBytes-take, not_refused}
use Rattle.pair_events.specs.declared.reply.Role.{Role}
use Rattle.pair_events.specs.declared.reply.Role.TheVariants.{Primary, Backup, Joining, Draining, Alone, Halted}
use Rattle.host_frames.specs.Frames.{are_numbers, flag_code, is_drives, is_generation, is_number, is_port, is_standing, role_code}
use Rattle.host_frames.specs.Reading.{address, begin, content, drives, flag, generation, inspect, is_role, join, key, measures, port, port_count, progress, report, role, role_of, sight, standing, tick, two_numbers, word}

-- ---- tests

pub first_true : (a b : Bool) → (a && b) ≡ true → a ≡ true
first_true true b e = refl
first_true false b e = e

pub second_true : (a b : Bool) → (a && b) ≡ true → b ≡ true
second_true true b e = e
second_true false b e = absurd cc

pub both_are : (a b : Bool) → a ≡ true → b ≡ true → (a && b) ≡ true
both_are true b e f = f
both_are false b e f = absurd cc

-- nothing more is known
abbrev pub Anything : {A : Type 0} → A → Type 0
Anything x = Unit {0}

-- ---- small values

pub is_number_again : (n : ℕ) → is_number n ≡ true → Again number n
is_number_again n e = numbers_again n (ltb-true n (2 ^ 62) e)

pub is_number_spells : Spells number (λ n. is_number n ≡ true)
is_number_spells = weaker number_spells (λ n lt. lt-ltb n (2 ^ 62) lt)

pub any_byte : Spells one Anything
any_byte = weaker one_spells (λ n h. tt)

pub port_again : (n : ℕ) → is_port n ≡ true → Again port n
unfolding port
port_again n e = only_again one is_port n (one_again n) e

pub port_spells : Spells port (λ n. is_port n ≡ true)
unfolding port
port_spells = weaker (only_spells one is_port one_spells) (λ n h. h.1)

pub drives_again : (n : ℕ) → is_drives n ≡ true → Again drives n
unfolding drives
drives_again n e = only_again one is_drives n (one_again n) e

pub drives_spells : Spells drives (λ n. is_drives n ≡ true)
unfolding drives
drives_spells = weaker (only_spells one is_drives one_spells) (λ n h. h.1)

pub generation_is : (n : ℕ) → is_generation n ≡ true → Again generation n
unfolding generation
generation_is n e = record {
  again = λ rest.
      generation_again n rest (ltb-true 0 n (first_true (ltb 0 n) (ltb n (2 ^ 32)) e))
      (ltb-true n (2 ^ 32) (second_true (ltb 0 n) (ltb n (2 ^ 32)) e));
}

pub generation_spells : Spells generation (λ n. is_generation n ≡ true)
unfolding generation
generation_spells = record {
  written = λ bytes r all e. (generation_takes bytes r all e).parts;
  holds = λ bytes r all e.
      let taken = generation_takes bytes r all e in
      both_are (ltb 0 r.0) (ltb r.0 (2 ^ 32)) (lt-ltb 0 r.0 taken.above) (lt-ltb r.0 (2 ^ 32) taken.below);
}

pub word_again : (n : ℕ) → n < 2 ^ 32 → Again word n
unfolding word
word_again n lt = record {
  again = λ rest.
      let again : from_be_bytes w32 (big_bytes 4 n) ≡ n = from_be_bytes-to_be_bytes_4 n lt in
      let long : ltb (length (big_bytes 4 n ++ rest)) 4 ≡ false = le-ltb _ _ (omega arith) in
      rw (long, again) refl;
}

pub word_spells : Spells word Anything
unfolding word
word_spells = record {
  written = λ bytes r all e.
      let front = take 4 bytes in
      let rest = drop 4 bytes in
      let n = from_be_bytes w32 front in
      let test = not_refused (ltb (length bytes) 4) (Some (n, rest)) r e in
      let long : 4 ≤ length bytes = ltb-false _ _ test.0 in
      let four : length front ≡ 4 = omega (arith, length-take 4 bytes) in
      let spelled : big_bytes 4 n ≡ front = be_bytes_4 front n four (IsBytes-take 4 bytes all) refl in
      sym (take-append-drop 4 bytes) ∙ ap (λ (bs : List ℕ). bs ++ rest) (sym spelled)
      ∙ ap (λ (q : ℕ × List ℕ). big_bytes 4 q.0 ++ q.1) (same_Some (n, rest) r test.1);
  holds = λ bytes r all e. tt;
}

pub role_again : (o : Option Role) → Again role o
unfolding role
role_again o = code_again is_role role_code role_of back o
  where
    back : (o : Option Role) → (is_role (role_code o) ≡ true) × (role_of (role_code o) ≡ o)
    back None = (refl, refl)
    back (Some Primary) = (refl, refl)
    back (Some Backup) = (refl, refl)
    back (Some Joining) = (refl, refl)
    back (Some Draining) = (refl, refl)
    back (Some Alone) = (refl, refl)
    back (Some Halted) = (refl, refl)

pub role_spells : Spells role Anything
unfolding role
role_spells =
    by_spells (only one is_role) role_code role_of (only_spells one is_role one_spells)
    (λ n h. back n (ltb-true n 7 h.1)) (λ n h. tt)
  where
    back : (n : ℕ) → n < 7 → role_code (role_of n) ≡ n
    back zero h = refl
    back (suc zero) h = refl
    back (suc (suc zero)) h = refl
    back (suc (suc (suc zero))) h = refl
    back (suc (suc (suc (suc zero)))) h = refl
    back (suc (suc (suc (suc (suc zero))))) h = refl
    back (suc (suc (suc (suc (suc (suc zero)))))) h = refl
    back (suc (suc (suc (suc (suc (suc (suc n))))))) h = absurd (omega (arith, h))

pub flag_again : (b : Bool) → Again flag b
unfolding flag
flag_again b = code_again (λ code. ltb code 2) flag_code (λ code. eqb code 1) back b
  where
    back : (b : Bool) → (ltb (flag_code b) 2 ≡ true) × (eqb (flag_code b) 1 ≡ b)
    back true = (refl, refl)
    back false = (refl, refl)

pub flag_spells : Spells flag Anything
unfolding flag
flag_spells =
    by_spells (only one (λ code. ltb code 2)) flag_code (λ code. eqb code 1)
    (only_spells one (λ code. ltb code 2) one_spells) (λ n h. back n (ltb-true n 2 h.1)) (λ n h. tt)
  where
    back : (n : ℕ) → n < 2 → flag_code (eqb n 1) ≡ n
    back zero h = refl
    back (suc zero) h = refl
    back (suc (suc n)) h = absurd (omega (arith, h))

pub address_again : (a : SectorAddress) → Again address a
unfolding address
address_again a =
    by_again _ _ _ a
    (both_again one _ _ _ (one_again a.drive) (both_again one one _ _ (one_again a.track) (one_again a.sector))) refl

pub address_spells : Spells address Anything
unfolding address
address_spells =
    by_spells _ _ _ (both_spells one _ one_spells (both_spells one one one_spells one_spells)) (λ r h. refl) (λ r h. tt)

pub two_numbers_again : (xs : List ℕ) → are_numbers xs ≡ true → Again two_numbers xs
unfolding two_numbers
two_numbers_again xs e =
    let first = is_number (slice_index xs 0) in
    let second = is_number (slice_index xs 1) in
    let small = second_true (eqb (length xs) 2) (first && second) e in
    by_again _ _ _ xs
    (both_again number number _ _
    (is_number_again (slice_index xs 0) (first_true first second small))
    (is_number_again (slice_index xs 1) (second_true first second small)))
    (two xs (eqb-true (length xs) 2 (first_true (eqb (length xs) 2) (first && second) e)))
  where
    two : (xs : List ℕ) → length xs ≡ 2 → slice_index xs 0 ∷ slice_index xs 1 ∷ [] ≡ xs
    two [] l = absurd (omega (arith, l))
    two (x ∷ []) l = absurd (omega (arith, l))
    two (x ∷ y ∷ []) l = refl
    two (x ∷ y ∷ z ∷ zs) l = absurd (omega (arith, l))

pub two_numbers_spells : Spells two_numbers (λ xs. are_numbers xs ≡ true)
unfolding two_numbers
two_numbers_spells =
    by_spells _ _ _ (both_spells number number is_number_spells is_number_spells) (λ r h. refl)
    (λ r h. both_are (is_number r.0) (is_number r.1) h.0 h.1)

-- ---- fields that notices share

pub key_again : (p b n : ℕ) → is_port p ≡ true → is_number n ≡ true → Again key (p, (b, n))
unfolding key
key_again p b n h k = both_again port _ p (b, n) (port_again p h) (both_again one number b n (one_again b) (is_number_again n k))

pub key_spells : Spells key (λ r. (is_port r.0 ≡ true) × (Anything r.1.0 × (is_number r.1.1 ≡ true)))
unfolding key
key_spells = both_spells port _ port_spells (both_spells one number any_byte is_number_spells)

pub port_count_again : (p n : ℕ) → is_port p ≡ true → is_number n ≡ true → Again port_count (p, n)
unfolding port_count
port_count_again p n h k = both_again port number p n (port_again p h) (is_number_again n k)

pub port_count_spells : Spells port_count (λ r. (is_port r.0 ≡ true) × (is_number r.1 ≡ true))
unfolding port_count
port_count_spells = both_spells port number port_spells is_number_spells

pub content_again : (a : SectorAddress) (n : ℕ) (bs : List ℕ) → length bs ≡ 137 → is_number n ≡ true
    → Again content (a, (n, bs))
unfolding content
content_again a n bs l k =
    both_again address _ a (n, bs) (address_again a)
    (both_again number (bytes 137) n bs (is_number_again n k) (bytes_again 137 bs l))

pub content_spells : Spells content (λ r. Anything r.0 × ((is_number r.1.0 ≡ true) × (length r.1.1 ≡ 137)))
unfolding content
content_spells = both_spells address _ address_spells (both_spells number (bytes 137) is_number_spells (bytes_spells 137))

pub inspect_again : (p n : ℕ) → is_number n ≡ true → Again inspect (p, n)
unfolding inspect
inspect_again p n k = both_again one number p n (one_again p) (is_number_again n k)

pub inspect_spells : Spells inspect (λ r. Anything r.0 × (is_number r.1 ≡ true))
unfolding inspect
inspect_spells = both_spells one number any_byte is_number_spells

pub sight_again : (m n : ℕ) (bs : List ℕ) → length bs ≡ 526 → is_number m ≡ true → is_number n ≡ true
    → Again sight (m, (n, bs))
unfolding sight
sight_again m n bs l h k =
    both_again number _ m (n, bs) (is_number_again m h)
    (both_again number (bytes 526) n bs (is_number_again n k) (bytes_again 526 bs l))

pub sight_spells : Spells sight
    (λ r. (is_number r.0 ≡ true) × ((is_number r.1.0 ≡ true) × (length r.1.1 ≡ 526)))
unfolding sight
sight_spells =
    both_spells number _ is_number_spells (both_spells number (bytes 526) is_number_spells (bytes_spells 526))

pub begin_again : (g h : ℕ) → is_generation g ≡ true → Again begin (g, h)
unfolding begin
begin_again g h e = both_again generation one g h (generation_is g e) (one_again h)

pub begin_spells : Spells begin (λ r. (is_generation r.0 ≡ true) × Anything r.1)
unfolding begin
begin_spells = both_spells generation one generation_spells any_byte

pub join_again : (g h d n : ℕ) → is_generation g ≡ true → is_drives d ≡ true → is_number n ≡ true
    → Again join (g, (h, (d, n)))
unfolding join
join_again g h d n e f k =
    both_again generation _ g (h, (d, n)) (generation_is g e)
    (both_again one _ h (d, n) (one_again h) (both_again drives number d n (drives_again d f) (is_number_again n k)))

pub join_spells : Spells join
    (λ r. (is_generation r.0 ≡ true) × (Anything r.1.0 × ((is_drives r.1.1.0 ≡ true) × (is_number r.1.1.1 ≡ true))))
unfolding join
join_spells =
    both_spells generation _ generation_spells
    (both_spells one _ any_byte (both_spells drives number drives_spells is_number_spells))

pub progress_again : (h m n : ℕ) → is_number m ≡ true → is_number n ≡ true → Again progress (h, (m, n))
unfolding progress
progress_again h m n e f =
    both_again one _ h (m, n) (one_again h) (both_again number number m n (is_number_again m e) (is_number_again n f))

pub progress_spells : Spells progress (λ r. Anything r.0 × ((is_number r.1.0 ≡ true) × (is_number r.1.1 ≡ true)))
unfolding progress
progress_spells =
    both_spells one _ any_byte (both_spells number number is_number_spells is_number_spells)

-- ---- a report

standing_within : (g : ℕ) (o : Option Role) → is_standing g o ≡ true → g < 2 ^ 32
standing_within g None e = let zero_is = eqb-true g 0 e in omega (arith, zero_is)
standing_within g (Some r) e = ltb-true g (2 ^ 32) (second_true (ltb 0 g) (ltb g (2 ^ 32)) e)

standing_again : (g : ℕ) (o : Option Role) → is_standing g o ≡ true → Again standing (g, o)
unfolding standing
standing_again g o e =
    only_again (both word role) (λ r. is_standing r.0 r.1) (g, o)
    (both_again word role g o (word_again g (standing_within g o e)) (role_again o)) e

standing_spells : Spells standing (λ r. is_standing r.0 r.1 ≡ true)
unfolding standing
standing_spells = weaker (only_spells (both word role) (λ r. is_standing r.0 r.1) (both_spells word role word_spells role_spells)) (λ r h. h.1)

pub tick_again : (m n : ℕ) → is_number m ≡ true → is_number n ≡ true → Again tick (m, n)
unfolding tick
tick_again m n e f = both_again number number m n (is_number_again m e) (is_number_again n f)

pub tick_spells : Spells tick (λ r. (is_number r.0 ≡ true) × (is_number r.1 ≡ true))
unfolding tick
tick_spells = both_spells number number is_number_spells is_number_spells

pub measures_again : (n l w t : ℕ) → is_number n ≡ true → is_number l ≡ true → is_number w ≡ true → is_number t ≡ true
    → Again measures (n, (l, (w, t)))
unfolding measures
measures_again n l w t e f h k =
    both_again number _ n (l, (w, t)) (is_number_again n e)
    (both_again number _ l (w, t) (is_number_again l f)
    (both_again number number w t (is_number_again w h) (is_number_again t k)))

pub measures_spells : Spells measures
    (λ m. (is_number m.0 ≡ true) × ((is_number m.1.0 ≡ true) × ((is_number m.1.1.0 ≡ true) × (is_number m.1.1.1 ≡ true))))
unfolding measures
measures_spells =
    both_spells number _ is_number_spells
    (both_spells number _ is_number_spells (both_spells number number is_number_spells is_number_spells))

pub report_again : (g : ℕ) (o : Option Role) (i : Bool) (m : ℕ × (ℕ × (ℕ × ℕ))) (ks cs : List ℕ) → is_standing g o ≡ true
    → Again measures m → are_numbers ks ≡ true → are_numbers cs ≡ true → Again report ((g, o), (i, (m, (ks, cs))))
unfolding report
report_again g o i m ks cs e f h k =
    both_again standing _ (g, o) (i, (m, (ks, cs))) (standing_again g o e)
    (both_again flag _ i (m, (ks, cs)) (flag_again i)
    (both_again measures _ m (ks, cs) f
    (both_again two_numbers two_numbers ks cs (two_numbers_again ks h) (two_numbers_again cs k))))

pub report_spells : Spells report
    (λ r. (is_standing r.0.0 r.0.1 ≡ true) × (Anything r.1.0
    × (((is_number r.1.1.0.0 ≡ true) × ((is_number r.1.1.0.1.0 ≡ true)
    × ((is_number r.1.1.0.1.1.0 ≡ true) × (is_number r.1.1.0.1.1.1 ≡ true))))
    × ((are_numbers r.1.1.1.0 ≡ true) × (are_numbers r.1.1.1.1 ≡ true)))))
unfolding report
report_spells =
    both_spells standing _ standing_spells
    (both_spells flag _ flag_spells
    (both_spells measures _ measures_spells (both_spells two_numbers two_numbers two_numbers_spells two_numbers_spells)))
