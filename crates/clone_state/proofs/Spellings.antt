-- What is read is written just so, and what is known of it then: for one value after another, for lists, and for a value
-- that stands for another one.
use Rattle.std.proofs.Common.{◌≡◌, ℕ, zero, suc, ◌<◌, ◌^◌, Bool, true, cond, eqb, ltb, List, [], ◌∷◌, ◌++◌, length, take, drop, Some, None, sym, ap, subst, ◌∙◌, append_assoc, append-nil}
use Rattle.std.proofs.lemmas.Bool.{eqb-true, ltb-false}
use Rattle.std.proofs.lemmas.List.{length-take-le, nil_from_length, take-append-drop}
use Rattle.std.proofs.lemmas.Option.{same_Some, none-some}
use Rattle.clone_state.proofs.Words.{Codec, IsBytes, IsBytes-drop, OneSpelling, admitted, both, by, byte_at, bytes, bytes_at, counted, first_read, not_refused, number, one, only, read_all, read_each, spell_each, times}
use Rattle.log_entry.specs.Numbers.{◌>>=◌}
use Rattle.log_entry.proofs.NumberLaws.{number_takes}
use Rattle.clone_state.proofs.Codecs.{drop_front}

-- what is read is written just so, and this holds of it
pub record Spells {A : Type 0} (c : Codec A) (P : A → Type 0) : Type 0 where
  pub written : (bytes : List ℕ) (r : A × List ℕ) → IsBytes bytes → c.read bytes ≡ Some r
      → bytes ≡ c.spell r.0 ++ r.1
  pub holds : (bytes : List ℕ) (r : A × List ℕ) → IsBytes bytes → c.read bytes ≡ Some r → P r.0

pub one_spelling : {A : Type 0} {P : A → Type 0} (c : Codec A) → Spells c P → OneSpelling c
one_spelling c h = record { exact = λ bytes rest x all e. h.written bytes (x, rest) all e }

pub weaker : {A : Type 0} {P Q : A → Type 0} {c : Codec A} → Spells c P → ((x : A) → P x → Q x) → Spells c Q
weaker h f = record { written = h.written; holds = λ bytes r all e. f r.0 (h.holds bytes r all e) }

-- what is after the value is bytes too
behind : (xs ys bytes : List ℕ) → bytes ≡ xs ++ ys → IsBytes bytes → IsBytes ys
behind xs ys bytes e all = subst IsBytes (drop_front xs ys) (IsBytes-drop (length xs) (xs ++ ys) (subst IsBytes e all))

-- ---- bytes and numbers

pub one_spells : Spells one (λ n. n < 256)
unfolding one
one_spells = record { written = written; holds = holds }
  where
    written : (bytes : List ℕ) (r : ℕ × List ℕ) → IsBytes bytes → byte_at bytes ≡ Some r → bytes ≡ r.0 ∷ r.1
    written [] r all e = absurd (none-some r e)
    written (n ∷ rest) r all e = ap (λ (q : ℕ × List ℕ). q.0 ∷ q.1) (same_Some (n, rest) r e)

    holds : (bytes : List ℕ) (r : ℕ × List ℕ) → IsBytes bytes → byte_at bytes ≡ Some r → r.0 < 256
    holds [] r all e = absurd (none-some r e)
    holds (n ∷ rest) r all e = subst (λ (q : ℕ × List ℕ). q.0 < 256) (same_Some (n, rest) r e) (all 0)

pub bytes_spells : (n : ℕ) → Spells (bytes n) (λ xs. length xs ≡ n)
unfolding bytes
bytes_spells n = record { written = written; holds = holds }
  where
    written : (xs : List ℕ) (r : List ℕ × List ℕ) → IsBytes xs → bytes_at n xs ≡ Some r → xs ≡ r.0 ++ r.1
    written xs r all e =
        let read = not_refused (ltb (length xs) n) (Some (take n xs, drop n xs)) r e in
        sym (take-append-drop n xs)
        ∙ ap (λ (q : List ℕ × List ℕ). q.0 ++ q.1) (same_Some (take n xs, drop n xs) r read.1)

    holds : (xs : List ℕ) (r : List ℕ × List ℕ) → IsBytes xs → bytes_at n xs ≡ Some r → length r.0 ≡ n
    holds xs r all e =
        let read = not_refused (ltb (length xs) n) (Some (take n xs, drop n xs)) r e in
        sym (ap (λ (q : List ℕ × List ℕ). length q.0) (same_Some (take n xs, drop n xs) r read.1))
        ∙ length-take-le n xs (ltb-false (length xs) n read.0)

pub number_spells : Spells number (λ n. n < 2 ^ 62)
unfolding number
number_spells = record {
  written = λ bytes r all e. (number_takes bytes r all e).parts;
  holds = λ bytes r all e. (number_takes bytes r all e).below;
}

-- ---- codecs of codecs

-- both values were read, one after the other
record Reads {A B : Type 0} (c : Codec A) (d : Codec B) (bytes : List ℕ) (r : (A × B) × List ℕ) : Type 0 where
  middle : List ℕ
  first : c.read bytes ≡ Some (r.0.0, middle)
  second : d.read middle ≡ Some (r.0.1, r.1)

both_reads : {A B : Type 0} (c : Codec A) (d : Codec B) (bytes : List ℕ) (r : (A × B) × List ℕ)
    → (c.read bytes >>= λ x. d.read x.1 >>= λ y. Some ((x.0, y.0), y.1)) ≡ Some r → Reads c d bytes r
both_reads {A} {B} c d bytes r e =
    let x = first_read (c.read bytes) (λ x. d.read x.1 >>= λ y. Some ((x.0, y.0), y.1)) r e in
    let y = first_read (d.read x.0.1) (λ y. Some ((x.0.0, y.0), y.1)) r x.2 in
    let same : ((x.0.0, y.0.0), y.0.1) ≡ r = same_Some ((x.0.0, y.0.0), y.0.1) r y.2 in
    record {
      middle = x.0.1;
      first = x.1 ∙ ap (λ (q : (A × B) × List ℕ). Some (q.0.0, x.0.1)) same;
      second = y.1 ∙ ap (λ (q : (A × B) × List ℕ). Some (q.0.1, q.1)) same;
    }

pub both_spells : {A B : Type 0} {P : A → Type 0} {Q : B → Type 0} (c : Codec A) (d : Codec B) → Spells c P
    → Spells d Q → Spells (both c d) (λ p. P p.0 × Q p.1)
unfolding both
both_spells {A} {B} {P} {Q} c d h k = record {
  written = λ bytes r all e.
      let q = both_reads c d bytes r e in
      let first = h.written bytes (r.0.0, q.middle) all q.first in
      first
      ∙ ap (λ ys. c.spell r.0.0 ++ ys)
      (k.written q.middle (r.0.1, r.1) (behind (c.spell r.0.0) q.middle bytes first all) q.second)
      ∙ sym (append_assoc (c.spell r.0.0) (d.spell r.0.1) r.1);
  holds = λ bytes r all e.
      let q = both_reads c d bytes r e in
      let first = h.written bytes (r.0.0, q.middle) all q.first in (
        h.holds bytes (r.0.0, q.middle) all q.first,
        k.holds q.middle (r.0.1, r.1) (behind (c.spell r.0.0) q.middle bytes first all) q.second,
      );
}

-- the value that was read, and what it stands for
record Stood {A B : Type 0} (c : Codec A) (from : A → B) (bytes : List ℕ) (r : B × List ℕ) : Type 0 where
  value : A
  there : c.read bytes ≡ Some (value, r.1)
  for : from value ≡ r.0

by_reads : {A B : Type 0} (c : Codec A) (from : A → B) (bytes : List ℕ) (r : B × List ℕ)
    → (c.read bytes >>= λ x. Some (from x.0, x.1)) ≡ Some r → Stood c from bytes r
by_reads {A} {B} c from bytes r e =
    let x = first_read (c.read bytes) (λ x. Some (from x.0, x.1)) r e in
    let same : (from x.0.0, x.0.1) ≡ r = same_Some (from x.0.0, x.0.1) r x.2 in
    record {
      value = x.0.0;
      there = x.1 ∙ ap (λ (q : B × List ℕ). Some (x.0.0, q.1)) same;
      for = ap (λ (q : B × List ℕ). q.0) same;
    }

pub by_spells : {A B : Type 0} {P : A → Type 0} {Q : B → Type 0} (c : Codec A) (to : B → A) (from : A → B)
    → Spells c P → ((x : A) → P x → to (from x) ≡ x) → ((x : A) → P x → Q (from x)) → Spells (by c to from) Q
unfolding by
by_spells {A} {B} {P} {Q} c to from h back is = record {
  written = λ bytes r all e.
      let q = by_reads c from bytes r e in
      let p = h.holds bytes (q.value, r.1) all q.there in
      h.written bytes (q.value, r.1) all q.there
      ∙ ap (λ x. c.spell x ++ r.1) (sym (back q.value p) ∙ ap to q.for);
  holds = λ bytes r all e.
      let q = by_reads c from bytes r e in
      subst Q q.for (is q.value (h.holds bytes (q.value, r.1) all q.there));
}

pub only_spells : {A : Type 0} {P : A → Type 0} (c : Codec A) (test : A → Bool) → Spells c P
    → Spells (only c test) (λ x. P x × (test x ≡ true))
unfolding only
only_spells {A} {P} c test h = record {
  written = λ bytes r all e. h.written bytes r all (passed bytes r e).0;
  holds = λ bytes r all e. (h.holds bytes r all (passed bytes r e).0, (passed bytes r e).1);
}
  where
    passed : (bytes : List ℕ) (r : A × List ℕ) → (c.read bytes >>= λ x. cond (test x.0) (Some x) None) ≡ Some r
        → (c.read bytes ≡ Some r) × (test r.0 ≡ true)
    passed bytes r e =
        let x = first_read (c.read bytes) (λ x. cond (test x.0) (Some x) None) r e in
        let a = admitted (test x.0.0) x.0 r x.2 in
        (x.1 ∙ ap (λ q. Some q) a.1, ap (λ (q : A × List ℕ). test q.0) (sym a.1) ∙ a.0)

-- ---- lists

each_spells : {A : Type 0} {P : A → Type 0} (c : Codec A) → Spells c P → (n : ℕ) (bytes : List ℕ)
    (r : List A × List ℕ) → IsBytes bytes → read_each c n bytes ≡ Some r
    → (bytes ≡ spell_each c r.0 ++ r.1) × (length r.0 ≡ n)
each_spells {A} c h zero bytes r all e =
    let same : ([], bytes) ≡ r = same_Some ([], bytes) r e in (
      ap (λ (q : List A × List ℕ). spell_each c q.0 ++ q.1) same,
      sym (ap (λ (q : List A × List ℕ). length q.0) same),
    )
each_spells {A} c h (suc n) bytes r all e =
    let x = first_read (c.read bytes) (λ x. read_each c n x.1 >>= λ q. Some (x.0 ∷ q.0, q.1)) r e in
    let q = first_read (read_each c n x.0.1) (λ q. Some (x.0.0 ∷ q.0, q.1)) r x.2 in
    let same : (x.0.0 ∷ q.0.0, q.0.1) ≡ r = same_Some (x.0.0 ∷ q.0.0, q.0.1) r q.2 in
    let first = h.written bytes x.0 all x.1 in
    let more = each_spells c h n x.0.1 q.0 (behind (c.spell x.0.0) x.0.1 bytes first all) q.1 in (
      first ∙ ap (λ ys. c.spell x.0.0 ++ ys) more.0
          ∙ sym (append_assoc (c.spell x.0.0) (spell_each c q.0.0) q.0.1)
          ∙ ap (λ (z : List A × List ℕ). spell_each c z.0 ++ z.1) same,
      sym (ap (λ (z : List A × List ℕ). length z.0) same) ∙ ap suc more.1,
    )

pub times_spells : {A : Type 0} {P : A → Type 0} (n : ℕ) (c : Codec A) → Spells c P
    → Spells (times n c) (λ xs. length xs ≡ n)
unfolding times
times_spells n c h = record {
  written = λ bytes r all e. (each_spells c h n bytes r all e).0;
  holds = λ bytes r all e. (each_spells c h n bytes r all e).1;
}

pub counted_spells : {A : Type 0} {P : A → Type 0} (c : Codec A) → Spells c P
    → Spells (counted c) (λ xs. length xs < 256)
unfolding counted one
counted_spells {A} {P} c h = record {
  written = λ bytes r all e. (here bytes r all e).0;
  holds = λ bytes r all e. (here bytes r all e).1;
}
  where
    here : (bytes : List ℕ) (r : List A × List ℕ) → IsBytes bytes
        → (byte_at bytes >>= λ x. read_each c x.0 x.1) ≡ Some r
        → (bytes ≡ length r.0 ∷ spell_each c r.0 ++ r.1) × (length r.0 < 256)
    here bytes r all e =
        let x = first_read (byte_at bytes) (λ x. read_each c x.0 x.1) r e in
        let front = one_spells.written bytes x.0 all x.1 in
        let few = one_spells.holds bytes x.0 all x.1 in
        let more = each_spells c h x.0.0 x.0.1 r (behind (x.0.0 ∷ []) x.0.1 bytes front all) x.2 in (
          front ∙ ap (λ ys. x.0.0 ∷ ys) more.0 ∙ ap (λ n. n ∷ spell_each c r.0 ++ r.1) (sym more.1),
          subst (λ n. n < 256) (sym more.1) few,
        )

-- ---- alone

pub all_spells : {A : Type 0} {P : A → Type 0} (c : Codec A) → Spells c P → (bytes : List ℕ) (x : A)
    → IsBytes bytes → read_all c bytes ≡ Some x → bytes ≡ c.spell x
all_spells {A} c h bytes x all e =
    let r = first_read (c.read bytes) (λ r. cond (eqb (length r.1) 0) (Some r.0) None) x e in
    let a = admitted (eqb (length r.0.1) 0) r.0.0 x r.2 in
    h.written bytes r.0 all r.1
    ∙ ap (λ ys. c.spell r.0.0 ++ ys) (nil_from_length r.0.1 (eqb-true _ _ a.0))
    ∙ append-nil (c.spell r.0.0) ∙ ap c.spell a.1

pub all_holds : {A : Type 0} {P : A → Type 0} (c : Codec A) → Spells c P → (bytes : List ℕ) (x : A)
    → IsBytes bytes → read_all c bytes ≡ Some x → P x
all_holds {A} {P} c h bytes x all e =
    let r = first_read (c.read bytes) (λ r. cond (eqb (length r.1) 0) (Some r.0) None) x e in
    let a = admitted (eqb (length r.0.1) 0) r.0.0 x r.2 in
    subst P a.1 (h.holds bytes r.0 all r.1)
