-- What the head of a frame says, from left to right, of the bytes that begin with it.
use Rattle.std.proofs.Common.{◌≡◌, ℕ, ◌+◌, ◌*◌, ◌/◌, ◌%◌, ◌<◌, ◌≤◌, Bool, true, false, cond, eqb, ltb, List, [], ◌∷◌, ◌++◌, length, replicate, Option, Some, None, refl, sym, ap, subst, ◌∙◌, inl, inr, ◌⊎◌, arith}
use Rattle.std.specs.Prelude.{Result, Ok, Err}
use Rattle.std.proofs.lemmas.Bool.{eqb-true, eqb-false, ltb-true, ltb-false}
use Rattle.std.proofs.lemmas.List.{length-replicate}
use Rattle.i8080_words.specs.declared.refusal.Fault.{Fault}
use Rattle.i8080_words.specs.declared.refusal.Fault.TheVariants.{Malformed}
use Rattle.log_entry.specs.Numbers.{IsBytes}
use Rattle.host_frames.specs.Frames.{framed}
use Rattle.host_frames.specs.Stream.{BeginsNone, IsBody, IsPartial, after_first, after_second, head_of, length_of}

abbrev Head : Type 0
Head = Result (Option ℕ) Fault

-- ---- tests that refuse

passed : (test : Bool) (x : Head) (o : Option ℕ) → cond test x (Err Malformed) ≡ Ok o → (test ≡ true) × (x ≡ Ok o)
passed true x o e = (refl, e)
passed false x o e = absurd cc

not_met : (test : Bool) (x : Head) (o : Option ℕ) → cond test (Err Malformed) x ≡ Ok o → (test ≡ false) × (x ≡ Ok o)
not_met true x o e = absurd cc
not_met false x o e = (refl, e)

-- a test that was not passed, or what comes after it
missed : (test : Bool) (x : Head) (fault : Fault) → cond test x (Err Malformed) ≡ Err fault
    → ((test ≡ false) × (fault ≡ Malformed)) ⊎ ((test ≡ true) × (x ≡ Err fault))
missed true x fault e = inr (refl, e)
missed false x fault e = inl (refl, cc)

met : (test : Bool) (x : Head) (fault : Fault) → cond test (Err Malformed) x ≡ Err fault
    → ((test ≡ true) × (fault ≡ Malformed)) ⊎ ((test ≡ false) × (x ≡ Err fault))
met true x fault e = inl (refl, cc)
met false x fault e = inr (refl, e)

-- ---- lengths

-- the length of a body in two bytes
pub framed_as : (body : List ℕ) (high low : ℕ) → length body ≡ high * 256 + low → low < 256
    → framed body ≡ 0x46 ∷ 0x52 ∷ high ∷ low ∷ body
framed_as body high low e lt =
    let h : length body / 256 ≡ high = omega (arith, e, lt) in
    let l : length body % 256 ≡ low = omega (arith, e, lt) in
    ap (λ (k : ℕ). 0x46 ∷ 0x52 ∷ k ∷ length body % 256 ∷ body) h ∙ ap (λ (k : ℕ). 0x46 ∷ 0x52 ∷ high ∷ k ∷ body) l

-- the length that two bytes say
pub record IsLength (high low n : ℕ) : Type 0 where
  pub is : n ≡ high * 256 + low
  pub some : 0 < n
  pub most : n ≤ 4092

length_is : (high low : ℕ) (o : Option ℕ) → length_of high low ≡ Ok o
    → (o ≡ Some (high * 256 + low)) × IsLength high low (high * 256 + low)
length_is high low o e =
    let n = high * 256 + low in
    let first = not_met (eqb n 0) (cond (ltb 4092 n) (Err Malformed) (Ok (Some n))) o e in
    let second = not_met (ltb 4092 n) (Ok (Some n)) o first.1 in
    let some = eqb-false n 0 first.0 in
    let most : n ≤ 4092 = ltb-false 4092 n second.0 in
    let same = second.1 in
    (cc, record { is = refl; some = omega (arith, some); most = most })

-- ---- bytes that begin with a head

-- the head of a frame, and the bytes after it
pub record HasHead (bytes : List ℕ) (n : ℕ) : Type 0 where
  pub high : ℕ
  pub low : ℕ
  pub rest : List ℕ
  pub same : bytes ≡ 0x46 ∷ 0x52 ∷ high ∷ low ∷ rest
  pub is_length : IsLength high low n
  pub small : low < 256

abbrev of_two : ℕ → ℕ → List ℕ → List ℕ
of_two a b rest = a ∷ b ∷ rest

pub whole_head : (bytes : List ℕ) (n : ℕ) → IsBytes bytes → head_of bytes ≡ Ok (Some n) → HasHead bytes n
whole_head [] n all e = absurd cc
whole_head (a ∷ []) n all e =
    let p = passed (eqb a 0x46) (Ok None) (Some n) e in
    let none = p.1 in absurd cc
whole_head (a ∷ b ∷ []) n all e =
    let p = passed (eqb a 0x46) (after_first (Some b) None None) (Some n) e in
    let q = passed (eqb b 0x52) (Ok None) (Some n) p.1 in
    let none = q.1 in absurd cc
whole_head (a ∷ b ∷ h ∷ []) n all e =
    let p = passed (eqb a 0x46) (after_first (Some b) (Some h) None) (Some n) e in
    let q = passed (eqb b 0x52) (after_second (Some h) None) (Some n) p.1 in
    let r = not_met (ltb 15 h) (Ok None) (Some n) q.1 in
    let none = r.1 in absurd cc
whole_head (a ∷ b ∷ h ∷ l ∷ rest) n all e =
    let p = passed (eqb a 0x46) (after_first (Some b) (Some h) (Some l)) (Some n) e in
    let q = passed (eqb b 0x52) (after_second (Some h) (Some l)) (Some n) p.1 in
    let r = not_met (ltb 15 h) (length_of h l) (Some n) q.1 in
    let is = length_is h l (Some n) r.1 in
    let found = is.0 in
    let same : n ≡ h * 256 + l = cc in
    let first = eqb-true a 0x46 p.0 in
    let second = eqb-true b 0x52 q.0 in
    record {
      high = h;
      low = l;
      rest = rest;
      same = ap (λ k. of_two k b (h ∷ l ∷ rest)) first ∙ ap (λ k. of_two 0x46 k (h ∷ l ∷ rest)) second;
      is_length = subst (IsLength h l) (sym same) is.1;
      small = all 3;
    }

-- ---- bytes that are less than a head

one_byte : IsBody (0 ∷ [])
one_byte = record { some = omega arith; most = omega arith }

pub nothing_is_partial : IsPartial []
nothing_is_partial = record { body = 0 ∷ []; more = framed (0 ∷ []); is_body = one_byte; some = omega arith; same = refl }

pub partial_head : (bytes : List ℕ) → IsBytes bytes → head_of bytes ≡ Ok None → IsPartial bytes
partial_head [] all e = nothing_is_partial
partial_head (a ∷ []) all e =
    let p = passed (eqb a 0x46) (Ok None) None e in
    subst (λ k. IsPartial (k ∷ [])) (sym (eqb-true a 0x46 p.0))
    (record { body = 0 ∷ []; more = 0x52 ∷ 0 ∷ 1 ∷ 0 ∷ []; is_body = one_byte; some = omega arith; same = refl })
partial_head (a ∷ b ∷ []) all e =
    let p = passed (eqb a 0x46) (after_first (Some b) None None) None e in
    let q = passed (eqb b 0x52) (Ok None) None p.1 in
    subst (λ k. IsPartial (of_two k b [])) (sym (eqb-true a 0x46 p.0))
    (subst (λ k. IsPartial (of_two 0x46 k [])) (sym (eqb-true b 0x52 q.0))
    (record { body = 0 ∷ []; more = 0 ∷ 1 ∷ 0 ∷ []; is_body = one_byte; some = omega arith; same = refl }))
partial_head (a ∷ b ∷ h ∷ []) all e =
    let p = passed (eqb a 0x46) (after_first (Some b) (Some h) None) None e in
    let q = passed (eqb b 0x52) (after_second (Some h) None) None p.1 in
    let r = not_met (ltb 15 h) (Ok None) None q.1 in
    let few : h ≤ 15 = ltb-false 15 h r.0 in
    let body : List ℕ = replicate (h * 256 + 1) 0 in
    let size : length body ≡ h * 256 + 1 = length-replicate (h * 256 + 1) 0 in
    subst (λ k. IsPartial (of_two k b (h ∷ []))) (sym (eqb-true a 0x46 p.0))
    (subst (λ k. IsPartial (of_two 0x46 k (h ∷ []))) (sym (eqb-true b 0x52 q.0))
    (record {
      body = body;
      more = 1 ∷ body;
      is_body = record { some = omega (arith, size); most = omega (arith, size, few) };
      some = omega (arith, size);
      same = sym (framed_as body h 1 size (omega arith));
    }))
partial_head (a ∷ b ∷ h ∷ l ∷ rest) all e =
    let p = passed (eqb a 0x46) (after_first (Some b) (Some h) (Some l)) None e in
    let q = passed (eqb b 0x52) (after_second (Some h) (Some l)) None p.1 in
    let r = not_met (ltb 15 h) (length_of h l) None q.1 in
    let found = (length_is h l None r.1).0 in absurd cc

-- ---- bytes that no frame begins with

wrong_first : (a : ℕ) (cs : List ℕ) → eqb a 0x46 ≡ false → BeginsNone (a ∷ cs)
wrong_first a cs test = λ body more rest is e.
    let first : a ≡ 0x46 = cc in
    absurd (eqb-false a 0x46 test first)

wrong_second : (a b : ℕ) (cs : List ℕ) → eqb b 0x52 ≡ false → BeginsNone (a ∷ b ∷ cs)
wrong_second a b cs test = λ body more rest is e.
    let second : b ≡ 0x52 = cc in
    absurd (eqb-false b 0x52 test second)

wrong_high : (a b h : ℕ) (cs : List ℕ) → ltb 15 h ≡ true → BeginsNone (a ∷ b ∷ h ∷ cs)
wrong_high a b h cs test = λ body more rest is e.
    let high : h ≡ length body / 256 = cc in
    let many : 15 < h = ltb-true 15 h test in
    let most = is.most in
    absurd (omega (arith, high, many, most))

wrong_length : (a b h l : ℕ) (cs : List ℕ) (fault : Fault) → length_of h l ≡ Err fault
    → (fault ≡ Malformed) × BeginsNone (a ∷ b ∷ h ∷ l ∷ cs)
wrong_length a b h l cs fault e =
    let n = h * 256 + l in
    elim (met (eqb n 0) (cond (ltb 4092 n) (Err Malformed) (Ok (Some n))) fault e) [
      | inl w ↦ (
        w.1,
        λ body more rest is same.
            let size = length_in body more rest same in
            let none : n ≡ 0 = eqb-true n 0 w.0 in
            let some = is.some in
            absurd (omega (arith, size, none, some)),
      )
      | inr w ↦ elim (met (ltb 4092 n) (Ok (Some n)) fault w.1) [
        | inl v ↦ (
          v.1,
          λ body more rest is same.
              let size = length_in body more rest same in
              let many : 4092 < n = ltb-true 4092 n v.0 in
              let most = is.most in
              absurd (omega (arith, size, many, most)),
        )
        | inr v ↦ let other = v.1 in absurd cc
      ]
    ]
  where
    length_in : (body more rest : List ℕ) → (a ∷ b ∷ h ∷ l ∷ cs) ++ more ≡ framed body ++ rest
        → length body ≡ h * 256 + l
    length_in body more rest same =
        let high : h ≡ length body / 256 = cc in
        let low : l ≡ length body % 256 = cc in
        omega (arith, high, low)

pub none_head : (bytes : List ℕ) (fault : Fault) → head_of bytes ≡ Err fault → (fault ≡ Malformed) × BeginsNone bytes
none_head [] fault e = absurd cc
none_head (a ∷ []) fault e =
    elim (missed (eqb a 0x46) (Ok None) fault e) [
      | inl w ↦ (w.1, wrong_first a [] w.0)
      | inr w ↦ let other = w.1 in absurd cc
    ]
none_head (a ∷ b ∷ []) fault e =
    elim (missed (eqb a 0x46) (after_first (Some b) None None) fault e) [
      | inl w ↦ (w.1, wrong_first a (b ∷ []) w.0)
      | inr w ↦ elim (missed (eqb b 0x52) (Ok None) fault w.1) [
        | inl v ↦ (v.1, wrong_second a b [] v.0)
        | inr v ↦ let other = v.1 in absurd cc
      ]
    ]
none_head (a ∷ b ∷ h ∷ []) fault e =
    elim (missed (eqb a 0x46) (after_first (Some b) (Some h) None) fault e) [
      | inl w ↦ (w.1, wrong_first a (b ∷ h ∷ []) w.0)
      | inr w ↦ elim (missed (eqb b 0x52) (after_second (Some h) None) fault w.1) [
        | inl v ↦ (v.1, wrong_second a b (h ∷ []) v.0)
        | inr v ↦ elim (met (ltb 15 h) (Ok None) fault v.1) [
          | inl u ↦ (u.1, wrong_high a b h [] u.0)
          | inr u ↦ let other = u.1 in absurd cc
        ]
      ]
    ]
none_head (a ∷ b ∷ h ∷ l ∷ rest) fault e =
    elim (missed (eqb a 0x46) (after_first (Some b) (Some h) (Some l)) fault e) [
      | inl w ↦ (w.1, wrong_first a (b ∷ h ∷ l ∷ rest) w.0)
      | inr w ↦ elim (missed (eqb b 0x52) (after_second (Some h) (Some l)) fault w.1) [
        | inl v ↦ (v.1, wrong_second a b (h ∷ l ∷ rest) v.0)
        | inr v ↦ elim (met (ltb 15 h) (length_of h l) fault v.1) [
          | inl u ↦ (u.1, wrong_high a b h (l ∷ rest) u.0)
          | inr u ↦ wrong_length a b h l rest fault u.1
        ]
      ]
    ]
