-- What is left out at one end of a stream is there again at the other.
use Rattle.std.proofs.Common.{ℕ, ◌≡◌, ◌⊎◌, ◌-◌, ◌<◌, Bool, true, false, cond, Some, None, List, [], ◌∷◌, ◌++◌, length, refl, sym, ap, ◌∙◌, subst, inl, inr, arith, length-take, length-drop, length-append}
use Rattle.std.proofs.lemmas.Bool.{and_from, and_parts, cond-false, cond-true, eq-eqb, eqb-true, ne_eqb, or_cases, or_from, or_left, or_right}
use Rattle.std.proofs.lemmas.List.{take-append-drop}
use Rattle.std.proofs.lemmas.Option.{cond_some, same_Some}
use Rattle.std.proofs.lemmas.Slice.Eq.{bytes_eq-Decides}
use Rattle.std.specs.Prelude.{◌==◌, ◌||◌}
use Rattle.std.specs.Str.{bytes_eq}
use Rattle.host_frames.specs.Frames.{framed}
use Rattle.host_frames.specs.Stream.{IsBody}
use Rattle.host_frames.specs.Blocks.{Blocks, Expands, Shortens, block_of, body_in, expanded, forgotten, has_block, head_of, is_kept, is_known, kept, place_of, short_body, shortened}
use Rattle.host_frames.specs.StreamLaws.{AllComeBack, ComesBack, IsPlain, Knows}

-- ---- heads and blocks

block_lengths : (body : List ℕ) → has_block body ≡ true → (length body ≡ 265) ⊎ (length body ≡ 266)
block_lengths body has = elim (or_cases (length body == 265) (length body == 266) has) [
  | inl e ↦ inl (eqb-true (length body) 265 e)
  | inr e ↦ inr (eqb-true (length body) 266 e)
]

pub head_length : (body : List ℕ) → has_block body ≡ true → (length (head_of body) ≡ 9) ⊎ (length (head_of body) ≡ 10)
head_length body has =
    let e = length-take (length body - 256) body in
    elim (block_lengths body has) [
      | inl n ↦ inl (omega (arith, e, n))
      | inr n ↦ inr (omega (arith, e, n))
    ]

block_length : (body : List ℕ) → has_block body ≡ true → length (block_of body) ≡ 256
block_length body has =
    let e = length-drop (length body - 256) body in
    elim (block_lengths body has) [
      | inl n ↦ omega (arith, e, n)
      | inr n ↦ omega (arith, e, n)
    ]

no_block : (body : List ℕ) → length body < 265 → has_block body ≡ false
no_block body few =
    or_from (length body == 265) (length body == 266) (ne_eqb (length body) 265 (λ e. omega (arith, e, few)))
    (ne_eqb (length body) 266 (λ e. omega (arith, e, few)))

keeps_none : (blocks : Blocks) (body : List ℕ) → length body < 265 → kept blocks body ≡ blocks
keeps_none blocks body few = cond-false (has_block body) _ blocks (no_block body few)

-- a short body has no block
pub short_keeps : (blocks : Blocks) (body : List ℕ) → has_block body ≡ true → kept blocks (short_body body) ≡ blocks
short_keeps blocks body has = keeps_none blocks (short_body body) (elim (head_length body has) [
  | inl n ↦ omega (arith, n)
  | inr n ↦ omega (arith, n)
])

-- ---- what is known of a head

known_head : (blocks : Blocks) (head : List ℕ) → is_known blocks head ≡ true → (length head ≡ 9) ⊎ (length head ≡ 10)
known_head blocks head e =
    elim (or_cases (length head == 9) (length head == 10) (and_parts _ (length (blocks (place_of head)) == 256) e).0) [
      | inl n ↦ inl (eqb-true (length head) 9 n)
      | inr n ↦ inr (eqb-true (length head) 10 n)
    ]

known_block : (blocks : Blocks) (head : List ℕ) → is_known blocks head ≡ true → length (blocks (place_of head)) ≡ 256
known_block blocks head e =
    eqb-true (length (blocks (place_of head))) 256
    (and_parts (length head == 9 || length head == 10) (length (blocks (place_of head)) == 256) e).1

-- so many bytes are one of these bodies
pub known_keeps : (blocks : Blocks) (head : List ℕ) → is_known blocks head ≡ true → kept blocks (0x72 ∷ head) ≡ blocks
known_keeps blocks head e = keeps_none blocks (0x72 ∷ head) (elim (known_head blocks head e) [
  | inl n ↦ omega (arith, n)
  | inr n ↦ omega (arith, n)
])

known_body : (blocks : Blocks) (head : List ℕ) → is_known blocks head ≡ true → IsBody (head ++ blocks (place_of head))
known_body blocks head e =
    let both = length-append head (blocks (place_of head)) in
    let block = known_block blocks head e in
    elim (known_head blocks head e) [
      | inl n ↦ record { some = omega (arith, both, block, n); most = omega (arith, both, block, n) }
      | inr n ↦ record { some = omega (arith, both, block, n); most = omega (arith, both, block, n) }
    ]

-- what is handed on is a body
pub expanded_body : (blocks : Blocks) (wire body : List ℕ) → IsBody wire → expanded blocks wire ≡ Some body → IsBody body
expanded_body blocks [] body is e = subst (λ l. IsBody l) (same_Some [] body e) is
expanded_body blocks (tag ∷ head) body is e = go (tag == 0x72) e
  where
    whole : List ℕ
    whole = head ++ blocks (place_of head)

    go : (b : Bool) → cond b (cond (is_known blocks head) (Some whole) None) (Some (tag ∷ head)) ≡ Some body → IsBody body
    go true e =
        let r = cond_some (is_known blocks head) whole body e in
        subst (λ l. IsBody l) r.1 (known_body blocks head r.0)
    go false e = subst (λ l. IsBody l) (same_Some (tag ∷ head) body e) is

-- ---- one body comes back

-- a body as it crosses
abbrev pub wired : Blocks → List ℕ → List ℕ
wired blocks body = cond (is_kept blocks body) (short_body body) body

pub wired_so : (blocks : Blocks) (body : List ℕ) → shortened blocks (framed body) ≡ framed (wired blocks body)
wired_so blocks body = go (is_kept blocks body)
  where
    go : (b : Bool) → cond b (framed (short_body body)) (framed body) ≡ framed (cond b (short_body body) body)
    go true = refl
    go false = refl

same_block : (reader writer : Blocks) (body : List ℕ) → Knows reader writer → is_kept writer body ≡ true →
    reader (place_of (head_of body)) ≡ block_of body
same_block reader writer body knows e =
    let place = place_of (head_of body) in
    let parts = and_parts (has_block body) (bytes_eq (writer place) (block_of body)) e in
    let same = (bytes_eq-Decides (writer place) (block_of body)).0 parts.1 in
    elim (knows place) [
      | inl none ↦
          let bytes = block_length body parts.0 in
          let gone : length (block_of body) ≡ 0 = ap length (sym same ∙ none) in
          absurd (omega (arith, bytes, gone))
      | inr has ↦ has ∙ same
    ]

short_back : (reader writer : Blocks) (body : List ℕ) → Knows reader writer → is_kept writer body ≡ true →
    expanded reader (short_body body) ≡ Some body
short_back reader writer body knows e =
    let same = same_block reader writer body knows e in
    let has = (and_parts (has_block body) (bytes_eq (writer (place_of (head_of body))) (block_of body)) e).0 in
    let count : length (reader (place_of (head_of body))) ≡ 256 = ap length same ∙ block_length body has in
    let head : (length (head_of body) == 9 || length (head_of body) == 10) ≡ true = elim (head_length body has) [
      | inl n ↦ or_left (length (head_of body) == 9) (length (head_of body) == 10) (eq-eqb (length (head_of body)) 9 n)
      | inr n ↦ or_right (length (head_of body) == 9) (length (head_of body) == 10) (eq-eqb (length (head_of body)) 10 n)
    ] in
    cond-true (is_known reader (head_of body)) (Some (head_of body ++ reader (place_of (head_of body)))) None
    (and_from (length (head_of body) == 9 || length (head_of body) == 10)
    (length (reader (place_of (head_of body))) == 256) head (eq-eqb (length (reader (place_of (head_of body)))) 256 count))
    ∙ ap (λ l. Some (head_of body ++ l)) same
    ∙ ap (λ l. Some l) (take-append-drop (length body - 256) body)

plain_back : (reader : Blocks) (body : List ℕ) → IsPlain body → expanded reader body ≡ Some body
plain_back reader [] plain = refl
plain_back reader (tag ∷ head) plain = go (tag == 0x72) refl
  where
    go : (b : Bool) → (tag == 0x72) ≡ b →
        cond b (cond (is_known reader head) (Some (head ++ reader (place_of head))) None) (Some (tag ∷ head)) ≡ Some (tag ∷ head)
    go true e = absurd (plain head (ap (λ t. t ∷ head) (eqb-true tag 0x72 e)))
    go false e = refl

pub back : (reader writer : Blocks) (body : List ℕ) → Knows reader writer → IsPlain body →
    expanded reader (wired writer body) ≡ Some body
back reader writer body knows plain = go (is_kept writer body) refl
  where
    go : (b : Bool) → is_kept writer body ≡ b → expanded reader (cond b (short_body body) body) ≡ Some body
    go true e = short_back reader writer body knows e
    go false e = plain_back reader body plain

pub comes_back : ComesBack
comes_back reader writer body knows plain =
    ap (λ l. expanded reader (body_in l)) (wired_so writer body) ∙ back reader writer body knows plain

-- ---- and the ends still keep the same

module _ (reader writer : Blocks) (wire : List ℕ) (knows : Knows reader writer) where
  knows_kept : Knows (kept reader wire) (kept writer wire)
  knows_kept place = go (has_block wire)
    where
      block : List ℕ
      block = block_of wire

      at : (b : Bool) → (cond b block (writer place) ≡ []) ⊎ (cond b block (reader place) ≡ cond b block (writer place))
      at true = inr refl
      at false = knows place

      go : (b : Bool) →
          (cond b (λ o. cond (o == place_of (head_of wire)) block (writer o)) writer place ≡ [])
          ⊎ (cond b (λ o. cond (o == place_of (head_of wire)) block (reader o)) reader place
          ≡ cond b (λ o. cond (o == place_of (head_of wire)) block (writer o)) writer place)
      go true = at (place == place_of (head_of wire))
      go false = knows place

  knows_forgotten : Knows (kept reader wire) (forgotten writer wire)
  knows_forgotten place = go (has_block wire)
    where
      block : List ℕ
      block = block_of wire

      at : (b : Bool) → (cond b [] (writer place) ≡ []) ⊎ (cond b block (reader place) ≡ cond b [] (writer place))
      at true = inl refl
      at false = knows place

      go : (b : Bool) →
          (cond b (λ o. cond (o == place_of (head_of wire)) [] (writer o)) writer place ≡ [])
          ⊎ (cond b (λ o. cond (o == place_of (head_of wire)) block (reader o)) reader place
          ≡ cond b (λ o. cond (o == place_of (head_of wire)) [] (writer o)) writer place)
      go true = at (place == place_of (head_of wire))
      go false = knows place

  pub still_knows : (next : Blocks) → (next ≡ kept writer wire) ⊎ (next ≡ forgotten writer wire) → Knows (kept reader wire) next
  still_knows next keeps = elim keeps [
    | inl e ↦ subst (λ b. Knows (kept reader wire) b) (sym e) knows_kept
    | inr e ↦ subst (λ b. Knows (kept reader wire) b) (sym e) knows_forgotten
  ]

pub all_come_back : AllComeBack
all_come_back reader writer new [] [] knows plain is = (reader, refl, subst (λ b. Knows reader b) (sym is) knows)
all_come_back reader writer new [] (w ∷ wires) knows plain is = absurd is
all_come_back reader writer new (x ∷ bodies) [] knows plain is = absurd is
all_come_back reader writer new (x ∷ bodies) (w ∷ wires) knows plain is =
    let more = all_come_back (kept reader (body_in w)) is.1.0 new bodies wires
    (still_knows reader writer (body_in w) knows is.1.0 is.1.1) plain.1 is.1.2 in
    (more.0, (ap (λ l. expanded reader (body_in l)) is.0 ∙ comes_back reader writer x knows plain.0, more.1), more.2)

-- ---- some after others

pub expands_both : (a b c : Blocks) (ws vs xs ys : List (List ℕ)) → Expands a ws xs b → Expands b vs ys c →
    Expands a (ws ++ vs) (xs ++ ys) c
expands_both a b c [] vs [] ys p q = subst (λ o. Expands o vs ys c) p q
expands_both a b c [] vs (x ∷ xs) ys p q = absurd p
expands_both a b c (w ∷ ws) vs [] ys p q = absurd p
expands_both a b c (w ∷ ws) vs (x ∷ xs) ys p q = (p.0, expands_both (kept a w) b c ws vs xs ys p.1 q)

pub shortens_both : (a b c : Blocks) (xs ys ws vs : List (List ℕ)) → Shortens a xs ws b → Shortens b ys vs c →
    Shortens a (xs ++ ys) (ws ++ vs) c
shortens_both a b c [] ys [] vs p q = subst (λ o. Shortens o ys vs c) p q
shortens_both a b c [] ys (w ∷ ws) vs p q = absurd p
shortens_both a b c (x ∷ xs) ys [] vs p q = absurd p
shortens_both a b c (x ∷ xs) ys (w ∷ ws) vs p q =
    (p.0, (p.1.0, p.1.1, shortens_both p.1.0 b c xs ys ws vs p.1.2 q))
