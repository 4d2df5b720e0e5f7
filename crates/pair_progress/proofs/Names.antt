-- Names of operations, and how many of a list of names are outstanding.
use Rattle.std.proofs.Common.{◌≡◌, ◌≢◌, ℕ, zero, suc, ◌<◌, ◌≤◌, ◌⊎◌, inl, inr, Option, Some, None, List, [], ◌∷◌, length, Contains, slice_index_or, refl, sym, ap, ◌∙◌, arith}
use Rattle.event_callbacks.proofs.Names.{name_cases}
use Rattle.pair_protocol.proofs.Words.{Among, OpId, Operation}

pub among : {X : Type 0} (xs : List X) (x : X) → Contains xs x → Among x xs
among {X} xs x c = go xs c.0 c.1 c.2
  where
    go : (xs : List X) (k : ℕ) → k < length xs → slice_index_or xs k x ≡ x → Among x xs
    go [] k lt e = absurd (omega (arith, lt))
    go (y ∷ ys) zero lt e = inl (sym e)
    go (y ∷ ys) (suc k) lt e = inr (go ys k (omega (arith, lt)) e)

abbrev pub and_some : Option Operation → ℕ → ℕ
and_some None k = k
and_some (Some o) k = suc k

-- how many of these names are outstanding
abbrev pub count_out : (OpId → Option Operation) → List OpId → ℕ
count_out f [] = 0
count_out f (b ∷ bs) = and_some (f b) (count_out f bs)

and-le : (o : Option Operation) (j k : ℕ) → j ≤ k → and_some o j ≤ and_some o k
and-le None j k le = le
and-le (Some o) j k le = omega (arith, le)

some-le : (o : Option Operation) (k : ℕ) → and_some o k ≤ suc k
some-le None k = omega arith
some-le (Some o) k = omega arith

some-ge : (o : Option Operation) (k : ℕ) → k ≤ and_some o k
some-ge None k = omega arith
some-ge (Some o) k = omega arith

and-suc : (o : Option Operation) (k : ℕ) → and_some o (suc k) ≡ suc (and_some o k)
and-suc None k = refl
and-suc (Some o) k = refl

pub count-length : (f : OpId → Option Operation) (bs : List OpId) → count_out f bs ≤ length bs
count-length f [] = omega arith
count-length f (b ∷ bs) =
    let l = count-length f bs in let m = some-le (f b) (count_out f bs) in omega (arith, l, m)

-- an operation that is among them and that is outstanding no longer
module _ (f g : OpId → Option Operation) (gone : OpId) (o : Operation) (was : f gone ≡ Some o) (now : g gone ≡ None)
    (others : (name : OpId) → name ≢ gone → g name ≡ f name) where
  one-le : (b : OpId) (j k : ℕ) → j ≤ k → and_some (g b) j ≤ and_some (f b) k
  one-le b j k le = elim (name_cases b gone) [
    | inl same ↦
        (let none : and_some (g b) j ≡ j = ap (λ a. and_some (g a) j) same ∙ ap (λ p. and_some p j) now in
        let m = some-ge (f b) k in omega (arith, le, none, m))
    | inr differ ↦
        (let same : and_some (g b) j ≡ and_some (f b) j = ap (λ p. and_some p j) (others b differ) in
        let m = and-le (f b) j k le in omega (arith, same, m))
  ]

  count-le : (bs : List OpId) → count_out g bs ≤ count_out f bs
  count-le [] = omega arith
  count-le (b ∷ bs) = one-le b (count_out g bs) (count_out f bs) (count-le bs)

  pub count-falls : (bs : List OpId) → Among gone bs → suc (count_out g bs) ≤ count_out f bs
  count-falls [] h = absurd h
  count-falls (b ∷ bs) (inl h) =
      let none : and_some (g b) (count_out g bs) ≡ count_out g bs =
      ap (λ a. and_some (g a) (count_out g bs)) (sym h) ∙ ap (λ p. and_some p (count_out g bs)) now in
      let some : and_some (f b) (count_out f bs) ≡ suc (count_out f bs) =
      ap (λ a. and_some (f a) (count_out f bs)) (sym h) ∙ ap (λ p. and_some p (count_out f bs)) was in
      let l = count-le bs in
      omega (arith, none, some, l)
  count-falls (b ∷ bs) (inr h) =
      let l = one-le b (suc (count_out g bs)) (count_out f bs) (count-falls bs h) in
      let m = and-suc (g b) (count_out g bs) in
      omega (arith, l, m)

-- if none of them is outstanding, each has none; if some are, there is one
pub none_out : (f : OpId → Option Operation) (bs : List OpId) → count_out f bs ≡ 0 → (a : OpId) → Among a bs →
    f a ≡ None
none_out f [] h a m = absurd m
none_out f (b ∷ bs) h a m = go (f b) refl h m (λ none later. none_out f bs none a later)
  where
    go : (p : Option Operation) → f b ≡ p → and_some p (count_out f bs) ≡ 0 → (a ≡ b) ⊎ Among a bs →
        (count_out f bs ≡ 0 → Among a bs → f a ≡ None) → f a ≡ None
    go None is none (inl same) rest = ap f same ∙ is
    go None is none (inr later) rest = rest none later
    go (Some o) is none m rest = absurd (omega (arith, none))

pub some_out : (f : OpId → Option Operation) (bs : List OpId) (k : ℕ) → count_out f bs ≡ suc k →
    (a : OpId) × (o : Operation) × (f a ≡ Some o)
some_out f [] k h = absurd (omega (arith, h))
some_out f (b ∷ bs) k h = go (f b) refl h (some_out f bs k)
  where
    go : (p : Option Operation) → f b ≡ p → and_some p (count_out f bs) ≡ suc k →
        (count_out f bs ≡ suc k → (a : OpId) × (o : Operation) × (f a ≡ Some o)) →
        (a : OpId) × (o : Operation) × (f a ≡ Some o)
    go None is some later = later some
    go (Some o) is some later = (b, o, is)
