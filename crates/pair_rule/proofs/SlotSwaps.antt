-- One swap of a seat with a box, whichever these are.
use Rattle.std.proofs.Common.{◌≡◌, ◌≢◌, ℕ, ◌+◌, ◌<◌, Bool, true, false, List, length, set, sym, refl, ap, ◌∙◌, ⊎_elim, arith, length-set, Option, None}
use mathlib.Core.Option as maybe
use mathlib.Core.Option.{some, none, some-injective}
use native.Mathlib.Decide.{ℕ_discrete}
use lib.ListN.{get_elem?}
use Rattle.pair_rule.proofs.Words.{Homes, Laid, Payload, at_set, set_else, set_here, slot_of}
use Rattle.pair_rule.proofs.Slots.{swapped, given, elsewhere, as_deep, within}

-- a function changed at one place
pick : {P : Type 0} → Dec P → ℕ → ℕ → ℕ
pick (yes _) a b = a
pick (no _) a b = b

put : (ℕ → ℕ) → ℕ → ℕ → ℕ → ℕ
put f k x j = pick (ℕ_discrete j k) x (f j)

put_here : (f : ℕ → ℕ) (k x j : ℕ) → j ≡ k → put f k x j ≡ x
unfolding put pick
put_here f k x j e = go (ℕ_discrete j k)
  where
    go : (d : Dec (j ≡ k)) → pick d x (f j) ≡ x
    go (yes _) = refl
    go (no n) = absurd (n e)

put_else : (f : ℕ → ℕ) (k x j : ℕ) → j ≢ k → put f k x j ≡ f j
unfolding put pick
put_else f k x j ne = go (ℕ_discrete j k)
  where
    go : (d : Dec (j ≡ k)) → pick d x (f j) ≡ f j
    go (yes e) = absurd (ne e)
    go (no _) = refl

module _ (words hands : List ℕ) (has_slot : List Bool) (homes : Homes) (l : Laid words hands has_slot homes) (j w s h : ℕ)
    (x : Option Payload) (at_box : get_elem? words j ≡ some w) (at_seat : get_elem? hands s ≡ some h) where
  -- the box's slot is not the seat's
  pub apart : slot_of w ≢ h
  apart e = let near = within words j w at_box in let b = l.boxes j w at_box in let o =
      (l.seats s h at_seat).0 in let same : l.owner (slot_of w) ≡ l.owner h = ap l.owner e in omega arith

  pub inside : h < length homes
  inside = (l.seats s h at_seat).1

  abbrev after : Homes
  after = swapped homes h x (slot_of w)

  -- each other box and each other hand is as it was
  pub box_else : (k v : ℕ) → get_elem? words k ≡ some v → k ≢ j → get_elem? after (slot_of v) ≡ get_elem? homes (slot_of v)
  box_else k v at ne = elsewhere homes h x (slot_of w) apart inside (slot_of v)
      (λ e. let near = within words k v at in let b = l.boxes k v at in let o =
      (l.seats s h at_seat).0 in let same : l.owner (slot_of v) ≡ l.owner h = ap l.owner e in omega arith)
      (λ e. ne (sym (l.boxes k v at) ∙ ap l.owner e ∙ l.boxes j w at_box))

  pub hand_else : (k v : ℕ) → get_elem? hands k ≡ some v → k ≢ s → get_elem? after v ≡ get_elem? homes v
  hand_else k v at ne = elsewhere homes h x (slot_of w) apart inside v
      (λ e. let a = (l.seats k v at).0 in let o = (l.seats s h at_seat).0 in let same : l.owner v ≡ l.owner h =
      ap l.owner e in ne (omega arith))
      (λ e. let near = within words j w at_box in let b = l.boxes j w at_box in let o =
      (l.seats k v at).0 in let same : l.owner v ≡ l.owner (slot_of w) = ap l.owner e in omega arith)

  -- the box has the seat's slot, and the seat the box's
  pub laid_swap : (w' : ℕ) → slot_of w' ≡ h → get_elem? has_slot s ≡ some true
      → Laid (set words j w') (set hands s (slot_of w)) has_slot after
  laid_swap w' is ready = let turned = put (put l.owner (slot_of w) (length words + s)) h j in record {
    owner = turned;
    deep = as_deep homes h x (slot_of w) apart inside ∙ l.deep ∙ (let a = length-set words j w' in let b =
        length-set hands s (slot_of w) in omega arith);
    paired = l.paired ∙ sym (length-set hands s (slot_of w));
    boxes = λ k v at. ⊎_elim (λ (t : (k ≡ j) × (w' ≡ v)). put_here (put l.owner (slot_of w) (length words + s)) h j (slot_of v)
        (ap slot_of (sym t.1) ∙ is) ∙ sym t.0)
        (λ (t : (k ≢ j) × (get_elem? words k ≡ some v)). let near = within words k v t.1 in let b = l.boxes k v t.1 in let o =
        (l.seats s h at_seat).0 in
        put_else (put l.owner (slot_of w) (length words + s)) h j (slot_of v) (λ e. let same : l.owner (slot_of v) ≡ l.owner h =
        ap l.owner e in omega arith)
        ∙ put_else l.owner (slot_of w) (length words + s) (slot_of v) (λ e. t.0 (sym b ∙ ap l.owner e ∙ l.boxes j w at_box)) ∙ b)
        (at_set words j k w' v at);
    seats = λ k v at. let many = length-set words j w' in ⊎_elim
        (λ (t : (k ≡ s) × (slot_of w ≡ v)). (
          put_else (put l.owner (slot_of w) (length words + s)) h j v (λ e. apart (t.1 ∙ e)) ∙ put_here l.owner (slot_of w)
              (length words + s) v (sym t.1) ∙ (let e = t.0 in omega arith),
          let f = l.full j w at_box in let near = within homes (slot_of w) (some f.0) f.1 in let d =
              as_deep homes h x (slot_of w) apart inside in let e = t.1 in omega arith,
        ))
        (λ (t : (k ≢ s) × (get_elem? hands k ≡ some v)). let o = l.seats k v t.1 in let p = (l.seats s h at_seat).0 in let near =
        within words j w at_box in let b = l.boxes j w at_box in (
          put_else (put l.owner (slot_of w) (length words + s)) h j v (λ e. let same : l.owner v ≡ l.owner h =
              ap l.owner e in t.0 (let a = o.0 in omega arith))
              ∙ put_else l.owner (slot_of w) (length words + s) v (λ e. let same : l.owner v ≡ l.owner (slot_of w) =
              ap l.owner e in let a = o.0 in omega arith) ∙ o.0 ∙ (let a = many in omega arith),
          let d = as_deep homes h x (slot_of w) apart inside in let a = o.1 in omega arith,
        ))
        (at_set hands s k (slot_of w) v at);
    full = λ k v at. ⊎_elim (λ (t : (k ≡ j) × (w' ≡ v)).
        (x, ap (get_elem? after) (ap slot_of (sym t.1) ∙ is) ∙ given homes h x (slot_of w) apart inside))
        (λ (t : (k ≢ j) × (get_elem? words k ≡ some v)). let f = l.full k v t.1 in (f.0, box_else k v t.1 t.0 ∙ f.1))
        (at_set words j k w' v at);
    bare = λ k v at lacks. ⊎_elim (λ (t : (k ≡ s) × (slot_of w ≡ v)). let e : true ≡ false =
        some-injective true false (sym ready ∙ ap (get_elem? has_slot) (sym t.0) ∙ lacks) in absurd (cc))
        (λ (t : (k ≢ s) × (get_elem? hands k ≡ some v)). hand_else k v t.1 t.0 ∙ l.bare k v t.1 lacks)
        (at_set hands s k (slot_of w) v at);
  }

-- a seat takes its first slot out of its home, or puts its last one back
module _ (words hands : List ℕ) (has_slot : List Bool) (homes : Homes) (l : Laid words hands has_slot homes) (s h : ℕ)
    (at_seat : get_elem? hands s ≡ some h) where
  pub home_else : (y : maybe.Option (Option Payload)) (j w : ℕ) → get_elem? words j ≡ some w
      → get_elem? (set homes h y) (slot_of w) ≡ get_elem? homes (slot_of w)
  home_else y j w at = set_else homes h (slot_of w) y (λ e. let near = within words j w at in let b = l.boxes j w at in let o =
      (l.seats s h at_seat).0 in let same : l.owner (slot_of w) ≡ l.owner h = ap l.owner e in omega arith)

  seat_else : (y : maybe.Option (Option Payload)) (k v : ℕ) → get_elem? hands k ≡ some v → k ≢ s
      → get_elem? (set homes h y) v ≡ get_elem? homes v
  seat_else y k v at ne = set_else homes h v y (λ e. let a = (l.seats k v at).0 in let o =
      (l.seats s h at_seat).0 in let same : l.owner v ≡ l.owner h = ap l.owner e in ne (omega arith))

  pub laid_first : Laid words hands (set has_slot s true) (set homes h none)
  laid_first = record {
    owner = l.owner;
    deep = length-set homes h none ∙ l.deep;
    paired = length-set has_slot s true ∙ l.paired;
    boxes = l.boxes;
    seats = λ k v at. let o = l.seats k v at in (o.0, let d = length-set homes h none in let a = o.1 in omega arith);
    full = λ j w at. let f = l.full j w at in (f.0, home_else none j w at ∙ f.1);
    bare = λ k v at lacks. ⊎_elim (λ (t : (k ≡ s) × (true ≡ false)). absurd (let e = t.1 in cc))
        (λ (t : (k ≢ s) × (get_elem? has_slot k ≡ some false)). seat_else none k v at t.0 ∙ l.bare k v at t.1)
        (at_set has_slot s k true false lacks);
  }

  pub laid_last : Laid words hands (set has_slot s false) (set homes h (some None))
  laid_last = record {
    owner = l.owner;
    deep = length-set homes h (some None) ∙ l.deep;
    paired = length-set has_slot s false ∙ l.paired;
    boxes = l.boxes;
    seats = λ k v at. let o = l.seats k v at in (o.0, let d = length-set homes h (some None) in let a = o.1 in omega arith);
    full = λ j w at. let f = l.full j w at in (f.0, home_else (some None) j w at ∙ f.1);
    bare = λ k v at lacks. ⊎_elim
        (λ (t : (k ≡ s) × (false ≡ false)). let same : v ≡ h =
        some-injective v h (sym at ∙ ap (get_elem? hands) t.0 ∙ at_seat) in ap (get_elem? (set homes h (some None))) same
        ∙ set_here homes h (some None) (l.seats s h at_seat).1)
        (λ (t : (k ≢ s) × (get_elem? has_slot k ≡ some false)). seat_else (some None) k v at t.0 ∙ l.bare k v at t.1)
        (at_set has_slot s k false false lacks);
  }
