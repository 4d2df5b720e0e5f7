-- Numbers of places: a move keeps them, but for one that is given, which no other place has; so no two places have one.
use Rattle.std.proofs.Common.{ℕ, ◌≡◌, ◌⊎◌, ◌<◌, Bool, true, false, Option, Some, None, List, [], ◌∷◌, refl, sym, ap, ◌∙◌, subst, eq-eqb, eqb-true, inl, inr}
use Rattle.std.specs.Prelude.{◌==◌, ◌&&◌, is_none, not, slice_get, slice_set}
use Rattle.std.specs.Global.{Vec}
use Rattle.std.specs.List.{list_all}
use Rattle.std.proofs.lemmas.List.Sums.{AllPass-from_list_all}
use Rattle.std.proofs.lemmas.Option.{get_or_from_slice_get, slice_get_within}
use Rattle.pair_protocol.proofs.Traces.Lists.{get_set, get_set_other, same_or_not, same_some}
use Rattle.outside_switch.specs.Held.{Held}
use Rattle.outside_switch.specs.Goes as goes
use Rattle.outside_switch.specs.Goes.{Goes, Lines, Moves}
use Rattle.outside_switch.specs.Lines.{AreApart, AtPlace, IsClosed, IsNamed, LineGoes, LinesGo, MayBeGiven, OneLine, PlaceGoes, Pushed, is_other, is_spare, number_at, number_in, pushed_to, reports_spare}
use Rattle.outside_switch.specs.Meets.{Seen}
use Rattle.outside_switch.specs.declared.line.HostLine.{HostLine}

-- ---- a number that is given to no place

pub none_given : (lines : List HostLine) (number : ℕ) →
    list_all (λ (line : HostLine). is_other line.number number) lines ≡ true →
    (place : ℕ) → number_at lines place ≡ Some number → ⊥
none_given lines number all place is = go (slice_get lines place) refl is
  where
    other : (o : Option ℕ) → o ≡ Some number → is_other o number ≡ true → ⊥
    other None e passes = absurd (cc)
    other (Some k) e passes =
        let same : k ≡ number = cc in
        let test = eq-eqb k number same in
        (cc)

    go : (o : Option HostLine) → slice_get lines place ≡ o → number_in o ≡ Some number → ⊥
    go None e has = absurd (cc)
    go (Some line) e has =
        let passes = AllPass-from_list_all (λ (l : HostLine). is_other l.number number) lines all place line
        (slice_get_within lines place line e) in
        other line.number has
        (subst (λ (l : HostLine). is_other l.number number ≡ true) (get_or_from_slice_get lines place line line e) passes)

-- a spare has no number
pub spare_number : (line : HostLine) → is_spare line ≡ true → line.number ≡ None
spare_number line = go (is_none line.to) line.number (reports_spare line.report)
  where
    go : (cut : Bool) (n : Option ℕ) (says : Bool) → (not cut && (is_none n && says)) ≡ true → n ≡ None
    go true n says e = absurd (cc)
    go false None says e = refl
    go false (Some k) says e = absurd (cc)

-- ---- numbers that stay

place_number : (frames : List (Vec ℕ)) (a b : Option HostLine) → PlaceGoes frames a b → number_in b ≡ number_in a
place_number frames None None p = refl
place_number frames (Some a) (Some b) p = p.number
place_number frames None (Some b) p = absurd p
place_number frames (Some a) None p = absurd p

pub same_numbers : (pushed : List Pushed) (a b : List HostLine) → LinesGo pushed a b → (n : ℕ) → number_at b n ≡ number_at a n
same_numbers pushed a b goes n = place_number (pushed_to n pushed) (slice_get a n) (slice_get b n) (goes.each n)

-- one line became another
set_number : (a : List HostLine) (place n : ℕ) (before after : HostLine) → slice_get a place ≡ Some before → (c : Bool) →
    (n == place) ≡ c → ((n ≡ place) × (number_at (slice_set a place after) n ≡ after.number))
    ⊎ ((n ≡ place → ⊥) × (number_at (slice_set a place after) n ≡ number_at a n))
set_number a place n before after there true e =
    let same : n ≡ place = eqb-true n place e in
    inl (
      same,
      ap (λ k. number_at (slice_set a place after) k) same
          ∙ ap (λ o. number_in o) (get_set a place before after there),
    )
set_number a place n before after there false e =
    let other : n ≡ place → ⊥ = λ same. (let t = eq-eqb n place same in (cc)) in
    inr (other, ap (λ o. number_in o) (get_set_other a place n after other))

kept_numbers : (a : List HostLine) (place : ℕ) (before after : HostLine) → slice_get a place ≡ Some before →
    after.number ≡ before.number → (n : ℕ) → number_at (slice_set a place after) n ≡ number_at a n
kept_numbers a place before after there same n = elim (set_number a place n before after there (n == place) refl) [
  | inl p ↦ p.1 ∙ same ∙ ap (λ o. number_in o) (sym there) ∙ ap (λ k. number_at a k) (sym p.0)
  | inr p ↦ p.1
]

one_numbers : (a b : List HostLine) (place : ℕ) (body : Vec ℕ) → OneLine place (LineGoes (body ∷ []) []) a b → (n : ℕ) →
    number_at b n ≡ number_at a n
one_numbers a b place body one n =
    ap (λ l. number_at l n) one.set ∙ kept_numbers a place one.before one.after one.there one.becomes.number n

closed_numbers : (a b : List HostLine) (place : ℕ) → AtPlace place IsClosed a b → (n : ℕ) → number_at b n ≡ number_at a n
closed_numbers a b place at n = elim at [
  | inl one ↦ ap (λ l. number_at l n) one.set
      ∙ kept_numbers a place one.before one.after one.there (ap (λ (l : HostLine). l.number) one.becomes) n
  | inr none ↦ ap (λ l. number_at l n) none.1
]

-- ---- a number that is given

-- a place is the only one that was given a number
record IsGiven (old new : Seen) (n : ℕ) : Type 0 where
  number : ℕ
  is : number_at new.lines n ≡ Some number
  may : MayBeGiven number n old.lines
  counted : number < new.devices.hosts
  only : (m : ℕ) → (m ≡ n → ⊥) → number_at new.lines m ≡ number_at old.lines m

named : (old begun new : Seen) (place generation n : ℕ) → MayBeGiven generation place old.lines →
    generation < begun.devices.hosts → ((m : ℕ) → number_at begun.lines m ≡ number_at old.lines m) →
    Lines place (IsNamed generation) begun new → (number_at new.lines n ≡ number_at old.lines n) ⊎ IsGiven old new n
named old begun new place generation n may counted same names = elim names.lines [
  | inl one ↦ at one (set_number begun.lines place n one.before one.after one.there (n == place) refl)
  | inr none ↦ inl (ap (λ l. number_at l n) none.1 ∙ same n)
]
  where
    others : (one : OneLine place (IsNamed generation) begun.lines new.lines) (m : ℕ) → (m ≡ place → ⊥) →
        ((m ≡ place) × (number_at (slice_set begun.lines place one.after) m ≡ one.after.number))
        ⊎ ((m ≡ place → ⊥) × (number_at (slice_set begun.lines place one.after) m ≡ number_at begun.lines m)) →
        number_at (slice_set begun.lines place one.after) m ≡ number_at begun.lines m
    others one m other (inl p) = absurd (other p.0)
    others one m other (inr p) = p.1

    at : (one : OneLine place (IsNamed generation) begun.lines new.lines) →
        ((n ≡ place) × (number_at (slice_set begun.lines place one.after) n ≡ one.after.number))
        ⊎ ((n ≡ place → ⊥) × (number_at (slice_set begun.lines place one.after) n ≡ number_at begun.lines n)) →
        (number_at new.lines n ≡ number_at old.lines n) ⊎ IsGiven old new n
    at one (inr p) = inl (ap (λ l. number_at l n) one.set ∙ p.1 ∙ same n)
    at one (inl p) = inr (record {
      number = generation;
      is = ap (λ l. number_at l n) one.set ∙ p.1 ∙ ap (λ (l : HostLine). l.number) one.becomes;
      may = subst (λ k. MayBeGiven generation k old.lines) (sym p.0) may;
      counted = subst (λ (h : Held). generation < h.hosts) (sym names.devices) counted;
      only = λ m other. ap (λ l. number_at l m) one.set
          ∙ others one m (λ e. other (e ∙ sym p.0)) (set_number begun.lines place m one.before one.after one.there (m == place) refl)
          ∙ same m;
    })

-- a move keeps the number of a place, or gives it one
moved_numbers : (old new : Seen) → Moves old new → (n : ℕ) →
    (number_at new.lines n ≡ number_at old.lines n) ⊎ IsGiven old new n
moved_numbers old new (goes.Acts meets) n = inl (same_numbers meets.pushed old.lines new.lines meets.lines n)
moved_numbers old new (goes.Hears taken place body said takes is meets) n =
    inl (same_numbers meets.pushed taken.lines new.lines meets.lines n
    ∙ one_numbers old.lines taken.lines place body takes.lines n)
moved_numbers old new (goes.Drops place body takes) n = inl (one_numbers old.lines new.lines place body takes.lines n)
moved_numbers old new (goes.Closes place cause closes) n = inl (closed_numbers old.lines new.lines place closes.lines n)
moved_numbers old new (goes.Names begun place generation may begins names) n =
    named old begun new place generation n may begins.counted
    (same_numbers begins.meets.pushed old.lines begun.lines begins.meets.lines) names

-- no other place has a number that may be given
may_not : (lines : List HostLine) (m n number : ℕ) → AreApart lines → MayBeGiven number n lines →
    number_at lines m ≡ Some number → m ≡ n
may_not lines m n number apart may has = elim may [
  | inl mine ↦ apart m n number has mine
  | inr none ↦ absurd (none.1 m has)
]

moved_apart : (old new : Seen) → Moves old new → AreApart old.lines → AreApart new.lines
moved_apart old new move apart m n k p q = both (moved_numbers old new move m) (moved_numbers old new move n)
  where
    given : (j : ℕ) (g : IsGiven old new j) → number_at new.lines j ≡ Some k → MayBeGiven k j old.lines
    given j g has = subst (λ i. MayBeGiven i j old.lines) (same_some g.number k (number_at new.lines j) g.is has) g.may

    both : (number_at new.lines m ≡ number_at old.lines m) ⊎ IsGiven old new m →
        (number_at new.lines n ≡ number_at old.lines n) ⊎ IsGiven old new n → m ≡ n
    both (inl x) (inl y) = apart m n k (sym x ∙ p) (sym y ∙ q)
    both (inl x) (inr y) = may_not old.lines m n k apart (given n y q) (sym x ∙ p)
    both (inr x) (inl y) = sym (may_not old.lines n m k apart (given m x p) (sym y ∙ q))
    both (inr x) (inr y) = elim (same_or_not m n) [
      | inl same ↦ same
      | inr other ↦ may_not old.lines m n k apart (given n y q) (sym (y.only m other) ∙ p)
    ]

pub stay_apart : (first last : Seen) → Goes first last → AreApart first.lines → AreApart last.lines
stay_apart first last goes.Rests apart = apart
stay_apart first last (goes.Next {mid = mid} new before move) apart =
    moved_apart mid new move (stay_apart first mid before apart)

pub numbers_stay : (old new : Seen) → Moves old new → (place number : ℕ) → number_at old.lines place ≡ Some number →
    number_at new.lines place ≡ Some number
numbers_stay old new move place number has = elim (moved_numbers old new move place) [
  | inl same ↦ same ∙ has
  | inr g ↦ elim g.may [
    | inl mine ↦ g.is ∙ sym mine ∙ has
    | inr none ↦ absurd (let e = sym none.0 ∙ has in (cc))
  ]
]

pub numbers_count : (old new : Seen) → Moves old new → (place number : ℕ) → number_at new.lines place ≡ Some number →
    (number_at old.lines place ≡ Some number) ⊎ (number < new.devices.hosts)
numbers_count old new move place number has = elim (moved_numbers old new move place) [
  | inl same ↦ inl (sym same ∙ has)
  | inr g ↦ inr (subst (λ k. k < new.devices.hosts) (same_some g.number number (number_at new.lines place) g.is has) g.counted)
]
