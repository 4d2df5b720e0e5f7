-- One more record after others is the greatest if its number is above theirs, and otherwise leaves the greatest
-- unchanged. So any records that begin with a first one have a greatest; and of two that are both the greatest, neither
-- is before the other, so they are one.
use Rattle.std.proofs.Common.{◌≡◌, ℕ, zero, suc, ◌<◌, ◌≤◌, List, [], ◌∷◌, ◌++◌, length, get_or, drop, inl, inr, refl, sym, ap, subst, ◌∙◌, arith, append_assoc, length-append}
use Rattle.std.specs.Prelude.{All}
use Rattle.std.proofs.Math.Seq.{get_or-append_seam}
use Rattle.std.proofs.lemmas.Bool.{cases_lt}
use Rattle.std.proofs.lemmas.List.{append-nil}
use Rattle.std.proofs.lemmas.List.Elements.{All-nil, All-append, All-same}
use Rattle.shared_disk.specs.Arrivals.{IsGreatest, ChoosesOne}
use Rattle.shared_disk.specs.declared.store.Record.{Record}

-- each of these has a number below the limit, or at most the limit
abbrev Below : ℕ → List Record → Type 0
Below limit records = All (λ (other : Record). other.number < limit) records

abbrev AtMost : ℕ → List Record → Type 0
AtMost limit records = All (λ (other : Record). other.number ≤ limit) records

with_first : (P : Record → Type 0) (x : Record) (xs : List Record) → P x → All P xs → All P (x ∷ xs)
with_first P x xs px pxs zero d within = px
with_first P x xs px pxs (suc k) d within = pxs k d (omega arith)

without_first : (P : Record → Type 0) (x : Record) (xs : List Record) → All P (x ∷ xs) → All P xs
without_first P x xs all = λ k d within. all (suc k) d (omega arith)

below_more : (m n : ℕ) (records : List Record) → m ≤ n → Below m records → Below n records
below_more m n records le below = λ k d within. let b = below k d within in omega arith

at_most_below : (m n : ℕ) (records : List Record) → m < n → AtMost m records → Below n records
at_most_below m n records lt most = λ k d within. let b = most k d within in omega arith

pub greater_comes : (records : List Record) (greatest new : Record) → IsGreatest records greatest
    → greatest.number < new.number
    → IsGreatest (records ++ new ∷ []) new
greater_comes records greatest new is more = record {
  before = records;
  later = [];
  place = refl;
  above = All-same (λ (other : Record). other.number < new.number) records (is.before ++ greatest ∷ is.later) is.place
      (All-append (λ (other : Record). other.number < new.number) is.before (greatest ∷ is.later)
      (below_more greatest.number new.number is.before (omega arith) is.above)
      (with_first (λ (other : Record). other.number < new.number) greatest is.later more
      (at_most_below greatest.number new.number is.later more is.at_least)));
  at_least = All-nil (λ (other : Record). other.number ≤ new.number);
}

pub no_greater_comes : (records : List Record) (greatest new : Record) → IsGreatest records greatest
    → new.number ≤ greatest.number → IsGreatest (records ++ new ∷ []) greatest
no_greater_comes records greatest new is most = record {
  before = is.before;
  later = is.later ++ new ∷ [];
  place = ap (λ l. l ++ new ∷ []) is.place ∙ append_assoc is.before (greatest ∷ is.later) (new ∷ []);
  above = is.above;
  at_least = All-append (λ (other : Record). other.number ≤ greatest.number) is.later (new ∷ []) is.at_least
      (with_first (λ (other : Record). other.number ≤ greatest.number) new [] most
      (All-nil (λ (other : Record). other.number ≤ greatest.number)));
}

pub first_is_greatest : (first : Record) → IsGreatest (first ∷ []) first
first_is_greatest first = record {
  before = [];
  later = [];
  place = refl;
  above = All-nil (λ (other : Record). other.number < first.number);
  at_least = All-nil (λ (other : Record). other.number ≤ first.number);
}

-- a record that is the greatest of these
record HasGreatest (records : List Record) : Type 0 where
  greatest : Record
  is : IsGreatest records greatest

one_more : (records : List Record) (new : Record) → HasGreatest records → HasGreatest (records ++ new ∷ [])
one_more records new old =
    elim (cases_lt old.greatest.number new.number) [
      | inl more ↦ record { greatest = new; is = greater_comes records old.greatest new old.is more }
      | inr most ↦ record { greatest = old.greatest; is = no_greater_comes records old.greatest new old.is most }
    ]

has_greatest : (more records : List Record) → HasGreatest records → HasGreatest (records ++ more)
has_greatest [] records has = subst HasGreatest (sym (append-nil records)) has
has_greatest (new ∷ more) records has =
    subst HasGreatest (append_assoc records (new ∷ []) more)
    (has_greatest more (records ++ new ∷ []) (one_more records new has))

-- what holds of all holds of one that is among them
of_one : (P : Record → Type 0) (before : List Record) (x : Record) (later : List Record)
    → All P (before ++ x ∷ later) → P x
of_one P before x later all =
    subst P (get_or-append_seam before x later x)
    (all (length before) x (omega (arith, length-append before (x ∷ later))))

heads : (x y : Record) (xs ys : List Record) → x ∷ xs ≡ y ∷ ys → x ≡ y
heads x y xs ys e = ap (λ l. get_or l 0 x) e

rests : (x y : Record) (xs ys : List Record) → x ∷ xs ≡ y ∷ ys → xs ≡ ys
rests x y xs ys e = ap (λ l. drop 1 l) e

only_one : (b c : List Record) (g h : Record) (k l : List Record) → b ++ g ∷ k ≡ c ++ h ∷ l
    → Below g.number b → AtMost g.number k → Below h.number c → AtMost h.number l → h ≡ g
only_one [] [] g h k l e below_g most_g below_h most_h = sym (heads g h k l e)
only_one [] (y ∷ c) g h k l e below_g most_g below_h most_h =
    let first : g.number ≡ y.number = ap (λ (r : Record). r.number) (heads g y k (c ++ h ∷ l) e) in
    let lower : y.number < h.number = below_h 0 y (omega arith) in
    let most : h.number ≤ g.number =
    of_one (λ (r : Record). r.number ≤ g.number) c h l
    (All-same (λ (r : Record). r.number ≤ g.number) (c ++ h ∷ l) k (sym (rests g y k (c ++ h ∷ l) e)) most_g) in
    absurd (omega arith)
only_one (x ∷ b) [] g h k l e below_g most_g below_h most_h =
    let first : x.number ≡ h.number = ap (λ (r : Record). r.number) (heads x h (b ++ g ∷ k) l e) in
    let lower : x.number < g.number = below_g 0 x (omega arith) in
    let most : g.number ≤ h.number =
    of_one (λ (r : Record). r.number ≤ h.number) b g k
    (All-same (λ (r : Record). r.number ≤ h.number) (b ++ g ∷ k) l (rests x h (b ++ g ∷ k) l e) most_h) in
    absurd (omega arith)
only_one (x ∷ b) (y ∷ c) g h k l e below_g most_g below_h most_h =
    only_one b c g h k l (rests x y (b ++ g ∷ k) (c ++ h ∷ l) e)
    (without_first (λ (r : Record). r.number < g.number) x b below_g) most_g
    (without_first (λ (r : Record). r.number < h.number) y c below_h) most_h

pub chooses_one : (first : Record) (writes : List Record) → ChoosesOne first writes
chooses_one first writes =
    let has : HasGreatest (first ∷ writes) =
    has_greatest writes (first ∷ []) (record { greatest = first; is = first_is_greatest first }) in
    record {
      greatest = has.greatest;
      is = has.is;
      only = λ other o. only_one has.is.before o.before has.greatest other has.is.later o.later
          (sym has.is.place ∙ o.place)
          has.is.above has.is.at_least o.above o.at_least;
    }
