-- Who is cut off stays so, and whoever has sent too much is.
use Rattle.std.proofs.Common.{ℕ, zero, suc, ◌≡◌, ◌⊎◌, Bool, true, false, cond, Some, List, [], ◌∷◌, refl, sym, ap, ◌∙◌, subst, eqb-true, eq-eqb, inl, inr}
use Rattle.std.proofs.Math.Nat.{le_refl, lt_of_lt_of_le, sub-le, sub_self}
use Rattle.std.proofs.lemmas.Bool.{lt-ltb, ltb-true}
use Rattle.std.specs.Prelude.{◌-◌, ◌≤◌, ◌==◌, is_none, nat_lt, not, slice_get, slice_index_or, slice_set}
use Rattle.std.specs.Global.{Vec}
use Rattle.pair_protocol.proofs.Traces.Lists.{get_set, get_set_other}
use Rattle.outside_switch.proofs.Lines.{closed_now, others_open, still_open, took_none-same}
use Rattle.outside_switch.specs.Goes as goes
use Rattle.outside_switch.specs.Goes.{Goes, GoesWith, Moves}
use Rattle.outside_switch.specs.Heeds.{open_in}
use Rattle.outside_switch.specs.Lines.{AtPlace, IsClosed, IsNamed, LineGoes, OneLine}
use Rattle.outside_switch.specs.Meets.{Seen, seen}
use Rattle.outside_switch.specs.Passing.{Passed}
use Rattle.outside_switch.specs.declared.line.HostLine.{HostLine}
use Rattle.outside_switch.specs.Floods.{accepted_one, count_at, counted_one, has_flooded, refused_one, sent_one}
use Rattle.outside_switch.specs.Judging.{FloodersAreCut, IsCounted, IsCutOff, TakesOne, is_open}
use Rattle.outside_switch.specs.declared.flood.Flood.{Flood}
use Rattle.outside_switch.specs.declared.session.Session.{Session}

never : true ≡ false → ⊥
never e = (cc)

-- ---- one line became another, which is as open as the one before

kept_open : (a : List HostLine) (place : ℕ) (before after : HostLine) → slice_get a place ≡ Some before →
    is_none after.to ≡ is_none before.to → (n : ℕ) → open_in (slice_get (slice_set a place after) n) ≡ open_in (slice_get a n)
kept_open a place before after there same n = go (n == place) refl
  where
    go : (c : Bool) → (n == place) ≡ c → open_in (slice_get (slice_set a place after) n) ≡ open_in (slice_get a n)
    go true e =
        let here : n ≡ place = eqb-true n place e in
        ap (λ k. open_in (slice_get (slice_set a place after) k)) here
        ∙ ap (λ o. open_in o) (get_set a place before after there) ∙ ap not same ∙ ap (λ o. open_in o) (sym there)
        ∙ ap (λ k. open_in (slice_get a k)) (sym here)
    go false e =
        let other : n ≡ place → ⊥ = λ same. (let t = eq-eqb n place same in (cc)) in
        ap (λ o. open_in o) (get_set_other a place n after other)

-- ---- the moves of a switch

pub came_open : (a b : List HostLine) (place : ℕ) (body : Vec ℕ) → OneLine place (LineGoes (body ∷ []) []) a b → (n : ℕ) →
    open_in (slice_get b n) ≡ open_in (slice_get a n)
came_open a b place body one n =
    ap (λ l. open_in (slice_get l n)) one.set
    ∙ kept_open a place one.before one.after one.there (took_none-same [] one.before.to one.after.to one.becomes.gone) n

pub named_open : (a b : List HostLine) (place number : ℕ) → AtPlace place (IsNamed number) a b → (n : ℕ) →
    open_in (slice_get b n) ≡ open_in (slice_get a n)
named_open a b place number at n = elim at [
  | inl one ↦ ap (λ l. open_in (slice_get l n)) one.set
      ∙ kept_open a place one.before one.after one.there (ap (λ (l : HostLine). is_none l.to) one.becomes) n
  | inr none ↦ ap (λ l. open_in (slice_get l n)) none.1
]

closed_shut : (a b : List HostLine) (place : ℕ) → AtPlace place IsClosed a b → (n : ℕ) → open_in (slice_get a n) ≡ false →
    open_in (slice_get b n) ≡ false
closed_shut a b place at n shut = go (n == place) refl
  where
    go : (c : Bool) → (n == place) ≡ c → open_in (slice_get b n) ≡ false
    go true e = ap (λ k. open_in (slice_get b k)) (eqb-true n place e) ∙ closed_now a b place at
    go false e = others_open a b place n at (λ same. (let t = eq-eqb n place same in (cc))) ∙ shut

shut_by : (a b : Seen) → Moves a b → (n : ℕ) → open_in (slice_get a.lines n) ≡ false → open_in (slice_get b.lines n) ≡ false
shut_by a b (goes.Acts meets) n shut = still_open meets.pushed a.lines b.lines n meets.lines ∙ shut
shut_by a b (goes.Hears taken place body said takes is meets) n shut =
    still_open meets.pushed taken.lines b.lines n meets.lines ∙ came_open a.lines taken.lines place body takes.lines n ∙ shut
shut_by a b (goes.Drops place body takes) n shut = came_open a.lines b.lines place body takes.lines n ∙ shut
shut_by a b (goes.Closes place cause closes) n shut = closed_shut a.lines b.lines place closes.lines n shut
shut_by a b (goes.Names begun place generation may begins names) n shut =
    named_open begun.lines b.lines place generation names.lines n
    ∙ still_open begins.meets.pushed a.lines begun.lines n begins.meets.lines ∙ shut

shut_on : (a b : Seen) → Goes a b → (n : ℕ) → open_in (slice_get a.lines n) ≡ false → open_in (slice_get b.lines n) ≡ false
shut_on a b goes.Rests n shut = shut
shut_on a b (goes.Next {mid = mid} new before move) n shut = shut_by mid new move n (shut_on a mid before n shut)

-- ---- what is counted

-- only the count of one place is another
pub one_other : (xs : List ℕ) (i n x : ℕ) →
    (n ≡ i) ⊎ (slice_index_or (slice_set xs i x) n 0 ≡ slice_index_or xs n 0)
one_other [] i n x = inr refl
one_other (y ∷ ys) zero zero x = inl refl
one_other (y ∷ ys) zero (suc n) x = inr refl
one_other (y ∷ ys) (suc i) zero x = inr refl
one_other (y ∷ ys) (suc i) (suc n) x = elim (one_other ys i n x) [
  | inl here ↦ inl (ap suc here)
  | inr other ↦ inr other
]

none_there : (xs : List ℕ) (i : ℕ) → slice_index_or (slice_set xs i 0) i 0 ≡ 0
none_there [] i = refl
none_there (y ∷ ys) zero = refl
none_there (y ∷ ys) (suc i) = none_there ys i

pub set_at_most : (xs : List ℕ) (i x : ℕ) → slice_index_or (slice_set xs i x) i 0 ≤ x
set_at_most [] i x = subst (λ (k : ℕ). k ≤ x) (sub_self x) (sub-le x x)
set_at_most (y ∷ ys) zero x = le_refl x
set_at_most (y ∷ ys) (suc i) x = set_at_most ys i x

more_before : (m a b : ℕ) → a ≤ b → nat_lt m a ≡ true → nat_lt m b ≡ true
more_before m a b fewer more = lt-ltb m b (lt_of_lt_of_le (ltb-true m a more) fewer)

module _ {D S : Type 0} where
  -- nothing was counted
  pub cut_on : (a b : Session D S) (passed : List Passed) → GoesWith passed (seen a.switch) (seen b.switch) →
      b.flood.sent ≡ a.flood.sent → FloodersAreCut a → FloodersAreCut b
  cut_on a b passed goes same all place much =
      shut_on (seen a.switch) (seen b.switch) goes.way place
      (all place (subst (λ (counts : List ℕ). nat_lt 32768 (count_at counts place) ≡ true) same much))

  -- only the count of one place is another
  one_on : (a b : Session D S) (place count : ℕ) → GoesWith [] (seen a.switch) (seen b.switch) →
      b.flood.sent ≡ slice_set a.flood.sent place count →
      (has_flooded b.flood place ≡ true → is_open b.switch place ≡ false) → FloodersAreCut a → FloodersAreCut b
  one_on a b place count goes is cut all n much = elim (one_other a.flood.sent place n count) [
    | inl here ↦ subst (λ k. is_open b.switch k ≡ false) (sym here)
        (cut (subst (λ k. has_flooded b.flood k ≡ true) here much))
    | inr other ↦ shut_on (seen a.switch) (seen b.switch) goes.way n
        (all n (subst (λ c. nat_lt 32768 c ≡ true) (ap (λ counts. count_at counts n) is ∙ other) much))
  ]

  -- a body was taken: a host that has sent too much by that is cut off
  pub taken_is : (c : Bool) (place : ℕ) (a b : Session D S) → TakesOne c place a b → b.flood.sent ≡ counted_one a.flood.sent place
  taken_is true place a b taken = ap (λ (f : Flood). f.sent) taken.flood_is
  taken_is false place a b taken = ap (λ (f : Flood). f.sent) taken.flood_is

  taken_cut : (c : Bool) (place : ℕ) (a b : Session D S) → has_flooded (sent_one place a.flood) place ≡ c →
      TakesOne c place a b → has_flooded b.flood place ≡ true → is_open b.switch place ≡ false
  taken_cut true place a b is taken much = taken.cut
  taken_cut false place a b is taken much =
      absurd (never (sym much ∙ ap (λ (f : Flood). has_flooded f place) taken.flood_is ∙ is))

  pub cut_taken : (a b : Session D S) (place : ℕ) → GoesWith [] (seen a.switch) (seen b.switch) →
      TakesOne (has_flooded (sent_one place a.flood) place) place a b → FloodersAreCut a → FloodersAreCut b
  cut_taken a b place goes taken =
      let c = has_flooded (sent_one place a.flood) place in
      one_on a b place _ goes (taken_is c place a b taken) (taken_cut c place a b refl taken)

  -- none waits
  pub cut_rested : (c : Bool) (a b : Session D S) (place : ℕ) → GoesWith [] (seen a.switch) (seen b.switch) →
      b.flood ≡ cond c (record a.flood { sent = slice_set a.flood.sent place 0 }) a.flood → FloodersAreCut a → FloodersAreCut b
  cut_rested true a b place goes is =
      let set : b.flood.sent ≡ slice_set a.flood.sent place 0 = ap (λ (f : Flood). f.sent) is in
      one_on a b place 0 goes set (λ much. absurd (never (sym much
      ∙ ap (λ counts. nat_lt 32768 (count_at counts place)) set ∙ ap (λ c. nat_lt 32768 c) (none_there a.flood.sent place))))
  cut_rested false a b place goes is = cut_on a b [] goes (ap (λ (f : Flood). f.sent) is)

  -- what one brought was accepted, and the count is no greater
  pub cut_paid : (a b : Session D S) (place : ℕ) → GoesWith [] (seen a.switch) (seen b.switch) →
      b.flood ≡ accepted_one place a.flood → FloodersAreCut a → FloodersAreCut b
  cut_paid a b place goes is all =
      let count = count_at a.flood.sent place - 8 in
      let set : b.flood.sent ≡ slice_set a.flood.sent place count = ap (λ (f : Flood). f.sent) is in
      one_on a b place count goes set (λ much.
      let fewer : nat_lt 32768 count ≡ true =
      more_before 32768 _ count (set_at_most a.flood.sent place count)
      (sym (ap (λ counts. nat_lt 32768 (count_at counts place)) set) ∙ much) in
      shut_on (seen a.switch) (seen b.switch) goes.way place (all place (more_before 32768 count _ (sub-le _ 8) fewer))) all

  -- ---- whether one is too many

  pub few : (c : Bool) (place : ℕ) (a b : Session D S) → c ≡ false → IsCounted (sent_one place a.flood) a b → TakesOne c place a b
  few c place a b e counted = subst (λ k. TakesOne k place a b) (sym e) counted

  pub many : (c : Bool) (place : ℕ) (a m b : Session D S) → c ≡ true → m.flood ≡ sent_one place a.flood → m.switch ≡ a.switch →
      IsCutOff place (refused_one place m.flood) m b → TakesOne c place a b
  many c place a m b e counted same cut = subst (λ k. TakesOne k place a b) (sym e) (record {
    flood_is = cut.flood_is ∙ ap (λ (f : Flood). refused_one place f) counted;
    cut = cut.cut;
    others = λ other differs. cut.others other differs ∙ ap (λ s. is_open s other) same;
  })
