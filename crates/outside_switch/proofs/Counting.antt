-- No more bodies are counted of a host than have come from it.
use Rattle.std.proofs.Common.{ℕ, zero, suc, ◌≡◌, ◌+◌, ◌≤◌, Bool, true, false, cond, List, [], arith, refl, sym, ap, ◌∙◌, subst, inl, inr, ltb-true}
use Rattle.std.proofs.Math.Nat.{min-le_left, sub-le}
use Rattle.std.specs.Prelude.{◌-◌, ◌^◌, length, replicate, slice_set}
use Rattle.outside_switch.proofs.Coming.{came_more, came_on}
use Rattle.outside_switch.proofs.Cutting.{one_other, set_at_most, taken_is}
use Rattle.outside_switch.specs.Causes as causes
use Rattle.outside_switch.specs.Causes.{MayCut, came_at}
use Rattle.outside_switch.specs.Goes.{GoesWith}
use Rattle.outside_switch.specs.Meets.{seen}
use Rattle.outside_switch.specs.Passing.{Passed}
use Rattle.outside_switch.specs.Floods.{accepted_one, came_of, cleared, count_at, has_flooded, one_more, sent_one}
use Rattle.outside_switch.specs.Judging.{AreCounted, FloodersAreCut, HasOneMore, HearsOne, TakesOne}
use Rattle.outside_switch.specs.declared.flood.Came.TheVariants.{Taken}
use Rattle.outside_switch.specs.declared.flood.Flood.{Flood}
use Rattle.outside_switch.specs.declared.heard.BodyOutcome.{BodyOutcome}
use Rattle.outside_switch.specs.declared.heard.BodyOutcome.TheVariants as heard
use Rattle.outside_switch.specs.declared.session.Session.{Session}
use Rattle.pair_protocol.proofs.Traces.Lists.{prefix-length}

none_counted : (n place : ℕ) → count_at (replicate n 0) place ≡ 0
none_counted zero place = refl
none_counted (suc n) zero = refl
none_counted (suc n) (suc place) = none_counted n place

one_more_most : (count : ℕ) → one_more count ≤ count + 1
one_more_most count = min-le_left (count + 1) (2 ^ 64 - 1)

-- what was taken is something
not_nothing : (outcome : BodyOutcome) (is_open : Bool) → came_of outcome is_open ≡ Taken → outcome ≡ heard.Nothing → ⊥
not_nothing outcome is_open taken nothing =
    let k = subst (λ o. came_of o is_open ≡ Taken) nothing taken in (cc)

module _ {D S : Type 0} where
  longer : (a b : Session D S) (passed : List Passed) → GoesWith passed (seen a.switch) (seen b.switch) → (n : ℕ) →
      length (came_at a.switch.lines.items n) ≤ length (came_at b.switch.lines.items n)
  longer a b passed goes n =
      prefix-length (came_at a.switch.lines.items n) (came_at b.switch.lines.items n)
      (came_on (seen a.switch) (seen b.switch) goes.way n)

  -- nothing was counted
  pub counted_on : (a b : Session D S) (passed : List Passed) → GoesWith passed (seen a.switch) (seen b.switch) →
      b.flood.sent ≡ a.flood.sent → AreCounted a → AreCounted b
  counted_on a b passed goes same counted n =
      let before = counted n in
      let more = longer a b passed goes n in
      let is = ap (λ counts. count_at counts n) same in
      omega (arith, before, more, is)

  -- only the count of one place is another
  counted_at : (a b : Session D S) (place count : ℕ) → GoesWith [] (seen a.switch) (seen b.switch) →
      b.flood.sent ≡ slice_set a.flood.sent place count → count ≤ length (came_at b.switch.lines.items place) →
      AreCounted a → AreCounted b
  counted_at a b place count goes is few counted n = elim (one_other a.flood.sent place n count) [
    | inl here ↦ subst (λ k. count_at b.flood.sent k ≤ length (came_at b.switch.lines.items k)) (sym here)
        (let most = set_at_most a.flood.sent place count in
        let now = ap (λ counts. count_at counts place) is in omega (arith, most, now, few))
    | inr other ↦ (let before = counted n in
        let more = longer a b [] goes n in
        let now = ap (λ counts. count_at counts n) is ∙ other in omega (arith, before, more, now))
  ]

  pub counted_taken : (a b : Session D S) (place : ℕ) → GoesWith [] (seen a.switch) (seen b.switch) →
      TakesOne (has_flooded (sent_one place a.flood) place) place a b → HasOneMore place a → AreCounted a → AreCounted b
  counted_taken a b place goes taken room =
      let c = has_flooded (sent_one place a.flood) place in
      let count = count_at a.flood.sent place in
      let most = one_more_most count in
      let more = longer a b [] goes place in
      counted_at a b place (one_more count) goes (taken_is c place a b taken) (omega (arith, most, more, room))

  -- none waits
  pub counted_rested : (c : Bool) (a b : Session D S) (place : ℕ) → GoesWith [] (seen a.switch) (seen b.switch) →
      b.flood ≡ cond c (record a.flood { sent = slice_set a.flood.sent place 0 }) a.flood → AreCounted a → AreCounted b
  counted_rested true a b place goes is = counted_at a b place 0 goes (ap (λ (f : Flood). f.sent) is) (omega arith)
  counted_rested false a b place goes is = counted_on a b [] goes (ap (λ (f : Flood). f.sent) is)

  -- what one brought was accepted
  pub counted_paid : (a b : Session D S) (place : ℕ) → GoesWith [] (seen a.switch) (seen b.switch) →
      b.flood ≡ accepted_one place a.flood → AreCounted a → AreCounted b
  counted_paid a b place goes is counted =
      let fewer = sub-le (count_at a.flood.sent place) 8 in
      let before = counted place in
      let more = longer a b [] goes place in
      counted_at a b place (count_at a.flood.sent place - 8) goes (ap (λ (f : Flood). f.sent) is)
      (omega (arith, fewer, before, more)) counted

  -- ---- before it goes

  pub none_yet : (a b : Session D S) → b.flood ≡ cleared a.flood → AreCounted b
  none_yet a b is n =
      let none = ap (λ (f : Flood). count_at f.sent n) is ∙ none_counted 256 n in omega (arith, none)

  pub none_flooded : (a b : Session D S) → b.flood ≡ cleared a.flood → FloodersAreCut b
  none_flooded a b is n much =
      let none = ap (λ (f : Flood). count_at f.sent n) is ∙ none_counted 256 n in
      let above = ltb-true 32768 (count_at b.flood.sent n) much in
      absurd (omega (arith, none, above))

  -- ---- whether one is too many

  -- one that is too many has come
  pub flood_cause : (a m : Session D S) (place : ℕ) → HasOneMore place a → m.switch ≡ a.switch →
      has_flooded (sent_one place a.flood) place ≡ true → MayCut m.switch.lines.items place
  flood_cause a m place room same much =
      subst (λ s. MayCut s.lines.items place) (sym same) (causes.HasFlooded
      (let count = count_at a.flood.sent place in
      let above = ltb-true 32768 (count_at (slice_set a.flood.sent place (one_more count)) place) much in
      let most = set_at_most a.flood.sent place (one_more count) in
      let more = one_more_most count in
      omega (arith, above, most, more, room)))

  -- one that was taken has come
  pub one_came : (a b : Session D S) (place : ℕ) (outcome : BodyOutcome) (is_open : Bool) → HearsOne place outcome a b →
      AreCounted a → came_of outcome is_open ≡ Taken → HasOneMore place b
  one_came a b place outcome is_open hears counted taken =
      let came = came_more place hears.rooms hears.hears.body (seen a.switch) hears.hears.taken (seen b.switch) outcome
      hears.hears.next hears.hears.heeds hears.hears.on (not_nothing outcome is_open taken) in
      let before = counted place in
      let same = ap (λ (f : Flood). count_at f.sent place) hears.flood in
      omega (arith, came, before, same)
