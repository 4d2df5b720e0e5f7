-- Whoever is cut off has given a cause.
use Rattle.std.proofs.Common.{ℕ, ◌≡◌, ◌⊎◌, Bool, true, false, cond, Option, Some, None, List, [], ◌∷◌, arith, refl, sym, ◌∙◌, subst, eqb-true, eq-eqb, inl, inr}
use Rattle.std.specs.Prelude.{◌==◌, length, nat_lt, not, slice_get, Result, Ok, Err}
use Rattle.disk_dcdd.specs.declared.address.SectorAddress.{SectorAddress}
use Rattle.i8080_words.specs.declared.refusal.Fault.{Fault}
use Rattle.shared_disk.specs.declared.disk.SectorRead.{SectorRead}
use Rattle.host_frames.specs.Frames.{IsBodyOf, Said, Packet, Transfers, Tells}
use Rattle.host_frames.specs.declared.frame.Notice.{Notice}
use Rattle.host_frames.specs.declared.frame.Notice.TheVariants.{Join, Progress, Report, Suspect}
use Rattle.host_frames.specs.declared.frame.Transfer.{Transfer}
use Rattle.host_frames.specs.declared.frame.Transfer.TheVariants.{Byte, Get, Inspected, Write}
use Rattle.pair_protocol.proofs.Traces.Lists.{among-prefix, prefix-length}
use Rattle.pair_protocol.specs.Faithful.{IsPrefix}
use Rattle.pair_protocol.specs.Lawful.{Among}
use Rattle.outside_switch.proofs.Coming.{lines_came, lines_many, moved_many, moved_on}
use Rattle.outside_switch.proofs.Cutting.{came_open, named_open}
use Rattle.outside_switch.proofs.Lines.{others_open, still_open}
use Rattle.outside_switch.specs.Causes as causes
use Rattle.outside_switch.specs.Causes.{AreCutForCause, MayBeCut, MayCut, came_at, means_nothing}
use Rattle.outside_switch.specs.DeviceCalls.{is_accepted}
use Rattle.outside_switch.specs.Goes as goes
use Rattle.outside_switch.specs.Goes.{Goes, Moves}
use Rattle.outside_switch.specs.Heeds.{Asked, HeedsAt, HeedsNotice, HeedsTransfer, dropped_as, is_end, open_in, read_if, room_of}
use Rattle.outside_switch.specs.Held.{Held}
use Rattle.outside_switch.specs.Lines.{LinesGo, Pushed, number_at}
use Rattle.outside_switch.specs.Meets.{MeetsWith, Seen}
use Rattle.outside_switch.specs.Passing.{Passed, passed_of}
use Rattle.outside_switch.specs.Says.{Saying}
use Rattle.outside_switch.specs.declared.heard.BodyOutcome.{BodyOutcome}
use Rattle.outside_switch.specs.declared.heard.BodyOutcome.TheVariants.{Ended, Failed, Met, Nothing, Shown}
use Rattle.outside_switch.specs.declared.line.HostLine.{HostLine}

-- ---- a cause stays one

pub caused_on : (places : ℕ) (a b : List (List ℕ)) → IsPrefix a b → MayBeCut places a → MayBeCut places b
caused_on places a b on (causes.HasEnded among) = causes.HasEnded (among-prefix [] a b on among)
caused_on places a b on (causes.IsNoFrame body among none) = causes.IsNoFrame body (among-prefix body a b on among) none
caused_on places a b on (causes.MeansNothing body said among is nothing) =
    causes.MeansNothing body said (among-prefix body a b on among) is nothing
caused_on places a b on (causes.HasFlooded many) =
    causes.HasFlooded (let more = prefix-length a b on in omega (arith, many, more))

pub may_cut_on : (pushed : List Pushed) (a b : List HostLine) (place : ℕ) → LinesGo pushed a b → MayCut a place → MayCut b place
may_cut_on pushed a b place lines cause =
    subst (λ n. MayBeCut n (came_at b place)) (sym (lines_many pushed a b lines))
    (subst (λ l. MayBeCut (length a) l) (sym (lines_came pushed a b lines place)) cause)

-- ---- the moves of a switch

cut_by : (a b : Seen) → Moves a b → (n : ℕ) → open_in (slice_get b.lines n) ≡ false →
    (open_in (slice_get a.lines n) ≡ false) ⊎ MayCut a.lines n
cut_by a b (goes.Acts meets) n shut = inl (sym (still_open meets.pushed a.lines b.lines n meets.lines) ∙ shut)
cut_by a b (goes.Hears taken place body said takes is meets) n shut =
    inl (sym (came_open a.lines taken.lines place body takes.lines n)
    ∙ sym (still_open meets.pushed taken.lines b.lines n meets.lines) ∙ shut)
cut_by a b (goes.Drops place body takes) n shut = inl (sym (came_open a.lines b.lines place body takes.lines n) ∙ shut)
cut_by a b (goes.Closes place cause closes) n shut = go (n == place) refl
  where
    go : (c : Bool) → (n == place) ≡ c → (open_in (slice_get a.lines n) ≡ false) ⊎ MayCut a.lines n
    go true e = inr (subst (λ k. MayCut a.lines k) (sym (eqb-true n place e)) cause)
    go false e =
        inl (sym (others_open a.lines b.lines place n closes.lines (λ same. (let t = eq-eqb n place same in (cc)))) ∙ shut)
cut_by a b (goes.Names begun place generation may begins names) n shut =
    inl (sym (still_open begins.meets.pushed a.lines begun.lines n begins.meets.lines)
    ∙ sym (named_open begun.lines b.lines place generation names.lines n) ∙ shut)

moved_causes : (a b : Seen) → Moves a b → AreCutForCause a.lines → AreCutForCause b.lines
moved_causes a b move all place low shut =
    let same : length b.lines ≡ length a.lines = moved_many a b move in
    let cause : MayCut a.lines place = elim (cut_by a b move place shut) [
      | inl was ↦ all place (omega (arith, low, same)) was
      | inr cause ↦ cause
    ] in
    subst (λ n. MayBeCut n (came_at b.lines place)) (sym same)
    (caused_on (length a.lines) (came_at a.lines place) (came_at b.lines place) (moved_on a b move place) cause)

pub cuts_have_causes : (first last : Seen) → Goes first last → AreCutForCause first.lines → AreCutForCause last.lines
cuts_have_causes first last goes.Rests all = all
cuts_have_causes first last (goes.Next {mid = mid} new before move) all =
    moved_causes mid new move (cuts_have_causes first mid before all)

-- ---- an end, and a frame that means nothing

pub ended_cause : (lines : List HostLine) (place : ℕ) (body : List ℕ) → Among body (came_at lines place) → is_end body ≡ true →
    MayCut lines place
ended_cause lines place [] among is = causes.HasEnded among
ended_cause lines place (byte ∷ body) among is = absurd (let none = eqb-true (length (byte ∷ body)) 0 is in omega (arith, none))

module _ (rooms : List Bool) where
  no_place : (b : Bool) → Failed ≡ cond b Met Failed → not b ≡ true
  no_place true e = absurd (cc)
  no_place false e = refl

  not_shown : (b : Bool) (port byte : ℕ) → Failed ≡ cond b (Shown port byte) Met → ⊥
  not_shown true port byte e = (cc)
  not_shown false port byte e = (cc)

  not_failed_read : (result : Result SectorRead Fault) (address : SectorAddress) → Failed ≡ read_if result address → ⊥
  not_failed_read (Ok read) address e = (cc)
  not_failed_read (Err why) address e = (cc)

  of_transfer : (old new : Held) (places : ℕ) (t : Transfer) → HeedsTransfer rooms t old new Failed →
      means_nothing places (Transfers t) ≡ true
  of_transfer old new places (Byte port number byte) h =
      absurd (not_shown (is_accepted old.terminals port number (room_of rooms port)) port byte h.1)
  of_transfer old new places (Write write) h = absurd h
  of_transfer old new places (Get address) h = absurd (not_failed_read h.0 address h.1.1)
  of_transfer old new places (Inspected number count bytes) h = let e = h.1 in absurd (cc)
  of_transfer old new places _ h = refl

  of_question : (old new : Held) (number : Option ℕ) (generation : ℕ) → Asked number generation old new Failed → ⊥
  of_question old new None generation h = let e = h.1 in (cc)
  of_question old new (Some host) generation h = let e = h.0 in (cc)

  of_notice : (old new : Held) (places : ℕ) (number : Option ℕ) (n : Notice) →
      HeedsNotice places number n old new Failed → means_nothing places (Tells n) ≡ true
  of_notice old new places number (Suspect generation) h = absurd (of_question old new number generation h)
  of_notice old new places number (Report report) h = elim h.1 [
    | inl e ↦ absurd (cc)
    | inr e ↦ absurd (cc)
  ]
  of_notice old new places number (Join generation host drives count) h = no_place (nat_lt host places) h.1
  of_notice old new places number (Progress host entries count) h = no_place (nat_lt host places) h.1
  of_notice old new places number _ h = refl

  of_said : (old new : Held) (lines : List HostLine) (place : ℕ) (said : Said) →
      HeedsAt place rooms said lines old new Failed → means_nothing (length lines) said ≡ true
  of_said old new lines place (Packet host bytes) h = no_place (nat_lt host (length lines)) h.1
  of_said old new lines place (Transfers t) h = of_transfer old new (length lines) t h
  of_said old new lines place (Tells n) h = of_notice old new (length lines) (number_at lines place) n h

-- a frame was met that has failed
pub failed_cause : {passed : List Passed} (said : Said) (heard : Option Saying) (rooms : List Bool) (place : ℕ) (a b : Seen)
    (body : List ℕ) (outcome : BodyOutcome) → Among body (came_at a.lines place) → IsBodyOf said body →
    HeedsAt place rooms said a.lines a.devices b.devices outcome → outcome ≡ Failed → MeetsWith passed heard a b →
    MayCut b.lines place
failed_cause said heard rooms place a b body outcome among is heeds failed met =
    may_cut_on met.meets.pushed a.lines b.lines place met.meets.lines
    (causes.MeansNothing body said among is
    (of_said rooms a.devices b.devices a.lines place said
    (subst (λ o. HeedsAt place rooms said a.lines a.devices b.devices o) failed heeds)))

-- ---- no frame ends a stream

module _ (rooms : List Bool) where
  ends_nothing : (b : Bool) (a c : BodyOutcome) → (Ended ≡ a → ⊥) → (Ended ≡ c → ⊥) → Ended ≡ cond b a c → ⊥
  ends_nothing true a c p q e = p e
  ends_nothing false a c p q e = q e

  not_met : Ended ≡ Met → ⊥
  not_met e = (cc)

  not_failed : Ended ≡ Failed → ⊥
  not_failed e = (cc)

  not_told : (port byte : ℕ) → Ended ≡ Shown port byte → ⊥
  not_told port byte e = (cc)

  not_read : (result : Result SectorRead Fault) (address : SectorAddress) → Ended ≡ read_if result address → ⊥
  not_read (Ok read) address e = (cc)
  not_read (Err why) address e = (cc)

  by_transfer : (old new : Held) (t : Transfer) → HeedsTransfer rooms t old new Ended → ⊥
  by_transfer old new (Byte port number byte) h =
      ends_nothing (is_accepted old.terminals port number (room_of rooms port)) (Shown port byte) Met (not_told port byte) not_met h.1
  by_transfer old new (Write write) h = h
  by_transfer old new (Get address) h = not_read h.0 address h.1.1
  by_transfer old new (Inspected number count bytes) h = not_met h.1
  by_transfer old new _ h = not_failed h.1

  by_question : (old new : Held) (number : Option ℕ) (generation : ℕ) → Asked number generation old new Ended → ⊥
  by_question old new None generation h = not_met h.1
  by_question old new (Some host) generation h = not_met h.0

  by_notice : (old new : Held) (places : ℕ) (number : Option ℕ) (n : Notice) → HeedsNotice places number n old new Ended → ⊥
  by_notice old new places number (Suspect generation) h = by_question old new number generation h
  by_notice old new places number (Report report) h = elim h.1 [
    | inl e ↦ (let k = e in cc)
    | inr e ↦ (let k = e in cc)
  ]
  by_notice old new places number (Join generation host drives count) h =
      ends_nothing (nat_lt host places) Met Failed not_met not_failed h.1
  by_notice old new places number (Progress host entries count) h =
      ends_nothing (nat_lt host places) Met Failed not_met not_failed h.1
  by_notice old new places number _ h = not_failed h.1

  by_said : (old new : Held) (lines : List HostLine) (place : ℕ) (said : Said) → HeedsAt place rooms said lines old new Ended → ⊥
  by_said old new lines place (Packet host bytes) h =
      ends_nothing (nat_lt host (length lines)) Met Failed not_met not_failed h.1
  by_said old new lines place (Transfers t) h = by_transfer old new t h
  by_said old new lines place (Tells n) h = by_notice old new (length lines) (number_at lines place) n h

pub met_open : (rooms : List Bool) (place : ℕ) (said : Said) (a b : Seen) (outcome : BodyOutcome) →
    HeedsAt place rooms said a.lines a.devices b.devices outcome → outcome ≡ Ended → ⊥
met_open rooms place said a b outcome heeds ended =
    by_said rooms a.devices b.devices a.lines place said
    (subst (λ o. HeedsAt place rooms said a.lines a.devices b.devices o) ended heeds)

-- a body that was dropped shows nothing
pub dropped_shows : (body : List ℕ) → passed_of (dropped_as body) ≡ []
dropped_shows body = go (is_end body)
  where
    go : (b : Bool) → passed_of (cond b Nothing Met) ≡ []
    go true = refl
    go false = refl
