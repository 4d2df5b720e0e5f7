-- Whatever has come from a host stays, and one body more comes at a time.
use Rattle.std.proofs.Common.{ℕ, zero, suc, ◌≡◌, ◌<◌, ◌≤◌, Bool, true, false, Option, Some, None, List, [], ◌∷◌, ◌++◌, append-nil, arith, refl, sym, ap, ◌∙◌, subst, eqb-true, eq-eqb, inl, inr}
use Rattle.std.specs.Prelude.{◌==◌, length, slice_get, slice_set}
use Rattle.std.specs.Global.{Vec}
use Rattle.std.proofs.Math.Nat.{le_refl}
use Rattle.std.proofs.lemmas.List.{length-append, map-append}
use Rattle.std.proofs.lemmas.Option.{slice_get_past}
use Rattle.host_frames.specs.StreamReading.{contents_of}
use Rattle.rtrb.specs.Ring.{received}
use Rattle.pair_protocol.proofs.Traces.Lists.{among-right, get_set, get_set_other, prefix-length, prefix-refl, prefix-same, prefix-trans}
use Rattle.pair_protocol.specs.Faithful.{IsPrefix}
use Rattle.pair_protocol.specs.Lawful.{Among}
use Rattle.outside_switch.specs.Causes.{CameOn, came_at, came_in}
use Rattle.outside_switch.specs.Goes as goes
use Rattle.outside_switch.specs.Goes.{Goes, HearsBody, HeedsNext, Moves, NextSo}
use Rattle.outside_switch.specs.Lines.{AtPlace, IsClosed, IsNamed, LineGoes, LinesGo, OneLine, PlaceGoes, Pushed, pushed_to}
use Rattle.outside_switch.specs.Meets.{Seen}
use Rattle.outside_switch.specs.Passing.{Passed}
use Rattle.outside_switch.specs.declared.heard.BodyOutcome.{BodyOutcome}
use Rattle.outside_switch.specs.declared.heard.BodyOutcome.TheVariants.{Nothing}
use Rattle.outside_switch.specs.declared.line.HostLine.{HostLine}

-- ---- no body came

place_came : (frames : List (Vec ℕ)) (a b : Option HostLine) → PlaceGoes frames a b → came_in b ≡ came_in a
place_came frames None None p = refl
place_came frames (Some a) (Some b) p = ap contents_of (p.came ∙ append-nil (received a.from))
place_came frames None (Some b) p = absurd p
place_came frames (Some a) None p = absurd p

pub lines_came : (pushed : List Pushed) (a b : List HostLine) → LinesGo pushed a b → (n : ℕ) → came_at b n ≡ came_at a n
lines_came pushed a b goes n = place_came (pushed_to n pushed) (slice_get a n) (slice_get b n) (goes.each n)

-- one line became another
kept_came : (a : List HostLine) (place : ℕ) (before after : HostLine) → slice_get a place ≡ Some before →
    after.from ≡ before.from → (n : ℕ) → came_at (slice_set a place after) n ≡ came_at a n
kept_came a place before after there same n = go (n == place) refl
  where
    go : (c : Bool) → (n == place) ≡ c → came_at (slice_set a place after) n ≡ came_at a n
    go true e =
        let here : n ≡ place = eqb-true n place e in
        ap (λ k. came_at (slice_set a place after) k) here ∙ ap (λ o. came_in o) (get_set a place before after there)
        ∙ ap (λ r. contents_of (received r)) same ∙ ap (λ o. came_in o) (sym there) ∙ ap (λ k. came_at a k) (sym here)
    go false e =
        let other : n ≡ place → ⊥ = λ same. (let t = eq-eqb n place same in (cc)) in
        ap (λ o. came_in o) (get_set_other a place n after other)

closed_came : (a b : List HostLine) (place : ℕ) → AtPlace place IsClosed a b → (n : ℕ) → came_at b n ≡ came_at a n
closed_came a b place at n = elim at [
  | inl one ↦ ap (λ l. came_at l n) one.set
      ∙ kept_came a place one.before one.after one.there (ap (λ (l : HostLine). l.from) one.becomes) n
  | inr none ↦ ap (λ l. came_at l n) none.1
]

named_came : (a b : List HostLine) (place number : ℕ) → AtPlace place (IsNamed number) a b → (n : ℕ) →
    came_at b n ≡ came_at a n
named_came a b place number at n = elim at [
  | inl one ↦ ap (λ l. came_at l n) one.set
      ∙ kept_came a place one.before one.after one.there (ap (λ (l : HostLine). l.from) one.becomes) n
  | inr none ↦ ap (λ l. came_at l n) none.1
]

-- ---- one body came

pub took_one : (a b : List HostLine) (place : ℕ) (body : Vec ℕ) → OneLine place (LineGoes (body ∷ []) []) a b →
    came_at b place ≡ came_at a place ++ body.items ∷ []
took_one a b place body one =
    ap (λ l. came_at l place) one.set ∙ ap (λ o. came_in o) (get_set a place one.before one.after one.there)
    ∙ ap contents_of one.becomes.came ∙ map-append (λ (v : Vec ℕ). v.items) (received one.before.from) (body ∷ [])
    ∙ ap (λ o. came_in o ++ body.items ∷ []) (sym one.there)

pub came_now : (a b : List HostLine) (place : ℕ) (body : Vec ℕ) → OneLine place (LineGoes (body ∷ []) []) a b →
    Among body.items (came_at b place)
came_now a b place body one =
    subst (λ l. Among body.items l) (sym (took_one a b place body one))
    (among-right body.items (came_at a place) (body.items ∷ []) (inl refl))

took_on : (a b : List HostLine) (place : ℕ) (body : Vec ℕ) → OneLine place (LineGoes (body ∷ []) []) a b → CameOn a b
took_on a b place body one n = go (n == place) refl
  where
    go : (c : Bool) → (n == place) ≡ c → IsPrefix (came_at a n) (came_at b n)
    go true e =
        subst (λ k. IsPrefix (came_at a k) (came_at b k)) (sym (eqb-true n place e))
        (body.items ∷ [], sym (took_one a b place body one))
    go false e =
        let other : n ≡ place → ⊥ = λ same. (let t = eq-eqb n place same in (cc)) in
        prefix-same (came_at a n) (came_at b n) (sym (ap (λ l. came_at l n) one.set
        ∙ ap (λ o. came_in o) (get_set_other a place n one.after other)))

-- ---- the moves of a switch

pub moved_on : (a b : Seen) → Moves a b → CameOn a.lines b.lines
moved_on a b (goes.Acts meets) n =
    prefix-same (came_at a.lines n) (came_at b.lines n) (sym (lines_came meets.pushed a.lines b.lines meets.lines n))
moved_on a b (goes.Hears taken place body said takes is meets) n =
    subst (λ l. IsPrefix (came_at a.lines n) l) (sym (lines_came meets.pushed taken.lines b.lines meets.lines n))
    (took_on a.lines taken.lines place body takes.lines n)
moved_on a b (goes.Drops place body takes) n = took_on a.lines b.lines place body takes.lines n
moved_on a b (goes.Closes place cause closes) n =
    prefix-same (came_at a.lines n) (came_at b.lines n) (sym (closed_came a.lines b.lines place closes.lines n))
moved_on a b (goes.Names begun place generation may begins names) n =
    prefix-same (came_at a.lines n) (came_at b.lines n)
    (sym (named_came begun.lines b.lines place generation names.lines n
    ∙ lines_came begins.meets.pushed a.lines begun.lines begins.meets.lines n))

pub came_on : (a b : Seen) → Goes a b → CameOn a.lines b.lines
came_on a b goes.Rests n = prefix-refl (came_at a.lines n)
came_on a b (goes.Next {mid = mid} new before move) n =
    prefix-trans (came_at a.lines n) (came_at mid.lines n) (came_at new.lines n) (came_on a mid before n) (moved_on mid new move n)

-- what came before the body that was heard stays
pub body_on : (passed : List Passed) (place : ℕ) (body : List ℕ) (taken new : Seen) → HearsBody passed place body taken new →
    CameOn taken.lines new.lines
body_on passed place body taken new heard n = elim heard [
  | inl g ↦ came_on taken new g.way n
  | inr h ↦ subst (λ l. IsPrefix l (came_at new.lines n))
      (lines_came h.2.meets.meets.pushed taken.lines h.2.met.lines h.2.meets.meets.lines n)
      (came_on h.2.met new h.2.goes.way n)
]

-- one body more has come, if anything was heard
pub came_more : (place : ℕ) (rooms : List Bool) (body : Option (Vec ℕ)) (old taken new : Seen) (heard : BodyOutcome) →
    NextSo place body old taken → HeedsNext place rooms body taken new heard → CameOn taken.lines new.lines →
    (heard ≡ Nothing → ⊥) → length (came_at old.lines place) < length (came_at new.lines place)
came_more place rooms None old taken new heard next heeds on some = absurd (some heeds.1)
came_more place rooms (Some body) old taken new heard next heeds on some =
    let one = ap length (took_one old.lines taken.lines place body next.lines)
    ∙ length-append (came_at old.lines place) (body.items ∷ []) in
    let more = prefix-length (came_at taken.lines place) (came_at new.lines place) (on place) in
    omega (arith, one, more)

-- ---- how many places there are

none_past : (xs : List HostLine) (n : ℕ) → slice_get xs n ≡ None → length xs ≤ n
none_past [] n e = omega arith
none_past (x ∷ xs) zero e = absurd (cc)
none_past (x ∷ xs) (suc n) e = let k = none_past xs n e in omega (arith, k)

place_none : (frames : List (Vec ℕ)) (a b : Option HostLine) → PlaceGoes frames a b → a ≡ None → b ≡ None
place_none frames None None p e = refl
place_none frames (Some a) (Some b) p e = absurd (cc)
place_none frames None (Some b) p e = absurd p
place_none frames (Some a) None p e = absurd p

none_place : (frames : List (Vec ℕ)) (a b : Option HostLine) → PlaceGoes frames a b → b ≡ None → a ≡ None
none_place frames None None p e = refl
none_place frames (Some a) (Some b) p e = absurd (cc)
none_place frames None (Some b) p e = absurd p
none_place frames (Some a) None p e = absurd p

pub lines_many : (pushed : List Pushed) (a b : List HostLine) → LinesGo pushed a b → length b ≡ length a
lines_many pushed a b goes =
    let m = length a in
    let n = length b in
    let p = none_past b m (place_none (pushed_to m pushed) (slice_get a m) (slice_get b m) (goes.each m)
    (slice_get_past a m (le_refl m))) in
    let q = none_past a n (none_place (pushed_to n pushed) (slice_get a n) (slice_get b n) (goes.each n)
    (slice_get_past b n (le_refl n))) in
    omega (arith, p, q)

set_many : (xs : List HostLine) (n : ℕ) (y : HostLine) → length (slice_set xs n y) ≡ length xs
set_many [] n y = refl
set_many (x ∷ xs) zero y = refl
set_many (x ∷ xs) (suc n) y = ap suc (set_many xs n y)

one_many : (Becomes : HostLine → HostLine → Type 0) (a b : List HostLine) (place : ℕ) → OneLine place Becomes a b →
    length b ≡ length a
one_many Becomes a b place one = ap length one.set ∙ set_many a place one.after

at_many : (Becomes : HostLine → HostLine → Type 0) (a b : List HostLine) (place : ℕ) → AtPlace place Becomes a b →
    length b ≡ length a
at_many Becomes a b place at = elim at [
  | inl one ↦ one_many Becomes a b place one
  | inr none ↦ ap length none.1
]

-- a move adds no place, and takes none away
pub moved_many : (a b : Seen) → Moves a b → length b.lines ≡ length a.lines
moved_many a b (goes.Acts meets) = lines_many meets.pushed a.lines b.lines meets.lines
moved_many a b (goes.Hears taken place body said takes is meets) =
    lines_many meets.pushed taken.lines b.lines meets.lines
    ∙ one_many (LineGoes (body ∷ []) []) a.lines taken.lines place takes.lines
moved_many a b (goes.Drops place body takes) = one_many (LineGoes (body ∷ []) []) a.lines b.lines place takes.lines
moved_many a b (goes.Closes place cause closes) = at_many IsClosed a.lines b.lines place closes.lines
moved_many a b (goes.Names begun place generation may begins names) =
    at_many (IsNamed generation) begun.lines b.lines place names.lines
    ∙ lines_many begins.meets.pushed a.lines begun.lines begins.meets.lines
