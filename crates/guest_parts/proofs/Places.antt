-- Writes that go to places. The test takes one write and one place after another; if it holds, the writes are those of
-- the places, and are in order of number as the places are.
use Rattle.std.proofs.Common.{◌≡◌, ◌≢◌, ℕ, zero, suc, ◌+◌, ◌<◌, Bool, true, false, ◌==◌, ◌&&◌, List, [], ◌∷◌, ◌++◌, length, map, take, get_or, refl, sym, ap, subst, ◌∙◌, arith}
use Rattle.std.specs.Prelude.{slice_index_or, AllPairs}
use Rattle.std.proofs.lemmas.Bool.{and_parts, eqb-true}
use Rattle.std.proofs.lemmas.List.{take_more, length-take-le, get_or-map, length-map}
use Rattle.disk_dcdd.specs.Controller.{Follows}
use Rattle.disk_dcdd.specs.Sector.{place_of}
use Rattle.disk_dcdd.specs.declared.sector.Place.{Place}
use Rattle.disk_dcdd.specs.declared.sector.SectorWrite.{SectorWrite}
use Rattle.guest_parts.specs.Parts.{Rise, goes_to, go_to}

-- ---- writes and places

goes_there : (w : SectorWrite) (place : Place) → goes_to w place ≡ true → place_of w ≡ place
goes_there w place e =
    let three = and_parts (w.number == place.number && w.drive == place.drive && w.track == place.track)
    (w.sector == place.sector) e in
    let two = and_parts (w.number == place.number && w.drive == place.drive) (w.track == place.track) three.0 in
    let one = and_parts (w.number == place.number) (w.drive == place.drive) two.0 in
    rw (
      eqb-true w.number place.number one.0,
      eqb-true w.drive place.drive one.1,
      eqb-true w.track place.track two.1,
      eqb-true w.sector place.sector three.1,
    ) refl

-- writes that go to places are the writes of those places
pub go_there : (ws : List SectorWrite) (places : List Place) → go_to ws places ≡ true → map place_of ws ≡ places
go_there [] [] e = refl
go_there [] (place ∷ places) e = cc
go_there (w ∷ ws) [] e = cc
go_there (w ∷ ws) (place ∷ places) e =
    let h = and_parts (goes_to w place) (go_to ws places) e in
    ap (λ (x : Place). x ∷ map place_of ws) (goes_there w place h.0)
    ∙ ap (λ (xs : List Place). place ∷ xs) (go_there ws places h.1)

pub go_to-append : (xs : List SectorWrite) (ps : List Place) (w : SectorWrite) (place : Place) → length xs ≡ length ps
    → go_to (xs ++ w ∷ []) (ps ++ place ∷ []) ≡ (go_to xs ps && goes_to w place)
go_to-append [] [] w place e = and_true (goes_to w place)
  where
    and_true : (b : Bool) → (b && true) ≡ b
    and_true true = refl
    and_true false = refl
go_to-append [] (p ∷ ps) w place e = absurd (omega (arith, e))
go_to-append (x ∷ xs) [] w place e = absurd (omega (arith, e))
go_to-append (x ∷ xs) (p ∷ ps) w place e =
    ap (λ b. goes_to x p && b) (go_to-append xs ps w place (omega (arith, e)))
    ∙ regroup (goes_to x p) (go_to xs ps) (goes_to w place)
  where
    regroup : (a b c : Bool) → (a && (b && c)) ≡ ((a && b) && c)
    regroup true b c = refl
    regroup false b c = refl

pub go_to-more : (ws : List SectorWrite) (ps : List Place) (i : ℕ) (d : SectorWrite) (e : Place) → i < length ws
    → length ws ≡ length ps → go_to (take i ws) (take i ps) ≡ true → goes_to (get_or ws i d) (get_or ps i e) ≡ true
    → go_to (take (i + 1) ws) (take (i + 1) ps) ≡ true
go_to-more ws ps i d e inside same before here =
    ap (λ (xs : List SectorWrite). go_to xs (take (i + 1) ps)) (take_more ws i d inside)
    ∙ ap (go_to (take i ws ++ get_or ws i d ∷ [])) (take_more ps i e (omega (arith, inside, same)))
    ∙ go_to-append (take i ws) (take i ps) (get_or ws i d) (get_or ps i e)
    (length-take-le i ws (omega (arith, inside)) ∙ sym (length-take-le i ps (omega (arith, inside, same))))
    ∙ ap (λ b. b && goes_to (get_or ws i d) (get_or ps i e)) before ∙ here

pub go_to-not_at : (ws : List SectorWrite) (ps : List Place) (i : ℕ) (d : SectorWrite) (e : Place) → i < length ws
    → length ws ≡ length ps → goes_to (get_or ws i d) (get_or ps i e) ≡ false → go_to ws ps ≡ false
go_to-not_at [] ps i d e inside same wrong = absurd (omega (arith, inside))
go_to-not_at (w ∷ ws) [] i d e inside same wrong = refl
go_to-not_at (w ∷ ws) (p ∷ ps) zero d e inside same wrong = ap (λ b. b && go_to ws ps) wrong
go_to-not_at (w ∷ ws) (p ∷ ps) (suc i) d e inside same wrong =
    ap (λ b. goes_to w p && b) (go_to-not_at ws ps i d e (omega (arith, inside)) (omega (arith, same)) wrong)
    ∙ and_false (goes_to w p)
  where
    and_false : (b : Bool) → (b && false) ≡ false
    and_false true = refl
    and_false false = refl

pub go_to-lengths : (ws : List SectorWrite) (ps : List Place) → length ws ≢ length ps → go_to ws ps ≡ false
go_to-lengths [] [] differs = absurd (differs refl)
go_to-lengths [] (p ∷ ps) differs = refl
go_to-lengths (w ∷ ws) [] differs = refl
go_to-lengths (w ∷ ws) (p ∷ ps) differs =
    ap (λ b. goes_to w p && b) (go_to-lengths ws ps (λ e. differs (ap (λ n. suc n) e))) ∙ and_false (goes_to w p)
  where
    and_false : (b : Bool) → (b && false) ≡ false
    and_false true = refl
    and_false false = refl

-- the controller's places are in order of number, so the writes are
pub rises : (ws : List SectorWrite) (places : List Place) → map place_of ws ≡ places → AllPairs Follows places → Rise ws
rises ws places e order = λ i j d before inside.
    let there : map place_of ws ≡ places = e in
    let long : j < length places = subst (λ (xs : List Place). j < length xs) e
    (subst (λ n. j < n) (sym (length-map ws place_of)) inside) in
    let less : (slice_index_or places i (place_of d)).number < (slice_index_or places j (place_of d)).number =
    (order i j (place_of d) before long).number in
    let at : (k : ℕ) → k < length ws → (slice_index_or places k (place_of d)).number ≡ (slice_index_or ws k d).number =
    λ k here. ap (λ (xs : List Place). (slice_index_or xs k (place_of d)).number) (sym e)
    ∙ ap (λ (x : Place). x.number) (get_or-map place_of ws k d (place_of d) here) in
    subst (λ n. n < (slice_index_or ws j d).number) (at i (omega (arith, before, inside)))
    (subst (λ n. (slice_index_or places i (place_of d)).number < n) (at j inside) less)
