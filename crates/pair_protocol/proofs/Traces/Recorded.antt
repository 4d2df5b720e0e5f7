-- Recorded runs, each of whose inputs was accepted. Such a run is a run; a prefix of it is recorded too, and so is what
-- follows a prefix; and one more move after it makes another recorded run, if an input there is also accepted.
use Rattle.std.proofs.Common.{[], ◌++◌, ◌∷◌, ◌≡◌, List, Option, ap, refl, subst, sym}
use Rattle.pair_protocol.proofs.Words.{Do, Input, IsPrefix, Machine, Move, Operation, Recorded, Runs, Take}
pub use Rattle.guest_lockstep.proofs.Moves.{recorded-append, recorded-runs}
use Rattle.guest_lockstep.specs.Recorded.{Accepts}
use Rattle.pair_protocol.proofs.Traces.Lists.{same_some}
use Rattle.pair_protocol.proofs.Traces.Moves.{runs-rest}

module _ {S : Type 0} (M : Machine S) where
  recorded-front : (s u : S) (xs ys : List Move) → Recorded M s (xs ++ ys) u → (t : S) × Recorded M s xs t
  recorded-front s u [] ys h = (s, refl)
  recorded-front s u (Do o ∷ xs) ys h = let r = recorded-front h.0 u xs ys h.2 in (r.0, (h.0, h.1, r.1))
  recorded-front s u (Take i ∷ xs) ys h = let r = recorded-front h.0 u xs ys h.2 in (r.0, (h.0, h.1, r.1))

  pub recorded-prefix : (s t : S) (xs ys : List Move) → IsPrefix xs ys → Recorded M s ys t → (u : S) × Recorded M s xs u
  recorded-prefix s t xs ys h k = recorded-front s t xs h.0 (subst (λ zs. Recorded M s zs t) (sym h.1) k)

  -- from any state, moves lead to one state only
  pub recorded-rest : (s t u : S) (xs ys : List Move) → Runs M s xs t → Recorded M s (xs ++ ys) u → Recorded M t ys u
  recorded-rest s t u [] ys h k = subst (λ v. Recorded M v ys u) h k
  recorded-rest s t u (Do o ∷ xs) ys h k =
      let e : h.0 ≡ k.0 = ap (λ (p : S × Option Operation). p.0) (same_some (h.0, o) (k.0, o) (M.step s) h.1 k.1) in
      recorded-rest h.0 t u xs ys h.2 (subst (λ v. Recorded M v (xs ++ ys) u) (sym e) k.2)
  recorded-rest s t u (Take i ∷ xs) ys h k =
      let e : h.0 ≡ k.0 = same_some h.0 k.0 (M.take s i) h.1 k.1.taken in
      recorded-rest h.0 t u xs ys h.2 (subst (λ v. Recorded M v (xs ++ ys) u) (sym e) k.2)

-- one more move
pub recorded-does : {S : Type 0} (M : Machine S) (s t u : S) (xs : List Move) (o : Option Operation) →
    Recorded M s xs t → Runs M s (xs ++ Do o ∷ []) u → Recorded M s (xs ++ Do o ∷ []) u
recorded-does M s t u xs o h k = recorded-append M s t u xs (Do o ∷ []) h
    (runs-rest M s t u xs (Do o ∷ []) (recorded-runs M s t xs h) k)

pub recorded-takes : {S : Type 0} (M : Machine S) (s t u : S) (xs : List Move) (i : Input) → Recorded M s xs t →
    Accepts M t i u → Recorded M s (xs ++ Take i ∷ []) u
recorded-takes M s t u xs i h k = recorded-append M s t u xs (Take i ∷ []) h (u, k, refl)
