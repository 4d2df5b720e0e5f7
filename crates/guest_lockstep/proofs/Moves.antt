-- Moves joined end to end: their steps, their inputs, and where they lead. And what determines an input.
use Rattle.std.proofs.Common.{[], ◌++◌, ◌+◌, ◌∙◌, ◌∷◌, ◌≡◌, ◌≤◌, List, Option, ap, append-nil, arith, subst, suc, sym, ℕ}
use Rattle.event_callbacks.specs.declared.operations.Operation.{Operation}
use Rattle.guest_lockstep.specs.Machine.{Do, Machine, Move, Runs, Take}
use Rattle.guest_lockstep.specs.Reach.{Own, bare, image, inputs, steps, timed}
use Rattle.guest_lockstep.specs.Recorded.{Recorded}
use Rattle.guest_lockstep.specs.declared.input.Input.{Input}
use Rattle.guest_lockstep.specs.declared.input.Input.TheVariants as input
use Rattle.guest_lockstep.specs.declared.timed.Timed.{Timed}

pub steps-append : (xs ys : List Move) → steps (xs ++ ys) ≡ steps xs + steps ys
steps-append [] ys = omega arith
steps-append (Do o ∷ xs) ys = let h = steps-append xs ys in omega arith
steps-append (Take i ∷ xs) ys = steps-append xs ys

pub inputs-append : (c : ℕ) (xs ys : List Move) → inputs c (xs ++ ys) ≡ inputs c xs ++ inputs (c + steps xs) ys
inputs-append c [] ys = let e : c ≡ c + 0 = omega arith in ap (λ k. inputs k ys) e
inputs-append c (Do o ∷ xs) ys =
    let e : suc c + steps xs ≡ c + suc (steps xs) = omega arith in
    inputs-append (suc c) xs ys ∙ ap (λ k. inputs (suc c) xs ++ inputs k ys) e
inputs-append c (Take i ∷ xs) ys = ap (λ es. timed c i ∷ es) (inputs-append c xs ys)

-- one more move
pub inputs-do : (c : ℕ) (ms : List Move) (o : Option Operation) → inputs c (ms ++ Do o ∷ []) ≡ inputs c ms
inputs-do c ms o = inputs-append c ms (Do o ∷ []) ∙ append-nil (inputs c ms)

pub inputs-take : (c : ℕ) (ms : List Move) (i : Input) →
    inputs c (ms ++ Take i ∷ []) ≡ inputs c ms ++ timed (c + steps ms) i ∷ []
inputs-take c ms i = inputs-append c ms (Take i ∷ [])

-- the inputs of moves that begin at a count are at that count or later
pub inputs_at : (c : ℕ) (xs : List Move) (t : Timed) (ts : List Timed) → inputs c xs ≡ t ∷ ts → c ≤ t.count
inputs_at c [] t ts h = (cc)
inputs_at c (Do o ∷ xs) t ts h = let k = inputs_at (suc c) xs t ts h in omega arith
inputs_at c (Take i ∷ xs) t ts h = let k : timed c i ≡ t = (cc) in let l = ap (λ (z : Timed). z.count) k in omega arith

-- ---- runs

pub runs-append : {S : Type 0} (M : Machine S) (s t u : S) (xs ys : List Move) → Runs M s xs t → Runs M t ys u
    → Runs M s (xs ++ ys) u
runs-append M s t u [] ys h k = subst (λ v. Runs M v ys u) (sym h) k
runs-append M s t u (Do o ∷ xs) ys h k = (h.0, h.1, runs-append M h.0 t u xs ys h.2 k)
runs-append M s t u (Take i ∷ xs) ys h k = (h.0, h.1, runs-append M h.0 t u xs ys h.2 k)

pub recorded-append : {S : Type 0} (M : Machine S) (s t u : S) (xs ys : List Move) → Recorded M s xs t →
    Recorded M t ys u → Recorded M s (xs ++ ys) u
recorded-append M s t u [] ys h k = subst (λ v. Recorded M v ys u) (sym h) k
recorded-append M s t u (Do o ∷ xs) ys h k = (h.0, h.1, recorded-append M h.0 t u xs ys h.2 k)
recorded-append M s t u (Take i ∷ xs) ys h k = (h.0, h.1, recorded-append M h.0 t u xs ys h.2 k)

-- a recorded run is a run
pub recorded-runs : {S : Type 0} (M : Machine S) (s t : S) (xs : List Move) → Recorded M s xs t → Runs M s xs t
recorded-runs M s t [] h = h
recorded-runs M s t (Do o ∷ xs) h = (h.0, h.1, recorded-runs M h.0 t xs h.2)
recorded-runs M s t (Take i ∷ xs) h = (h.0, h.1.taken, recorded-runs M h.0 t xs h.2)

-- ---- one input

-- what the log carries of an input, and the machine's own disk, determine the input
pub own_once : {S : Type 0} (M : Machine S) (before : List Move) (s : S) (i j : Input) → Own M before s i →
    Own M before s j → bare i ≡ bare j → i ≡ j
own_once M before s (input.Rx p b) (input.Rx q c) h k e = (cc)
own_once M before s (input.Sent p) (input.Sent q) h k e = (cc)
own_once M before s (input.Written m) (input.Written n) h k e = (cc)
own_once M before s (input.Sector c q m as') (input.Sector d r n bs) h k e =
    let f : c ≡ d = (cc) in
    let g : q ≡ r = (cc) in
    let a : M.address s c q ≡ M.address s d r = ap (λ z. M.address s z q) f ∙ ap (M.address s d) g in
    let n_is : m ≡ n = sym h.0 ∙ ap (M.done s) a ∙ k.0 in
    let b_is : as' ≡ bs = sym h.1 ∙ ap (image M before) a ∙ k.1 in
    λ x. input.Sector (f x) (g x) (n_is x) (b_is x)
own_once M before s i j h k e = (cc)
