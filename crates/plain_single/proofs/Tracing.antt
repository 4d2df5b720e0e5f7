-- If the inputs of a list lead to a count, the trace of the first of them is a prefix of that trace: it does not end short
-- of the next input or of the count, and no input is refused or left.
use Rattle.std.proofs.Common.{◌≡◌, ℕ, suc, ◌+◌, ◌<◌, ◌≤◌, List, [], ◌∷◌, ◌++◌, Option, None, Some, Bool, true, false, refl, sym, ap, ◌∙◌, subst, arith, inl, inr}
use Rattle.std.proofs.lemmas.Option.{none-some, same_Some}
use Rattle.event_callbacks.specs.declared.operations.Operation.{Operation}
use Rattle.i8080_words.specs.declared.refusal.Fault.{Fault}
use Rattle.i8080_words.specs.declared.refusal.Fault.TheVariants as faults
use Rattle.guest_parts.specs.Guest.{Guest}
use Rattle.guest_lockstep.specs.Machine.{Machine, Move, Do, Take, Runs}
use Rattle.guest_lockstep.specs.declared.input.Input.{Input}
use Rattle.guest_lockstep.specs.declared.input.Input.TheVariants as input
use Rattle.guest_lockstep.specs.Reach.{Owns, Reach, bare, inputs, steps, timed}
use Rattle.plain_single.specs.Reaching.{Fails, LeavesInput, MeetsRefused, StopsShort, next_count}
use Rattle.guest_lockstep.specs.declared.timed.Timed.{Timed}
use Rattle.guest_lockstep.proofs.Moves.{inputs_at, own_once}

-- ---- one step, one input

-- ---- counts

-- what is left does not begin before this count
abbrev Late : ℕ → List Timed → Type 0
Late n [] = Unit {0}
Late n (t ∷ ts) = n ≤ t.count

same_count : (t u : Timed) → t ≡ u → t.count ≡ u.count
same_count t u e = ap (λ (z : Timed). z.count) e

too_late : (c : ℕ) (xs : List Move) (t : Timed) (ts : List Timed) → t.count ≤ c → inputs (suc c) xs ≡ t ∷ ts → ⊥
too_late c xs t ts e h = let k = inputs_at (suc c) xs t ts h in omega arith

first_late : (c n : ℕ) (xs : List Move) (rest : List Timed) (t : Timed) (ts : List Timed)
    → c + steps xs ≡ n → Late n rest → inputs c xs ++ rest ≡ t ∷ ts → c ≤ t.count
first_late c n [] [] t ts at late e = (cc)
first_late c n [] (x ∷ rest) t ts at late e =
    let k : x ≡ t = (cc) in let l = same_count x t k in omega arith
first_late c n (Do o ∷ xs) rest t ts at late e =
    let next : suc c + steps xs ≡ n = omega arith in
    let r = first_late (suc c) n xs rest t ts next late e in omega arith
first_late c n (Take i ∷ xs) rest t ts at late e =
    let k : timed c i ≡ t = (cc) in let l = same_count (timed c i) t k in omega arith

-- no input of a trace is past its end
within : (c : ℕ) (xs : List Move) (before : List Timed) (t : Timed) (after : List Timed)
    → inputs c xs ≡ before ++ t ∷ after → t.count ≤ c + steps xs
within c [] [] t after e = (cc)
within c [] (b ∷ before) t after e = (cc)
within c (Do o ∷ xs) before t after e = let r = within (suc c) xs before t after e in omega arith
within c (Take i ∷ xs) [] t after e =
    let k : timed c i ≡ t = (cc) in let l = same_count (timed c i) t k in omega arith
within c (Take i ∷ xs) (b ∷ before) t after e = within c xs before t after (cc)

-- ---- the shorter trace

-- what is left of a trace, from the state and the count where a shorter one ends
record IsRest {S : Type 0} (M : Machine S) (t u : S) (count : ℕ) (rest : List Timed) (some all : ℕ) : Type 0 where
  moves : List Move
  runs : Runs M t moves u
  inputs_are : inputs count moves ≡ rest
  steps_are : steps moves + some ≡ all

one_more : {S : Type 0} (M : Machine S) (t u : S) (count : ℕ) (rest : List Timed) (some all : ℕ)
    → IsRest M t u count rest some all → IsRest M t u count rest (suc some) (suc all)
one_more M t u count rest some all x = record {
  moves = x.moves;
  runs = x.runs;
  inputs_are = x.inputs_are;
  steps_are = (let e = x.steps_are in omega (arith, e));
}

rest_of : {S : Type 0} (M : Machine S) (before : List Move) (s t u : S) (c n : ℕ) (xs ys : List Move) (rest : List Timed)
    → Runs M s xs t → Runs M s ys u → Owns M before s xs → Owns M before s ys
    → inputs c ys ≡ inputs c xs ++ rest → c + steps xs ≡ n → Late n rest → steps xs ≤ steps ys
    → IsRest M t u n rest (steps xs) (steps ys)
rest_of M before s t u c n [] ys rest h k o p e at late few =
    let same : n ≡ c = omega arith in
    record {
      moves = ys;
      runs = subst (λ v. Runs M v ys u) h k;
      inputs_are = ap (λ m. inputs m ys) same ∙ e;
      steps_are = omega arith;
    }
rest_of M before s t u c n (Do a ∷ xs) [] rest h k o p e at late few = absurd (omega arith)
rest_of {S} M before s t u c n (Do a ∷ xs) (Do b ∷ ys) rest h k o p e at late few =
    let q : ◌≡◌ {A = S × Option Operation} (h.0, a) (k.0, b) = same_Some (h.0, a) (k.0, b) (sym h.1 ∙ k.1) in
    let v : h.0 ≡ k.0 = ap (λ (z : S × Option Operation). z.0) q in
    let w : a ≡ b = ap (λ (z : S × Option Operation). z.1) q in
    let next : suc c + steps xs ≡ n = omega arith in
    let fewer : steps xs ≤ steps ys = omega arith in
    one_more M t u n rest (steps xs) (steps ys)
    (rest_of M (before ++ Do a ∷ []) k.0 t u (suc c) n xs ys rest (subst (λ z. Runs M z xs t) v h.2) k.2
    (o k.0 (h.1 ∙ ap (λ z. Some (z, a)) v))
    (subst (λ z. Owns M (before ++ Do z ∷ []) k.0 ys) (sym w) (p k.0 k.1)) e next late fewer)
rest_of M before s t u c n (Do a ∷ xs) (Take j ∷ ys) rest h k o p e at late few =
    let next : suc c + steps xs ≡ n = omega arith in
    let early = first_late (suc c) n xs rest (timed c j) (inputs c ys) next late (sym e) in
    absurd (omega arith)
rest_of M before s t u c n (Take i ∷ xs) [] rest h k o p e at late few = (cc)
rest_of M before s t u c n (Take i ∷ xs) (Do b ∷ ys) rest h k o p e at late few =
    absurd (too_late c ys (timed c i) (inputs c xs ++ rest) (omega arith) e)
rest_of M before s t u c n (Take i ∷ xs) (Take j ∷ ys) rest h k o p e at late few =
    let g : timed c i ≡ timed c j = (cc) in
    let tail : inputs c ys ≡ inputs c xs ++ rest = (cc) in
    let w : i ≡ j = own_once M before s i j o.0 p.0 (ap (λ (z : Timed). z.input) g) in
    let taken : M.take s i ≡ Some k.0 = ap (M.take s) w ∙ k.1 in
    let v : h.0 ≡ k.0 = same_Some h.0 k.0 (sym h.1 ∙ taken) in
    rest_of M (before ++ Take i ∷ []) k.0 t u c n xs ys rest (subst (λ z. Runs M z xs t) v h.2) k.2
    (o.1 k.0 taken)
    (subst (λ z. Owns M (before ++ Take z ∷ []) k.0 ys) (sym w) (p.1 k.0 k.1)) tail at late few

-- the trace of the first inputs of a list ends within that of all of them
within_reach : {S : Type 0} (M : Machine S) (list before rest : List Timed) (count at : ℕ) (moves others : List Move)
    → (x : Reach M list count moves) → (y : Reach M before at others) → before ++ rest ≡ list → Late at rest → at ≤ count
    → IsRest M y.last x.last at rest (steps others) (steps moves)
within_reach M list before rest count at moves others x y split late early =
    let few : steps others ≤ steps moves = (let e = x.count_is in let f = y.count_is in omega arith) in
    let ends : 0 + steps others ≡ at = (let f = y.count_is in omega arith) in
    rest_of M [] M.boot y.last x.last 0 at others moves rest y.runs x.runs y.owns x.owns
    (x.list_is ∙ sym split ∙ ap (λ ts. ts ++ rest) (sym y.list_is)) ends late few

-- ---- no refusal

stuck_nowhere : {S : Type 0} (M : Machine S) (t u : S) (at count : ℕ) (rest : List Timed) (zs : List Move)
    → Runs M t zs u → inputs at zs ≡ rest → steps zs + at ≡ count → at < next_count count rest → M.step t ≡ None → ⊥
stuck_nowhere M t u at count [] [] h e n early stuck = omega arith
stuck_nowhere M t u at count (r ∷ rest) [] h e n early stuck = (cc)
stuck_nowhere M t u at count rest (Do a ∷ zs) h e n early stuck = none-some (h.0, a) (sym stuck ∙ h.1)
stuck_nowhere M t u at count [] (Take i ∷ zs) h e n early stuck = (cc)
stuck_nowhere M t u at count (r ∷ rest) (Take i ∷ zs) h e n early stuck =
    let k : timed at i ≡ r = (cc) in let l = same_count (timed at i) r k in omega arith

late_next : (at count : ℕ) (rest : List Timed) → at < next_count count rest → Late at rest
late_next at count [] early = tt
late_next at count (r ∷ rest) early = omega arith

early_next : (at count : ℕ) (rest : List Timed) → at < next_count count rest → at ≤ count
early_next at count [] early = omega arith
early_next at count (r ∷ rest) early = omega arith

never_short : (M : Machine Guest) (list : List Timed) (count : ℕ) (is_spent : Bool) (moves : List Move)
    → Reach M list count moves → StopsShort M list count is_spent → ⊥
never_short M list count is_spent moves x y =
    let z = y.ends.stops in
    let r = within_reach M list y.before y.rest count z.at moves z.moves x z.reach y.split
    (late_next z.at count y.rest z.early) (early_next z.at count y.rest z.early) in
    let all : steps r.moves + z.at ≡ count =
    (let e = r.steps_are in let f = x.count_is in let g = z.reach.count_is in omega arith) in
    stuck_nowhere M z.reach.last x.last z.at count y.rest r.moves r.runs r.inputs_are all z.early z.stuck

taken_or_later : (M : Machine Guest) (t u : Guest) (c : Timed) (after : List Timed) (zs : List Move)
    → Runs M t zs u → inputs c.count zs ≡ c ∷ after
    → ((i : Input) → bare i ≡ c.input → M.take t i ≡ None) → ⊥
taken_or_later M t u c after [] h e untaken = (cc)
taken_or_later M t u c after (Do a ∷ zs) h e untaken = too_late c.count zs c after (omega arith) e
taken_or_later M t u c after (Take i ∷ zs) h e untaken =
    let k : timed c.count i ≡ c = (cc) in
    none-some h.0 (sym (untaken i (ap (λ (z : Timed). z.input) k)) ∙ h.1)

never_refused : (M : Machine Guest) (list : List Timed) (count : ℕ) (fault : Fault) (moves : List Move)
    → Reach M list count moves → MeetsRefused M list count fault → ⊥
never_refused M list count fault moves x y =
    let r = within_reach M list y.before (y.input ∷ y.after) count y.input.count moves y.moves x y.reach y.split
    (omega arith) y.due in
    taken_or_later M y.reach.last x.last y.input y.after r.moves r.runs r.inputs_are y.refused.untaken

never_left : (M : Machine Guest) (list : List Timed) (count : ℕ) (moves : List Move)
    → Reach M list count moves → LeavesInput M list count → ⊥
never_left M list count moves x y =
    let k = within 0 moves y.before y.input y.after (x.list_is ∙ sym y.split) in
    let n = x.count_is in let l = y.late in omega arith

-- so a run fails there only when out of memory
pub only_memory : (M : Machine Guest) (list : List Timed) (count : ℕ) (moves : List Move) (fault : Fault)
    → Reach M list count moves → Fails M list count fault → fault ≡ faults.OutOfMemory
only_memory M list count moves faults.OutOfMemory x y = refl
only_memory M list count moves faults.Spent x y = absurd (never_short M list count true moves x y)
only_memory M list count moves faults.LogFull x y = absurd y
only_memory M list count moves faults.NotDue x y = absurd (never_refused M list count faults.NotDue moves x y)
only_memory M list count moves faults.WrongNumber x y = absurd y
only_memory M list count moves faults.StaleRead x y = absurd y
only_memory M list count moves faults.SectorBusy x y = absurd (never_refused M list count faults.SectorBusy moves x y)
only_memory M list count moves faults.WrongRole x y = absurd y
only_memory M list count moves faults.WrongGeneration x y = absurd y
only_memory M list count moves faults.Malformed x y = absurd y
only_memory M list count moves faults.NotWhole x y = absurd y
only_memory M list count moves faults.NotCovered x y = absurd y
only_memory M list count moves faults.DeviceFault x y = absurd y
only_memory M list count moves faults.Lost x y = absurd y
only_memory M list count moves faults.Unknown x y = absurd y
only_memory M list count moves faults.BadAck x y = absurd y
only_memory M list count moves faults.Stalled x y = absurd y
only_memory M list count moves faults.Idle x (inl y) = absurd (never_short M list count false moves x y)
only_memory M list count moves faults.Idle x (inr y) = absurd (never_left M list count moves x y)
only_memory M list count moves (faults.BadScript line) x y = absurd y
