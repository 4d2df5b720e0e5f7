-- Steps that give nothing: the moves that they are, and what these leave as it was.
use Rattle.std.proofs.Common.{◌≡◌, ℕ, suc, ◌+◌, List, [], ◌∷◌, ◌++◌, sym, refl, ap, ◌∙◌, subst, arith, Bool, true, false, cond, is_none, Option, Some, None, append-nil, append_assoc}
use Rattle.pair_rule.proofs.Words.{Begin, Counts, Do, Entry, Idle, Logged, Machine, More, Move, Note, OpId, Operation, Quiet, Recorded, Spent, Take, entries, entries-append, entry_of, inputs, inputs-append, marks, notes_after, notes_from, recorded-append, steps, steps-append}
use Rattle.guest_lockstep.specs.Outstanding.{ComesAndGoes}

-- ---- what operations wait for, after more moves

pub notes_more : (c : ℕ) (log : List Entry) (ns : List Note) (xs ys : List Move)
    → notes_from c log ns (xs ++ ys)
    ≡ notes_from (c + steps xs) (log ++ entries Logged c xs) (notes_from c log ns xs) ys
notes_more c log ns [] ys = λ i. notes_from (let e : c ≡ c + 0 = omega arith in e i) (sym (append-nil log) i) ns ys
notes_more c log ns (Do o ∷ xs) ys = notes_more (suc c) (log ++ marks (suc c) o) (notes_after ns log o) xs ys
    ∙ (λ i. notes_from (let e : suc c + steps xs ≡ c + suc (steps xs) = omega arith in e i)
    (append_assoc log (marks (suc c) o) (entries Logged (suc c) xs) i)
    (notes_from (suc c) (log ++ marks (suc c) o) (notes_after ns log o) xs) ys)
notes_more c log ns (Take x ∷ xs) ys = notes_more c (log ++ entry_of Logged c x ∷ []) ns xs ys
    ∙ (λ i. notes_from (c + steps xs) (append_assoc log (entry_of Logged c x ∷ []) (entries Logged c xs) i)
    (notes_from c (log ++ entry_of Logged c x ∷ []) ns xs) ys)

-- ---- quiet steps

pub record QuietMoves {S : Type 0} (M : Machine S) (s : S) (n : ℕ) (t : S) : Type 0 where
  pub moves : List Move
  pub recorded : Recorded M s moves t
  pub silent : (c : ℕ) → entries Logged c moves ≡ []
  pub count : steps moves ≡ n
  pub notes : (c : ℕ) (log : List Entry) (ns : List Note) → notes_from c log ns moves ≡ ns
  pub bare : (c : ℕ) → inputs c moves ≡ []

pub quiet_moves : {S : Type 0} (M : Machine S) (s : S) (n : ℕ) (t : S) → Quiet M s n t → QuietMoves M s n t
quiet_moves M s n t Begin = record {
  moves = [];
  recorded = refl;
  silent = λ c. refl;
  count = refl;
  notes = λ c log ns. refl;
  bare = λ c. refl;
}
quiet_moves M s m u (More {n = n} {t = t} q free step) = let r = quiet_moves M s n t q in record {
  moves = r.moves ++ Do None ∷ [];
  recorded = recorded-append M s t u r.moves (Do None ∷ []) r.recorded (u, step, refl);
  silent = λ c. entries-append Logged c r.moves (Do None ∷ []) ∙ ap (λ l. l ++ []) (r.silent c);
  count = steps-append r.moves (Do None ∷ []) ∙ (let e = r.count in omega arith);
  notes = λ c log ns. notes_more c log ns r.moves (Do None ∷ []) ∙ r.notes c log ns;
  bare = λ c. inputs-append c r.moves (Do None ∷ []) ∙ ap (λ l. l ++ []) (r.bare c);
}

pub quiet_count : {S : Type 0} (M : Machine S) → Counts M → (s : S) (n : ℕ) (t : S) → Quiet M s n t → M.count t ≡ M.count s + n
quiet_count M counts s n t Begin = (let e : M.count s ≡ M.count s + 0 = omega arith in e)
quiet_count M counts s m u (More {n = n} {t = t} q free step) = let a = quiet_count M counts s n t q in let b =
    counts.by_step t u None step in omega arith

-- where quiet steps lead to a state that steps, the first state steps
pub quiet_first : {S : Type 0} (M : Machine S) (s : S) (n : ℕ) (t : S) (x : S × Option Operation) → Quiet M s n t
    → M.step t ≡ Some x → (y : S × Option Operation) × (M.step s ≡ Some y)
quiet_first M s n t x Begin e = (x, e)
quiet_first M s m u x (More {n = n} {t = t} q free step) e = quiet_first M s n t (u, None) q step

not_refused : {A : Type 0} (spent : Bool) (step : Option A) (u : A) → (spent ≡ true → step ≡ None) → step ≡ Some u
    → cond spent (Some Spent) (cond (is_none step) (Some Idle) None) ≡ None
not_refused true step u = λ none made. let e = none refl in absurd cc
not_refused false None u = λ none made. absurd cc
not_refused false (Some v) u = λ none made. refl

-- moves without an entry are quiet steps
quiet_from : {S : Type 0} (M : Machine S) → Counts M → (s a t : S) (n c : ℕ) (moves : List Move) → Quiet M s n a
    → Recorded M a moves t → entries Logged c moves ≡ [] → (m : ℕ) × Quiet M s m t
quiet_from M counts s a t n c [] q r = λ e. (n, subst (λ t. Quiet M s n t) r q)
quiet_from M counts s a t n c (Do None ∷ moves) q r =
    λ e. quiet_from M counts s r.0 t (suc n) (suc c) moves
    (More q (not_refused (M.is_spent a) (M.step a) (r.0, None) (counts.spent a) r.1) r.1) r.2 e
quiet_from M counts s a t n c (Do (Some o) ∷ moves) q r = λ e. absurd cc
quiet_from M counts s a t n c (Take i ∷ moves) q r = λ e. absurd cc

pub are_quiet : {S : Type 0} (M : Machine S) → Counts M → (s t : S) (c : ℕ) (moves : List Move) → Recorded M s moves t
    → entries Logged c moves ≡ [] → (m : ℕ) × Quiet M s m t
are_quiet M counts s t c moves r e = quiet_from M counts s s t 0 c moves Begin r e

-- and leave the notes
pub silent_notes : (c d : ℕ) (log : List Entry) (ns : List Note) (moves : List Move) → entries Logged c moves ≡ []
    → notes_from d log ns moves ≡ ns
silent_notes c d log ns [] e = refl
silent_notes c d log ns (Do None ∷ moves) e = silent_notes (suc c) (suc d) (log ++ []) ns moves e
silent_notes c d log ns (Do (Some o) ∷ moves) e = absurd cc
silent_notes c d log ns (Take i ∷ moves) e = absurd cc

-- what is outstanding stays so
pub quiet_finds : {S : Type 0} (M : Machine S) → ComesAndGoes M → (s : S) (n : ℕ) (t : S) (name : OpId) → Quiet M s n t
    → M.find t name ≡ M.find s name
quiet_finds M operations s n t name Begin = refl
quiet_finds M operations s m u name (More {n = n} {t = t} q free step) =
    operations.quiet t u step name ∙ quiet_finds M operations s n t name q
