-- One trace for each list and count: the count says where an input is taken, a step gives what it gives, and the bytes of
-- a sector are those of the machine's own disk. And what the first entries of a trace give.
use Rattle.std.proofs.Common.{[], ◌++◌, ◌∙◌, ◌∷◌, ◌≡◌, ◌≤◌, List, None, Option, Some, ap, append-nil, arith, length, refl, subst, suc, sym, take, zero, ℕ}
use Rattle.pair_protocol.proofs.Words.{Do, Input, Machine, Move, Operation, Owns, Reach, Runs, Take, Timed, cut, entries, inputs, inputs_of, last_count, quiet, steps, timed, Reads}
use Rattle.guest_lockstep.specs.declared.input.Input.TheVariants as input
use Rattle.guest_lockstep.proofs.Moves.{inputs_at, own_once}
use Rattle.pair_protocol.proofs.Traces.Cuts.{cut-prefix, entries-cut, last-cut}
use Rattle.pair_protocol.proofs.Traces.Lists.{same_some}
use Rattle.pair_protocol.proofs.Traces.Moves.{inputs_of-entries, owns-prefix, runs-prefix, runs-rest}

pub one_end : {S : Type 0} (M : Machine S) (s t u : S) (xs : List Move) → Runs M s xs t → Runs M s xs u → t ≡ u
one_end M s t u xs h k = runs-rest M s t u xs [] h (subst (λ zs. Runs M s zs u) (sym (append-nil xs)) k)

too_late : (c : ℕ) (xs : List Move) (i : Input) (ts : List Timed) → inputs (suc c) xs ≡ timed c i ∷ ts → ⊥
too_late c xs i ts h = let k = inputs_at (suc c) xs (timed c i) ts h in omega arith

same_moves : {S : Type 0} (M : Machine S) (before : List Move) (s t u : S) (c : ℕ) (xs ys : List Move) →
    Runs M s xs t → Runs M s ys u → Owns M before s xs → Owns M before s ys → inputs c xs ≡ inputs c ys →
    steps xs ≡ steps ys → xs ≡ ys
same_moves M before s t u c [] [] h k o p e f = refl
same_moves M before s t u c [] (Do b ∷ ys) h k o p e f = absurd (omega arith)
same_moves M before s t u c [] (Take j ∷ ys) h k o p e f = (cc)
same_moves M before s t u c (Do a ∷ xs) [] h k o p e f = absurd (omega arith)
same_moves M before s t u c (Take i ∷ xs) [] h k o p e f = (cc)
same_moves {S} M before s t u c (Do a ∷ xs) (Do b ∷ ys) h k o p e f =
    let q : ◌≡◌ {A = S × Option Operation} (h.0, a) (k.0, b) = same_some (h.0, a) (k.0, b) (M.step s) h.1 k.1 in
    let v : h.0 ≡ k.0 = ap (λ (z : S × Option Operation). z.0) q in
    let w : a ≡ b = ap (λ (z : S × Option Operation). z.1) q in
    let n : steps xs ≡ steps ys = omega arith in
    let r = same_moves M (before ++ Do a ∷ []) k.0 t u (suc c) xs ys (subst (λ z. Runs M z xs t) v h.2) k.2
    (o k.0 (h.1 ∙ ap (λ z. Some (z, a)) v))
    (subst (λ z. Owns M (before ++ Do z ∷ []) k.0 ys) (sym w) (p k.0 k.1)) e n in
    ap (λ z. Do z ∷ xs) w ∙ ap (λ zs. Do b ∷ zs) r
same_moves M before s t u c (Do a ∷ xs) (Take j ∷ ys) h k o p e f = absurd (too_late c xs j (inputs c ys) e)
same_moves M before s t u c (Take i ∷ xs) (Do b ∷ ys) h k o p e f = absurd (too_late c ys i (inputs c xs) (sym e))
same_moves M before s t u c (Take i ∷ xs) (Take j ∷ ys) h k o p e f =
    let g : timed c i ≡ timed c j = (cc) in
    let tail : inputs c xs ≡ inputs c ys = (cc) in
    let w : i ≡ j = own_once M before s i j o.0 p.0 (ap (λ (z : Timed). z.input) g) in
    let taken : M.take s i ≡ Some k.0 = ap (M.take s) w ∙ k.1 in
    let v : h.0 ≡ k.0 = same_some h.0 k.0 (M.take s i) h.1 taken in
    let r = same_moves M (before ++ Take i ∷ []) k.0 t u c xs ys (subst (λ z. Runs M z xs t) v h.2) k.2
    (o.1 k.0 taken)
    (subst (λ z. Owns M (before ++ Take z ∷ []) k.0 ys) (sym w) (p.1 k.0 k.1)) tail f in
    ap (λ z. Take z ∷ xs) w ∙ ap (λ zs. Take j ∷ zs) r

module _ {S : Type 0} (M : Machine S) (list : List Timed) (count : ℕ) where
  pub one_trace : (moves others : List Move) → Reach M list count moves → Reach M list count others → moves ≡ others
  one_trace moves others a b =
      same_moves M [] M.boot a.last b.last 0 moves others a.runs b.runs a.owns b.owns (a.list_is
      ∙ sym b.list_is) (a.count_is ∙ sym b.count_is)

  -- the first entries

  pub first_entries : (reads : Reads) (n : ℕ) (moves : List Move) → Reach M list count moves → n ≤ length (entries reads 0 moves) →
      (entries reads 0 (cut n moves) ≡ take n (entries reads 0 moves)) × Reach M (inputs_of (take n (entries reads 0 moves)))
      (last_count 0 (take n (entries reads 0 moves))) (cut n moves)
  first_entries reads n moves r h =
      let e = entries-cut reads n 0 moves in
      let p = cut-prefix n moves in
      let u = runs-prefix M M.boot r.last (cut n moves) moves p r.runs in (
        e,
        record {
          last = u.0;
          runs = u.1;
          owns = owns-prefix M M.boot (cut n moves) moves p r.owns;
          list_is = sym (inputs_of-entries reads 0 (cut n moves)) ∙ ap inputs_of e;
          count_is = (let k = last-cut reads n 0 moves h in let l = ap (last_count 0) e in omega arith);
        },
      )

-- quiet steps

pub quiet_moves : (reads : Reads) (count : ℕ) (moves : List Move) → entries reads count moves ≡ [] → moves ≡ quiet (steps moves)
quiet_moves reads count [] h = refl
quiet_moves reads count (Do None ∷ moves) h = ap (λ ms. Do None ∷ ms) (quiet_moves reads (suc count) moves h)
quiet_moves reads count (Do (Some o) ∷ moves) h = (cc)
quiet_moves reads count (Take i ∷ moves) h = (cc)

pub quiet_entries : (reads : Reads) (count k : ℕ) → (entries reads count (quiet k) ≡ []) × (steps (quiet k) ≡ k)
quiet_entries reads count zero = (refl, refl)
quiet_entries reads count (suc k) = let r = quiet_entries reads (suc count) k in (r.0, ap suc r.1)
