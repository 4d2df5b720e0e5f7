-- A run whose list of entries begins with another run's continues that one, at its last entry.
use Rattle.std.proofs.Common.{◌≡◌, ℕ, suc, ◌+◌, ◌≤◌, List, [], ◌∷◌, ◌++◌, sym, refl, ap, ◌∙◌, subst, arith, Option, Some, None, append-nil, le_refl}
use Rattle.std.proofs.lemmas.List.{append_cancel_left, same_from_push}
use Rattle.pair_rule.proofs.Words.{Counts, Do, Entry, HasLonger, Input, Logged, Machine, Mark, Move, Operation, Quiet, Recorded, Runs, Take, count_entry, count_of, entries, entries-append, entry_of, input_of, last_count, last_count-append, recorded-rest, recorded-runs, same_some, steps}
use Rattle.guest_lockstep.specs.Recorded.{Accepts}
use Rattle.guest_lockstep.specs.declared.input.Input.TheVariants as input
use Rattle.pair_rule.proofs.Elements.{same_head, same_tail}
use Rattle.pair_rule.proofs.QuietSteps.{are_quiet}

-- ---- lists

not_empty : {A X : Type 0} (x : A) (xs : List A) → [] ≡ x ∷ xs → X
not_empty x xs e = absurd cc

-- ---- counts

module _ {S : Type 0} (M : Machine S) (counts : Counts M) where
  count_grows : (a s : S) (xs : List Move) → Runs M a xs s → M.count a ≤ M.count s
  count_grows a s [] h = subst (λ t. M.count a ≤ M.count t) h (le_refl (M.count a))
  count_grows a s (Do o ∷ xs) h = let g = count_grows h.0 s xs h.2 in let b = counts.by_step a h.0 o h.1 in omega (arith, g, b)
  count_grows a s (Take i ∷ xs) h = let g = count_grows h.0 s xs h.2 in let b = counts.by_input a h.0 i h.1 in omega (arith, g, b)

  -- a run from a count ends at the last of its entries' counts, or later
  pub last_low : (a s : S) (c : ℕ) (xs : List Move) → M.count a ≡ c → Runs M a xs s
      → last_count c (entries Logged c xs) ≤ M.count s
  last_low a s c [] at h = let e : M.count a ≡ M.count s = ap M.count h in omega (arith, at, e)
  last_low a s c (Do None ∷ xs) at h = let g = count_grows h.0 s xs h.2 in let b = counts.by_step a h.0 None h.1 in
      earlier (entries Logged (suc c) xs) (last_low h.0 s (suc c) xs (b ∙ ap suc at) h.2) (omega (arith, g, b, at))
    where
      earlier : (es : List Entry) → last_count (suc c) es ≤ M.count s → c ≤ M.count s → last_count c es ≤ M.count s
      earlier [] low near = near
      earlier (x ∷ es) low near = low
  last_low a s c (Do (Some o) ∷ xs) at h = last_low h.0 s (suc c) xs (counts.by_step a h.0 (Some o) h.1 ∙ ap suc at) h.2
  last_low a s c (Take i ∷ xs) at h = subst (λ n. last_count n (entries Logged c xs) ≤ M.count s)
      (sym (count_entry Logged c i)) (last_low h.0 s c xs (counts.by_input a h.0 i h.1 ∙ at) h.2)

-- the first entry of moves from a count is no earlier
first_later : (c : ℕ) (xs : List Move) (e : Entry) (rest : List Entry) → entries Logged c xs ≡ e ∷ rest → c ≤ count_of e
first_later c [] e rest is = not_empty e rest is
first_later c (Do None ∷ xs) e rest is = let l = first_later (suc c) xs e rest is in omega (arith, l)
first_later c (Do (Some o) ∷ xs) e rest is = let same : suc c ≡ count_of e =
    ap count_of (same_head (Mark (suc c)) e (entries Logged (suc c) xs) rest is) in omega (arith, same)
first_later c (Take i ∷ xs) e rest is = let same : c ≡ count_of e =
    sym (count_entry Logged c i) ∙ ap count_of (same_head (entry_of Logged c i) e (entries Logged c xs) rest is) in
    omega (arith, same)

-- where moves end at their last entry's count, after a step that gives nothing, there is such an entry
later_end : (c n : ℕ) (es : List Entry) → n ≡ last_count c es → suc c ≤ n → n ≡ last_count (suc c) es
later_end c n [] e l = absurd (omega (arith, e, l))
later_end c n (x ∷ es) e l = e

-- so the entries are not none, and none of them is earlier
no_entry : {X : Type 0} (c n : ℕ) (es more : List Entry) → [] ≡ es ++ more → n ≡ last_count c es → suc c ≤ n → X
no_entry c n [] more e end l = absurd (omega (arith, end, l))
no_entry c n (x ∷ es) more e end l = not_empty x (es ++ more) e

too_early : {X : Type 0} (c n : ℕ) (xs : List Move) (i : Input) (rest more es : List Entry)
    → entries Logged (suc c) xs ≡ es → entry_of Logged c i ∷ rest ≡ es ++ more → n ≡ last_count c es → suc c ≤ n → X
too_early c n xs i rest more [] is e end l = absurd (omega (arith, end, l))
too_early c n xs i rest more (x ∷ es) is e end l = let f = first_later (suc c) xs x es is in
    let same : c ≡ count_of x =
    sym (count_entry Logged c i) ∙ ap count_of (same_head (entry_of Logged c i) x rest (es ++ more) e) in
    absurd (omega (arith, f, same))

mark_or_input : {X : Type 0} (c : ℕ) (i : Input) (xs ys : List Entry) → Mark (suc c) ∷ xs ≡ entry_of Logged c i ∷ ys → X
mark_or_input c i xs ys e = let same : suc c ≡ c =
    ap count_of (same_head (Mark (suc c)) (entry_of Logged c i) xs ys e) ∙ count_entry Logged c i in
    absurd (omega (arith, same))

-- ---- two runs from one state

-- the entry of an input carries that input, a sector's with its bytes
carries : (c : ℕ) (i : Input) → input_of (entry_of Logged c i) ≡ Some i
carries c (input.Rx port byte) = refl
carries c (input.Sent port) = refl
carries c (input.Sector drive sector number bytes) = refl
carries c (input.Written number) = refl

module _ {S : Type 0} (M : Machine S) (counts : Counts M) where
  same_gives : (a b u : S) (o p : Option Operation) → M.step a ≡ Some (b, o) → M.step a ≡ Some (u, p) → (b ≡ u) × (o ≡ p)
  same_gives a b u o p h k = let e = same_some (b, o) (u, p) (M.step a) h k in
      (ap (λ (z : S × Option Operation). z.0) e, ap (λ (z : S × Option Operation). z.1) e)

  same_input : (c : ℕ) (i j : Input) (xs ys : List Entry) → entry_of Logged c j ∷ ys ≡ entry_of Logged c i ∷ xs → i ≡ j
  same_input c i j xs ys e = same_some i j (input_of (entry_of Logged c j))
      (ap input_of (same_head (entry_of Logged c j) (entry_of Logged c i) ys xs e) ∙ carries c i) (carries c j)

  -- the moves of the run with fewer entries come first
  pub front : (a s u : S) (c : ℕ) (xs ys : List Move) (more : List Entry) → M.count a ≡ c → Runs M a xs s
      → M.count s ≡ last_count c (entries Logged c xs)
      → Runs M a ys u → entries Logged c ys ≡ entries Logged c xs ++ more → (zs : List Move) × (ys ≡ xs ++ zs)
  front a s u c [] ys more at h end k same = (ys, refl)
  front a s u c (Do None ∷ xs) [] more at h end k same = let b = counts.by_step a h.0 None h.1 in let g =
      count_grows M counts h.0 s xs h.2 in
      no_entry c (M.count s) (entries Logged (suc c) xs) more same end (omega (arith, b, g, at))
  front a s u c (Do None ∷ xs) (Do None ∷ ys) more at h end k same = let b = counts.by_step a h.0 None h.1 in let g =
      count_grows M counts h.0 s xs h.2 in let e = same_gives a h.0 k.0 None None h.1 k.1 in
      let r = front h.0 s u (suc c) xs ys more (b ∙ ap suc at) h.2
      (later_end c (M.count s) (entries Logged (suc c) xs) end (omega (arith, b, g, at)))
      (subst (λ v. Runs M v ys u) (sym e.0) k.2) same in
      (r.0, ap (λ l. Do None ∷ l) r.1)
  front a s u c (Do None ∷ xs) (Do (Some o) ∷ ys) more at h end k same = let e =
      (same_gives a h.0 k.0 None (Some o) h.1 k.1).1 in absurd cc
  front a s u c (Do None ∷ xs) (Take i ∷ ys) more at h end k same = let b = counts.by_step a h.0 None h.1 in let g =
      count_grows M counts h.0 s xs h.2 in
      too_early c (M.count s) xs i (entries Logged c ys) more (entries Logged (suc c) xs) refl same end
      (omega (arith, b, g, at))
  front a s u c (Do (Some o) ∷ xs) [] more at h end k same =
      not_empty (Mark (suc c)) (entries Logged (suc c) xs ++ more) same
  front a s u c (Do (Some o) ∷ xs) (Do None ∷ ys) more at h end k same = let e =
      (same_gives a h.0 k.0 (Some o) None h.1 k.1).1 in absurd cc
  front a s u c (Do (Some o) ∷ xs) (Do (Some p) ∷ ys) more at h end k same = let e =
      same_gives a h.0 k.0 (Some o) (Some p) h.1 k.1 in
      let r = front h.0 s u (suc c) xs ys more (counts.by_step a h.0 (Some o) h.1 ∙ ap suc at) h.2 end
      (subst (λ v. Runs M v ys u) (sym e.0) k.2)
      (same_tail (Mark (suc c)) (Mark (suc c)) (entries Logged (suc c) ys) (entries Logged (suc c) xs ++ more) same) in
      (r.0, λ i. Do (sym e.1 i) ∷ r.1 i)
  front a s u c (Do (Some o) ∷ xs) (Take i ∷ ys) more at h end k same =
      mark_or_input c i (entries Logged (suc c) xs ++ more) (entries Logged c ys) (sym same)
  front a s u c (Take i ∷ xs) [] more at h end k same =
      not_empty (entry_of Logged c i) (entries Logged c xs ++ more) same
  front a s u c (Take i ∷ xs) (Do None ∷ ys) more at h end k same = let l =
      first_later (suc c) ys (entry_of Logged c i) (entries Logged c xs ++ more) same in let n = count_entry Logged c i in
      absurd (omega (arith, l, n))
  front a s u c (Take i ∷ xs) (Do (Some o) ∷ ys) more at h end k same =
      mark_or_input c i (entries Logged (suc c) ys) (entries Logged c xs ++ more) same
  front a s u c (Take i ∷ xs) (Take j ∷ ys) more at h end k same = let e =
      same_input c i j (entries Logged c xs ++ more) (entries Logged c ys) same in
      let there : h.0 ≡ k.0 = same_some h.0 k.0 (M.take a j) (subst (λ x. M.take a x ≡ Some h.0) e h.1) k.1 in
      let r = front h.0 s u c xs ys more (counts.by_input a h.0 i h.1 ∙ at) h.2
      (end ∙ ap (λ n. last_count n (entries Logged c xs)) (count_entry Logged c i))
      (subst (λ v. Runs M v ys u) (sym there) k.2)
      (same_tail (entry_of Logged c j) (entry_of Logged c i) (entries Logged c ys)
      (entries Logged c xs ++ more) same) in
      (r.0, λ n. Take (sym e n) ∷ r.1 n)

-- ---- the run of a longer list

-- how a run goes on from a state, after other moves: by steps that give nothing
pub record GoesOn {S : Type 0} (M : Machine S) (moves others : List Move) (s t : S) : Type 0 where
  pub rest : List Move
  pub all : others ≡ moves ++ rest
  pub none : entries Logged (0 + steps moves) rest ≡ []
  pub further : ℕ
  pub quietly : Quiet M s further t

-- a run of the list goes on quietly from the state at its last entry's count
pub run_goes_on : {S : Type 0} (M : Machine S) → Counts M
    → (boot_count : M.count M.boot ≡ 0) (list : List Entry) (moves : List Move) (s : S) → Recorded M M.boot moves s
    → entries Logged 0 moves ≡ list → M.count s ≡ last_count 0 list
    → (others : List Move) (t : S) → Recorded M M.boot others t → entries Logged 0 others ≡ list
    → GoesOn M moves others s t
run_goes_on M counts boot list moves s run is end others t other same =
    let r = recorded-runs M M.boot s moves run in
    let f = front M counts M.boot s t 0 moves others [] boot r (end ∙ ap (last_count 0) (sym is))
    (recorded-runs M M.boot t others other) (same ∙ sym is ∙ sym (append-nil (entries Logged 0 moves))) in
    let zs : List Move = f.0 in
    let after : Recorded M s zs t = recorded-rest M M.boot s t moves zs r (subst (λ l. Recorded M M.boot l t) f.1 other) in
    let none : entries Logged (0 + steps moves) zs ≡ [] =
    append_cancel_left (entries Logged 0 moves) (entries Logged (0 + steps moves) zs) []
    (sym (entries-append Logged 0 moves zs) ∙ ap (entries Logged 0) (sym f.1) ∙ same ∙ sym is
    ∙ sym (append-nil (entries Logged 0 moves))) in
    let q = are_quiet M counts s t (0 + steps moves) zs after none in
    record { rest = zs; all = f.1; none = none; further = q.0; quietly = q.1 }

-- what the last move of a run with one entry more is
pub data LastMove {S : Type 0} (M : Machine S) (t u : S) (list : List Entry) : Entry → Type 0 where
  Steps : (o : Operation) → M.step t ≡ Some (u, Some o) → LastMove M t u list (Mark (M.count u))
  Hears : (i : Input) → Accepts M t i u → LastMove M t u list (entry_of Logged (M.count t) i)

pub last_move : {S : Type 0} (M : Machine S) → Counts M → (boot_count : M.count M.boot ≡ 0)
    → ((moves : List Move) (s : S) → Runs M M.boot moves s → M.count s ≡ steps moves)
    → (list : List Entry) (e : Entry) (run : HasLonger M list e)
    → (entries Logged 0 run.moves ≡ list) × LastMove M run.before run.after list e
last_move M counts boot counted list e run = go run.move run.makes run.entries_are
  where
    at : M.count run.before ≡ 0 + steps run.moves
    at = let e = counted run.moves run.before (recorded-runs M M.boot run.before run.moves run.recorded) in omega (arith, e)

    low : last_count 0 (entries Logged 0 run.moves) ≤ M.count run.before
    low = last_low M counts M.boot run.before 0 run.moves boot (recorded-runs M M.boot run.before run.moves run.recorded)

    go : (move : Move) → Recorded M run.before (move ∷ []) run.after
        → entries Logged 0 (run.moves ++ move ∷ []) ≡ list ++ e ∷ []
        → (entries Logged 0 run.moves ≡ list) × LastMove M run.before run.after list e
    go (Do None) makes are =
        let all : entries Logged 0 run.moves ≡ list ++ e ∷ [] =
        sym (append-nil (entries Logged 0 run.moves)) ∙ sym (entries-append Logged 0 run.moves (Do None ∷ [])) ∙ are in
        let b = counts.by_step run.before makes.0 None makes.1 in let m : M.count makes.0 ≡ M.count run.after =
        ap M.count makes.2 in let l = low in
        let is : last_count 0 (entries Logged 0 run.moves) ≡ count_of e = ap (last_count 0) all ∙ last_count-append 0 list e in
        let c = run.count in absurd (omega (arith, b, m, l, is, c))
    go (Do (Some o)) makes are =
        let both = same_from_push (entries Logged 0 run.moves) list (Mark (suc (0 + steps run.moves))) e
        (sym (entries-append Logged 0 run.moves (Do (Some o) ∷ [])) ∙ are) in
        let step : M.step run.before ≡ Some (run.after, Some o) = makes.1 ∙ ap (λ v. Some (v, Some o)) makes.2 in
        let same : M.count run.after ≡ suc (0 + steps run.moves) =
        counts.by_step run.before run.after (Some o) step ∙ ap suc at in
        (both.0, subst (LastMove M run.before run.after list) (ap Mark same ∙ both.1) (Steps o step))
    go (Take i) makes are =
        let both = same_from_push (entries Logged 0 run.moves) list (entry_of Logged (0 + steps run.moves) i) e
        (sym (entries-append Logged 0 run.moves (Take i ∷ [])) ∙ are) in (
          both.0,
          subst (LastMove M run.before run.after list) (ap (λ n. entry_of Logged n i) at ∙ both.1)
              (Hears i (subst (Accepts M run.before i) makes.2 makes.1)),
        )
