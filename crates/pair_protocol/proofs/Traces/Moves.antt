-- Moves joined end to end: their counts, inputs, entries, operations and runs.
use Rattle.std.proofs.Common.{[], ◌++◌, ◌+◌, ◌∙◌, ◌∷◌, ◌≡◌, ◌≤◌, List, None, Option, Some, ap, append-nil, append_assoc, arith, inl, inr, map, refl, subst, suc, sym, ℕ}
use Rattle.pair_protocol.proofs.Words.{Do, Entry, Input, IsPrefix, Lawful, Machine, Move, Operation, Owns, Runs, SectorWrite, Take, Timed, acceptances, accepted_at, bare, byte_to, entries, entry_of, inputs, inputs_of, key_at, keys, operations, output, steps, timed, timed_in, timed_of, Reads, Among, Byte, Write, writes, count_of, last_count}
pub use Rattle.guest_lockstep.proofs.Moves.{inputs-append, runs-append, steps-append}
use Rattle.guest_lockstep.specs.declared.input.Input.TheVariants as input
pub use Rattle.log_entry.proofs.TraceEntries.{count_entry, entries-append, input_entry, unmarked}
use Rattle.log_entry.proofs.TraceEntries.{input_comes_back, keeps_inputs}
use Rattle.guest_lockstep.specs.declared.timed.Bare.TheVariants.{Written}
use Rattle.pair_protocol.proofs.Invariant.{ArePut}
use Rattle.pair_protocol.proofs.Traces.Lists.{among-prefix, map-append, same_some}

pub operations-append : (xs ys : List Move) → operations (xs ++ ys) ≡ operations xs ++ operations ys
operations-append [] ys = refl
operations-append (Do None ∷ xs) ys = operations-append xs ys
operations-append (Do (Some o) ∷ xs) ys = ap (λ os. o ∷ os) (operations-append xs ys)
operations-append (Take i ∷ xs) ys = operations-append xs ys

-- a write that was given is among the writes
pub writes-given : (w : SectorWrite) (moves : List Move) → Among (Write w) (operations moves) → Among w (writes moves)
writes-given w [] at = absurd at
writes-given w (Do None ∷ moves) at = writes-given w moves at
writes-given w (Do (Some (Byte port number byte)) ∷ moves) (inl e) = (cc)
writes-given w (Do (Some (Byte port number byte)) ∷ moves) (inr at) = writes-given w moves at
writes-given w (Do (Some (Write v)) ∷ moves) (inl e) = inl (cc)
writes-given w (Do (Some (Write v)) ∷ moves) (inr at) = inr (writes-given w moves at)
writes-given w (Take i ∷ moves) at = writes-given w moves at

pub output-append : (p : ℕ) (xs ys : List Move) → output p (xs ++ ys) ≡ output p xs ++ output p ys
output-append p [] ys = refl
output-append p (Do None ∷ xs) ys = output-append p xs ys
output-append p (Do (Some o) ∷ xs) ys = ap (λ os. byte_to p o ++ os) (output-append p xs ys)
    ∙ sym (append_assoc (byte_to p o) (output p xs) (output p ys))
output-append p (Take i ∷ xs) ys = output-append p xs ys

pub keys-append : (p : ℕ) (xs ys : List Timed) → keys p (xs ++ ys) ≡ keys p xs ++ keys p ys
keys-append p [] ys = refl
keys-append p (t ∷ xs) ys = ap (λ os. key_at p t.input ++ os) (keys-append p xs ys)
    ∙ sym (append_assoc (key_at p t.input) (keys p xs) (keys p ys))

pub acceptances-append : (p : ℕ) (xs ys : List Timed) → acceptances p (xs ++ ys) ≡ acceptances p xs + acceptances p ys
acceptances-append p [] ys = omega arith
acceptances-append p (t ∷ xs) ys = let h = acceptances-append p xs ys in omega arith

-- keys and completions do not depend on the count
pub keys-from : (p c d : ℕ) (ms : List Move) → keys p (inputs c ms) ≡ keys p (inputs d ms)
keys-from p c d [] = refl
keys-from p c d (Do o ∷ ms) = keys-from p (suc c) (suc d) ms
keys-from p c d (Take i ∷ ms) = ap (λ os. key_at p (bare i) ++ os) (keys-from p c d ms)

pub acceptances-from : (p c d : ℕ) (ms : List Move) → acceptances p (inputs c ms) ≡ acceptances p (inputs d ms)
acceptances-from p c d [] = refl
acceptances-from p c d (Do o ∷ ms) = acceptances-from p (suc c) (suc d) ms
acceptances-from p c d (Take i ∷ ms) = ap (λ n. accepted_at p (bare i) + n) (acceptances-from p c d ms)

pub keys_of-append : (p c : ℕ) (xs ys : List Move) →
    keys p (inputs c (xs ++ ys)) ≡ keys p (inputs c xs) ++ keys p (inputs c ys)
keys_of-append p c xs ys = ap (keys p) (inputs-append c xs ys)
    ∙ keys-append p (inputs c xs) (inputs (c + steps xs) ys)
    ∙ ap (λ os. keys p (inputs c xs) ++ os) (keys-from p (c + steps xs) c ys)

pub acceptances_of-append : (p c : ℕ) (xs ys : List Move) →
    acceptances p (inputs c (xs ++ ys)) ≡ acceptances p (inputs c xs) + acceptances p (inputs c ys)
acceptances_of-append p c xs ys = ap (acceptances p) (inputs-append c xs ys)
    ∙ acceptances-append p (inputs c xs) (inputs (c + steps xs) ys)
    ∙ ap (λ n. acceptances p (inputs c xs) + n) (acceptances-from p (c + steps xs) c ys)

pub inputs_of-append : (xs ys : List Entry) → inputs_of (xs ++ ys) ≡ inputs_of xs ++ inputs_of ys
inputs_of-append [] ys = refl
inputs_of-append (e ∷ xs) ys = ap (λ os. timed_in (timed_of e) ++ os) (inputs_of-append xs ys)
    ∙ sym (append_assoc (timed_in (timed_of e)) (inputs_of xs) (inputs_of ys))

pub last_count-append : (c : ℕ) (es : List Entry) (e : Entry) → last_count c (es ++ e ∷ []) ≡ count_of e
last_count-append c [] e = refl
last_count-append c (k ∷ es) e = last_count-append (count_of k) es e

-- the timed input in the entry of an input
pub timed_entry : (reads : Reads) (c : ℕ) (i : Input) → timed_in (timed_of (entry_of reads c i)) ≡ timed c i ∷ []
timed_entry reads c i = ap timed_in (input_comes_back reads c i)

pub inputs_of-entries : (reads : Reads) (c : ℕ) (ms : List Move) → inputs_of (entries reads c ms) ≡ inputs c ms
inputs_of-entries = keeps_inputs

module _ {S : Type 0} (M : Machine S) where
  -- runs

  pub runs-split : (s u : S) (xs ys : List Move) → Runs M s (xs ++ ys) u → (t : S) × Runs M s xs t × Runs M t ys u
  runs-split s u [] ys h = (s, refl, h)
  runs-split s u (Do o ∷ xs) ys h = let r = runs-split h.0 u xs ys h.2 in (r.0, (h.0, h.1, r.1), r.2)
  runs-split s u (Take i ∷ xs) ys h = let r = runs-split h.0 u xs ys h.2 in (r.0, (h.0, h.1, r.1), r.2)

  -- from any state, moves lead to one state only
  pub runs-rest : (s t u : S) (xs ys : List Move) → Runs M s xs t → Runs M s (xs ++ ys) u → Runs M t ys u
  runs-rest s t u [] ys h k = subst (λ v. Runs M v ys u) h k
  runs-rest s t u (Do o ∷ xs) ys h k =
      let e : h.0 ≡ k.0 = ap (λ (p : S × Option Operation). p.0) (same_some (h.0, o) (k.0, o) (M.step s) h.1 k.1) in
      runs-rest h.0 t u xs ys h.2 (subst (λ v. Runs M v (xs ++ ys) u) (sym e) k.2)
  runs-rest s t u (Take i ∷ xs) ys h k =
      let e : h.0 ≡ k.0 = same_some h.0 k.0 (M.take s i) h.1 k.1 in
      runs-rest h.0 t u xs ys h.2 (subst (λ v. Runs M v (xs ++ ys) u) (sym e) k.2)

pub operations-prefix : (xs ys : List Move) → IsPrefix xs ys → IsPrefix (operations xs) (operations ys)
operations-prefix xs ys h = (operations h.0, sym (operations-append xs h.0) ∙ ap operations h.1)

module _ (p c : ℕ) (xs ys : List Move) where
  pub keys-prefix : IsPrefix xs ys → IsPrefix (keys p (inputs c xs)) (keys p (inputs c ys))
  keys-prefix h = (keys p (inputs c h.0), sym (keys_of-append p c xs h.0) ∙ ap (λ zs. keys p (inputs c zs)) h.1)

  pub acceptances-prefix : IsPrefix xs ys → acceptances p (inputs c xs) ≤ acceptances p (inputs c ys)
  acceptances-prefix h = let e = acceptances_of-append p c xs h.0 in
      let k = ap (λ zs. acceptances p (inputs c zs)) h.1 in omega arith

pub runs-prefix : {S : Type 0} (M : Machine S) (s t : S) (xs ys : List Move) → IsPrefix xs ys → Runs M s ys t →
    (u : S) × Runs M s xs u
runs-prefix M s t xs ys h k = let r = runs-split M s t xs h.0 (subst (λ zs. Runs M s zs t) (sym h.1) k) in (r.0, r.1)

-- own bytes along longer moves

pub owns-append : {S : Type 0} (M : Machine S) (before : List Move) (s t : S) (xs ys : List Move) → Runs M s xs t →
    Owns M before s xs → Owns M (before ++ xs) t ys → Owns M before s (xs ++ ys)
owns-append M before s t [] ys r h k =
    subst (λ v. Owns M before v ys) (sym r) (subst (λ zs. Owns M zs t ys) (append-nil before) k)
owns-append {S} M before s t (Do o ∷ xs) ys r h k = λ u e.
    let q : r.0 ≡ u = ap (λ (p : S × Option Operation). p.0) (same_some (r.0, o) (u, o) (M.step s) r.1 e) in
    owns-append M (before ++ Do o ∷ []) u t xs ys (subst (λ v. Runs M v xs t) q r.2) (h u e)
    (subst (λ zs. Owns M zs t ys) (sym (append_assoc before (Do o ∷ []) xs)) k)
owns-append M before s t (Take i ∷ xs) ys r h k = (
  h.0,
  λ u e.
      let q : r.0 ≡ u = same_some r.0 u (M.take s i) r.1 e in
      owns-append M (before ++ Take i ∷ []) u t xs ys (subst (λ v. Runs M v xs t) q r.2) (h.1 u e)
      (subst (λ zs. Owns M zs t ys) (sym (append_assoc before (Take i ∷ []) xs)) k),
)

module _ {S : Type 0} (M : Machine S) where
  pub owns-front : (before : List Move) (s : S) (xs ys : List Move) → Owns M before s (xs ++ ys) → Owns M before s xs
  owns-front before s [] ys h = tt
  owns-front before s (Do o ∷ xs) ys h = λ u e. owns-front (before ++ Do o ∷ []) u xs ys (h u e)
  owns-front before s (Take i ∷ xs) ys h = (h.0, λ u e. owns-front (before ++ Take i ∷ []) u xs ys (h.1 u e))

  pub owns-prefix : (s : S) (xs ys : List Move) → IsPrefix xs ys → Owns M [] s ys → Owns M [] s xs
  owns-prefix s xs ys p h = owns-front [] s xs p.0 (subst (λ zs. Owns M [] s zs) (sym p.1) h)

pub put-prefix : (puts : List SectorWrite) (xs ys : List Move) → IsPrefix xs ys → ArePut puts (inputs 0 ys) →
    ArePut puts (inputs 0 xs)
put-prefix puts xs ys p h = λ n k. h n
    (among-prefix (Written n) (map (λ t. t.input) (inputs 0 xs)) (map (λ t. t.input) (inputs 0 ys)) (
      map (λ t. t.input) (inputs (0 + steps xs) p.0),
      sym
          (map-append (λ (t : Timed). t.input) (inputs 0 xs) (inputs (0 + steps xs) p.0))
          ∙ ap (map (λ t. t.input)) (sym (inputs-append 0 xs p.0) ∙ ap (inputs 0) p.1),
    ) k)

-- counts

pub count-does : {S : Type 0} (M : Machine S) → Lawful M → (ms : List Move) (s u : S) (o : Option Operation) →
    Runs M M.boot ms s → M.step s ≡ Some (u, o) → M.count u ≡ suc (M.count s)
count-does M laws ms s u o r h =
    let a = laws.counts ms s r in
    let b = laws.counts (ms ++ Do o ∷ []) u (runs-append M M.boot s u ms (Do o ∷ []) r (u, h, refl)) in
    let c = steps-append ms (Do o ∷ []) in
    omega arith

pub count-takes : {S : Type 0} (M : Machine S) → Lawful M → (ms : List Move) (s u : S) (i : Input) →
    Runs M M.boot ms s → M.take s i ≡ Some u → M.count u ≡ M.count s
count-takes M laws ms s u i r h =
    let a = laws.counts ms s r in
    let b = laws.counts (ms ++ Take i ∷ []) u (runs-append M M.boot s u ms (Take i ∷ []) r (u, h, refl)) in
    let c = steps-append ms (Take i ∷ []) in
    omega arith
