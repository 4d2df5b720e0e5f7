-- A claim that every move keeps holds after every trace from boot. And what a trace gives and takes in all, for moves
-- joined end to end.
use Rattle.std.proofs.Common.{◌≡◌, ◌≢◌, true, false, ℕ, ◌+◌, List, [], ◌∷◌, ◌++◌, length, ◌⊎◌, inl, refl, sym, ap, ◌∙◌, subst, append_assoc, append-nil, Option, Some, length-append}
use Rattle.std.specs.Prelude.{◌==◌}
use Rattle.altair_laws.proofs.Words.{Among, Do, Input, Machine, Move, Operation, Runs, Take, among-left, among-right, inputs, keys, keys_of-append, operations, operations-append, output, output-append}

pub length-output : (port : ℕ) (xs ys : List Move)
    → length (output port (xs ++ ys)) ≡ length (output port xs) + length (output port ys)
length-output port xs ys = ap length (output-append port xs ys) ∙ length-append (output port xs) (output port ys)

pub length-keys : (port : ℕ) (xs ys : List Move)
    → length (keys port (inputs 0 (xs ++ ys))) ≡ length (keys port (inputs 0 xs)) + length (keys port (inputs 0 ys))
length-keys port xs ys =
    ap length (keys_of-append port 0 xs ys)
    ∙ length-append (keys port (inputs 0 xs)) (keys port (inputs 0 ys))

-- the test of two numbers says whether they are equal
abbrev pub Tells : ℕ → ℕ → Type 0
Tells m n = (((m == n) ≡ true) × (m ≡ n)) ⊎ (((m == n) ≡ false) × (m ≢ n))

-- ---- runs

-- a claim that every move keeps
pub record Kept {S : Type 0} (M : Machine S) (P : List Move → S → Type 0) : Type 0 where
  pub steps : (moves : List Move) (s u : S) (gives : Option Operation) → P moves s → M.step s ≡ Some (u, gives)
      → P (moves ++ Do gives ∷ []) u
  pub takes : (moves : List Move) (s u : S) (i : Input) → P moves s → M.take s i ≡ Some u → P (moves ++ Take i ∷ []) u

along : {S : Type 0} (M : Machine S) (P : List Move → S → Type 0) → Kept M P → (xs ys : List Move) (s t : S) → P xs s
    → Runs M s ys t → P (xs ++ ys) t
along M P k xs [] s t p r = subst (λ zs. P zs t) (sym (append-nil xs)) (subst (P xs) r p)
along M P k xs (Do gives ∷ ys) s t p r =
    subst (λ zs. P zs t) (append_assoc xs (Do gives ∷ []) ys)
    (along M P k (xs ++ Do gives ∷ []) ys r.0 t (k.steps xs s r.0 gives p r.1) r.2)
along M P k xs (Take i ∷ ys) s t p r =
    subst (λ zs. P zs t) (append_assoc xs (Take i ∷ []) ys)
    (along M P k (xs ++ Take i ∷ []) ys r.0 t (k.takes xs s r.0 i p r.1) r.2)

-- what holds at boot, and is kept by every move, holds after every trace from boot
pub from_boot : {S : Type 0} (M : Machine S) (P : List Move → S → Type 0) → P [] M.boot → Kept M P
    → (moves : List Move) (s : S) → Runs M M.boot moves s → P moves s
from_boot M P p k moves s r = along M P k [] moves M.boot s p r

-- ---- elements of a list

pub operations-left : (x : Operation) (xs ys : List Move) → Among x (operations xs) → Among x (operations (xs ++ ys))
operations-left x xs ys h =
    subst (Among x) (sym (operations-append xs ys)) (among-left x (operations xs) (operations ys) h)

pub operations-last : (x : Operation) (moves : List Move) → Among x (operations (moves ++ Do (Some x) ∷ []))
operations-last x moves =
    subst (Among x) (sym (operations-append moves (Do (Some x) ∷ [])))
    (among-right x (operations moves) (x ∷ []) (inl refl))
