-- Facts about traces alone, for the layers above: one trace for each list and count, and what its first entries give.
use Rattle.std.specs.Prelude.{◌≡◌, ℕ, zero, suc, ◌≤◌, Some, None, List, [], ◌∷◌, length, take, replicate}
use Rattle.guest_lockstep.specs.Machine.{Machine, Move, Do, Take, Runs}
use Rattle.guest_lockstep.specs.declared.reads.Reads.{Reads}
use Rattle.log_entry.specs.Entries.{entries, inputs_of, last_count}
use Rattle.guest_lockstep.specs.Reach.{steps, Reach}
use Rattle.guest_lockstep.specs.declared.timed.Timed.{Timed}

-- the moves up to the entry with a number
abbrev pub cut : ℕ → List Move → List Move
cut zero moves = []
cut (suc n) [] = []
cut (suc n) (Do None ∷ moves) = Do None ∷ cut (suc n) moves
cut (suc n) (Do (Some operation) ∷ moves) = Do (Some operation) ∷ cut n moves
cut (suc n) (Take i ∷ moves) = Take i ∷ cut n moves

-- this many steps that give no operation
abbrev pub quiet : ℕ → List Move
quiet k = replicate k (Do None)

-- a list and a count have one trace, and a trace ends in one state
abbrev pub OneTrace : (S : Type 0) → Type 0
OneTrace S =
    (M : Machine S) (list : List Timed) (count : ℕ) (moves others : List Move) →
    Reach M list count moves → Reach M list count others → moves ≡ others

abbrev pub OneEnd : (S : Type 0) → Type 0
OneEnd S = (M : Machine S) (s t u : S) (moves : List Move) → Runs M s moves t → Runs M s moves u → t ≡ u

-- the first entries of a trace are those of its moves up to there, which end at the count of the last of those entries
abbrev pub FirstEntries : (S : Type 0) → Type 0
FirstEntries S =
    (M : Machine S) (reads : Reads) (list : List Timed) (count n : ℕ) (moves : List Move) →
    Reach M list count moves → n ≤ length (entries reads 0 moves) →
    (entries reads 0 (cut n moves) ≡ take n (entries reads 0 moves))
    × Reach M (inputs_of (take n (entries reads 0 moves))) (last_count 0 (take n (entries reads 0 moves))) (cut n moves)

-- moves without an entry are quiet steps, and quiet steps have none
abbrev pub QuietMoves : Type 0
QuietMoves = (reads : Reads) (count : ℕ) (moves : List Move) → entries reads count moves ≡ [] → moves ≡ quiet (steps moves)

abbrev pub QuietEntries : Type 0
QuietEntries = (reads : Reads) (count k : ℕ) → (entries reads count (quiet k) ≡ []) × (steps (quiet k) ≡ k)
