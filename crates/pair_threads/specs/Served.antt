-- A worker before its turns, after each of them, and after all.
use Rattle.std.specs.Prelude.{◌≡◌, ℕ, zero, suc, Bool, true, false, OnOk, Result}
use Rattle.atomic_table.specs.Seated.{TableId}
use Rattle.i8080_words.specs.declared.refusal.Fault.{Fault}
use Rattle.pair_threads.specs.declared.pace.Pace.{Pace}
use Rattle.pair_threads.specs.declared.worker.Next.{Next}
use Rattle.pair_threads.specs.declared.worker.Next.TheVariants.{GoesOn, GivesUp}
use Rattle.pair_threads.specs.declared.worker.Next.TheVariants as next
use Rattle.pair_threads.specs.declared.worker.Turn.{Turn}
use Rattle.pair_threads.specs.declared.worker.Turn.TheVariants.{Ends}
use Rattle.pair_threads.specs.Patience.{PacedBy}

-- its seat is of the table, it is ready, and it came from itself
abbrev pub MayBegin : {W : Type 0} → (W → TableId) → (W → Type 0) → (W → W → Type 0) → TableId → W → Type 0
MayBegin table ready came id w = (table w ≡ id) × ready w × came w w

-- its seat is still of the table, and if nothing was refused it came from how it began, and is at its end
abbrev pub HasServed : {W : Type 0} → (W → TableId) → (W → W → Type 0) → (W → Type 0) → TableId → W →
    W × Result (Unit {0}) Fault → Type 0
HasServed table came ended id first served =
    (table served.0 ≡ id) × OnOk served.1 (came first served.0 × ended served.0)

-- a worker whose turn was its end is at its end; any other goes on, or gives the run up
abbrev pub next_after : Turn → Bool → Next
next_after Ends goes_on = next.Ends
next_after turn true = GoesOn
next_after turn false = GivesUp

-- a worker that goes on, or gives the run up, is ready for a turn; one that ends is at its end
abbrev pub LeavesAs : Next → Type 0 → Type 0 → Type 0
LeavesAs GoesOn ready ended = ready
LeavesAs GivesUp ready ended = ready
LeavesAs next.Ends ready ended = ended

-- it had a turn of this number, it is paced by that very turn, and it does next what that says
abbrev pub HasGoneOn : {W : Type 0} → (W → ℕ → W → Turn → Type 0) → Bool → ℕ → W → W → Pace → Pace → Next → Type 0
HasGoneOn turned contested number old new pace paced does =
    (turn : Turn) × (goes_on : Bool) × turned old number new turn × PacedBy turn contested pace paced goes_on
    × (does ≡ next_after turn goes_on)

-- so many turns led from one worker to another, the first with number 0
abbrev pub HasHadTurns : {W : Type 0} → (W → ℕ → W → Turn → Type 0) → W → ℕ → W → Type 0
HasHadTurns turned first zero last = last ≡ first
HasHadTurns {W} turned first (suc n) last =
    (before : W) × (turn : Turn) × HasHadTurns turned first n before × turned before n last turn
