-- What a guest does toward an entry that it need not trust: it makes the entry's move exactly if that is the next move
-- that it logs, in a log that carries its sectors.
use Rattle.std.specs.Prelude.{◌≡◌, ℕ, ◌<◌, ◌≤◌, ◌⊎◌, Bool, true, false, List, [], ◌∷◌, ◌++◌, Some, Result, Ok, Err}
use Rattle.event_callbacks.specs.declared.operations.Operation.{Operation}
use Rattle.guest_lockstep.specs.Lockstep.{Executes}
use Rattle.guest_lockstep.specs.Machine.{Machine, Move}
use Rattle.guest_lockstep.specs.Recorded.{Accepts, Counts, Recorded}
use Rattle.guest_lockstep.specs.Running.{Quiet}
use Rattle.guest_lockstep.specs.declared.input.Input.{Input}
use Rattle.guest_lockstep.specs.declared.reads.Reads.TheVariants.{Logged}
use Rattle.i8080_words.specs.declared.refusal.Fault.{Fault}
use Rattle.log_entry.specs.Entries.{count_of, entries}
use Rattle.log_entry.specs.declared.entry.Entry.{Entry}
use Rattle.replayer.specs.declared.following.Followed.{Followed}
use Rattle.replayer.specs.declared.following.Followed.TheVariants.{Stepped, Done, Differs}

-- a move that is logged as this entry
pub record Logs {S : Type 0} (M : Machine S) (s : S) (e : Entry) (t : S) : Type 0 where
  pub move : Move
  pub runs : Recorded M s (move ∷ []) t
  pub entry : entries Logged (M.count s) (move ∷ []) ≡ e ∷ []

-- steps that give nothing, then the move that is logged as this entry
pub record Reaches {S : Type 0} (M : Machine S) (s : S) (e : Entry) (t : S) : Type 0 where
  pub steps : ℕ
  pub last : S
  pub quietly : Quiet M s steps last
  pub logs : Logs M last e t

-- steps, of which only the last may give an operation
pub data Strays {S : Type 0} (M : Machine S) (s : S) : S → Type 0 where
  GivesNothing : {n : ℕ} {t : S} → Quiet M s n t → Strays M s t
  GivesAtLast : {n : ℕ} {t u : S} {o : Operation} → Quiet M s n t → M.step t ≡ Some (u, Some o) → Strays M s u

-- what is returned, and the guest's state then. It strays only if it would never reach the entry
abbrev pub Follows : {S : Type 0} → Machine S → S → Entry → ℕ → Result Followed Fault → S → Type 0
Follows M s e turns (Ok (Stepped n)) t =
    (n ≤ turns) × ((0 < n) ⊎ (turns ≡ 0)) × (M.count t ≤ count_of e) × Quiet M s n t
Follows M s e turns (Ok Done) t = Reaches M s e t
Follows {S} M s e turns (Ok Differs) t = Strays M s t × ((u : S) → Reaches M s e u → ⊥)
Follows M s e turns (Err fault) t = (M.count s < count_of e) × (t ≡ s) × Executes M s (Err fault) s

-- an input is taken exactly if it is one that the machine accepts
abbrev pub TakesIf : {S : Type 0} → Machine S → S → Input → Bool → S → Type 0
TakesIf M s input true t = Accepts M s input t
TakesIf {S} M s input false t = (t ≡ s) × ((u : S) → Accepts M s input u → ⊥)

-- ---- laws

-- a recorded run from this state, with these entries
pub record Ran {S : Type 0} (M : Machine S) (start : S) (list : List Entry) (s : S) : Type 0 where
  pub moves : List Move
  pub runs : Recorded M start moves s
  pub entries_are : entries Logged (M.count start) moves ≡ list

-- steps that give nothing keep the list, and an entry that is reached is the next of the list, at the guest's count
pub record GoesOn {S : Type 0} (M : Machine S) (start : S) (list : List Entry) (s : S) : Type 0 where
  pub quietly : (n : ℕ) (t : S) → Quiet M s n t → Ran M start list t
  pub reaches : (e : Entry) (t : S) → Reaches M s e t → Ran M start (list ++ e ∷ []) t × (M.count t ≡ count_of e)

abbrev pub FollowingIsRecording : Type 0 → Type 0
FollowingIsRecording S = (M : Machine S) → Counts M → (start s : S) (list : List Entry) → Ran M start list s
    → GoesOn M start list s
