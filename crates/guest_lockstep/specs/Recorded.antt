-- A recorded run: the moves that a recorder makes and that a replayer repeats, and what both require of the machine.
use Rattle.std.specs.Prelude.{◌≡◌, suc, true, Option, Some, None, List, [], ◌∷◌}
use Rattle.event_callbacks.specs.declared.operations.Operation.{Operation}
use Rattle.guest_lockstep.specs.Lockstep.{IsInput, HasRoom}
use Rattle.guest_lockstep.specs.Machine.{Machine, Move, Do, Take, refusal_of}
use Rattle.guest_lockstep.specs.declared.input.Input.{Input}

-- a machine that counts its steps: a step raises the count by one, an input leaves it unchanged, and once it is spent
-- no step is left
pub record Counts {S : Type 0} (M : Machine S) : Type 0 where
  pub by_step : (s t : S) (gives : Option Operation) → M.step s ≡ Some (t, gives) → M.count t ≡ suc (M.count s)
  pub by_input : (s t : S) (input : Input) → M.take s input ≡ Some t → M.count t ≡ M.count s
  pub spent : (s : S) → M.is_spent s ≡ true → M.step s ≡ None

-- an input that may come and that nothing refuses, and the state that it leaves
pub record Accepts {S : Type 0} (M : Machine S) (s : S) (input : Input) (t : S) : Type 0 where
  pub is_input : IsInput input
  pub room : HasRoom M s input
  pub allowed : refusal_of M s input ≡ None
  pub taken : M.take s input ≡ Some t

-- moves, with each input among them accepted, lead from one state to another
abbrev pub Recorded : {S : Type 0} → Machine S → S → List Move → S → Type 0
Recorded M s [] t = s ≡ t
Recorded {S} M s (Do gives ∷ moves) t = (u : S) × (M.step s ≡ Some (u, gives)) × Recorded M u moves t
Recorded {S} M s (Take input ∷ moves) t = (u : S) × Accepts M s input u × Recorded M u moves t
