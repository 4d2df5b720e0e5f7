-- The outstanding operations of a machine: which one an input completes, how they come and go, and how few there are.
use Rattle.std.specs.Prelude.{◌≡◌, ◌≢◌, ◌≤◌, Option, Some, None, List, length, Contains}
use Rattle.std.specs.Option.{option_map}
use Rattle.event_callbacks.specs.Operations.{id_of}
use Rattle.event_callbacks.specs.declared.operations.OpId.{OpId}
use Rattle.event_callbacks.specs.declared.operations.OpId.TheVariants as id
use Rattle.event_callbacks.specs.declared.operations.Operation.{Operation}
use Rattle.guest_lockstep.specs.Machine.{Machine, Move, Runs}
use Rattle.guest_lockstep.specs.declared.input.Input.{Input}
use Rattle.guest_lockstep.specs.declared.input.Input.TheVariants.{Rx, Sent, Sector, Written}

-- the name of the operation that an input completes: the byte that is due, or the write
abbrev pub completed_by : {S : Type 0} → Machine S → S → Input → Option OpId
completed_by M s (Rx port byte) = None
completed_by M s (Sent port) = option_map (id.Byte port) (M.due_byte s port)
completed_by M s (Sector drive sector number bytes) = None
completed_by M s (Written number) = Some (id.Write number)

-- how the outstanding operations of a machine come and go: a step adds the one that it gives under its name, an input
-- removes the one that it completes, and nothing else touches any
pub record ComesAndGoes {S : Type 0} (M : Machine S) : Type 0 where
  pub comes : (s t : S) (o : Operation) → M.step s ≡ Some (t, Some o)
      → (M.find t (id_of o) ≡ Some o) × ((name : OpId) → name ≢ id_of o → M.find t name ≡ M.find s name)
  pub quiet : (s t : S) → M.step s ≡ Some (t, None) → (name : OpId) → M.find t name ≡ M.find s name
  pub goes : (s t : S) (input : Input) (name : OpId) → M.take s input ≡ Some t → completed_by M s input ≡ Some name
      → (M.find t name ≡ None) × ((other : OpId) → other ≢ name → M.find t other ≡ M.find s other)
  pub stays : (s t : S) (input : Input) → M.take s input ≡ Some t → completed_by M s input ≡ None
      → (name : OpId) → M.find t name ≡ M.find s name

-- at most forty operations are outstanding: sixteen bytes of each port and eight writes
pub record AreFew {S : Type 0} (M : Machine S) (s : S) : Type 0 where
  pub names : List OpId
  pub few : length names ≤ 40
  pub all : (name : OpId) (o : Operation) → M.find s name ≡ Some o → Contains names name

-- and that stays so, whatever moves the machine makes from here
abbrev pub IsFrugal : {S : Type 0} → Machine S → S → Type 0
IsFrugal {S} M s = (moves : List Move) (t : S) → Runs M s moves t → AreFew M t
