-- The operations in the slots of a slab.
use Rattle.std.specs.Prelude.{◌≡◌, ◌≢◌, ℕ, List, [], ◌∷◌, Option, Some, None, slice_index_or}
use Rattle.std.specs.FinMap as map
use Rattle.event_callbacks.specs.declared.operations.OpId.{OpId}
use Rattle.event_callbacks.specs.declared.operations.Operation.{Operation}
use Rattle.event_callbacks.specs.Operations.{Operations, id_of, with_operation}

-- an operation or nothing at each key from 0 on
abbrev pub Slots : Type 0
Slots = List (Option Operation)

-- what the slot of this key has
abbrev pub slot_of : Slots → ℕ → Option Operation
slot_of slots key = slice_index_or slots key None

-- the operations in these slots
abbrev pub operations_of : Slots → Operations
operations_of [] = map.empty
operations_of (None ∷ rest) = operations_of rest
operations_of (Some op ∷ rest) = with_operation (operations_of rest) op

-- no name is in two slots
abbrev pub IsNamedOnce : Slots → Type 0
IsNamedOnce slots =
    (key other : ℕ) (a b : Operation) → slot_of slots key ≡ Some a → slot_of slots other ≡ Some b
    → id_of a ≡ id_of b → key ≡ other

-- the slot of this key has the operation of this name
pub record IsAt (slots : Slots) (i : OpId) (key : ℕ) : Type 0 where
  pub op : Operation
  pub slot : slot_of slots key ≡ Some op
  pub name : id_of op ≡ i

-- no slot has the operation of this name
abbrev pub IsNowhere : Slots → OpId → Type 0
IsNowhere slots i = (key : ℕ) (op : Operation) → slot_of slots key ≡ Some op → id_of op ≢ i
