-- The outstanding operations: a finite map from names to operations, and for how many more there is room.
use Rattle.std.specs.Prelude.{◌≡◌, ◌≢◌, ℕ, ◌+◌, ◌-◌, max, nat_lt, Bool, if◌then◌else◌, List, [], ◌∷◌, Option, Some, None, is_some, Result, refl, false, ◌==◌, ◌&&◌}
use Rattle.std.specs.Option.{ok_or}
use Rattle.std.specs.declared.cmp.Ordering.{Ordering}
use Rattle.std.specs.Ordering.{nat_cmp}
use Rattle.std.specs.Cmp.Lexicographic.{slice_cmp}
use Rattle.std.specs.Coded.{Coded, code_by, coded×, coded_ℕ}
use Rattle.std.specs.FinMap as map
use Rattle.i8080_words.specs.declared.refusal.Fault.{Fault}
use Rattle.i8080_words.specs.declared.refusal.Fault.TheVariants.{NotDue}
use Rattle.event_callbacks.specs.declared.operations.OpId.{OpId}
use Rattle.event_callbacks.specs.declared.operations.OpId.TheVariants as id
use Rattle.event_callbacks.specs.declared.operations.Operation.{Operation}
use Rattle.event_callbacks.specs.declared.operations.Operation.TheVariants as operation

-- the name of an operation
abbrev pub id_of : Operation → OpId
id_of (operation.Byte port number byte) = id.Byte port number
id_of (operation.Write write) = id.Write write.number

-- whether two names are equal
abbrev pub same_name : OpId → OpId → Bool
same_name (id.Byte port number) (id.Byte other_port other) = (port == other_port) && (number == other)
same_name (id.Byte port number) (id.Write other) = false
same_name (id.Write number) (id.Byte other_port other) = false
same_name (id.Write number) (id.Write other) = number == other

-- a name spelled as numbers, the first of which says what is named
abbrev pub spelling_of : OpId → List ℕ
spelling_of (id.Byte port number) = 0 ∷ port ∷ number ∷ []
spelling_of (id.Write number) = 1 ∷ number ∷ []

-- names in an order: bytes by port and number, and then writes by number
abbrev pub name_cmp : OpId → OpId → Ordering
name_cmp i j = slice_cmp nat_cmp (spelling_of i) (spelling_of j)

-- operations by name
abbrev pub Operations : Type 0
Operations = map.FinMap name_cmp Operation

-- the operation of this name
abbrev pub operation_at : Operations → OpId → Option Operation
operation_at m i = map.get m i

-- an operation is added
abbrev pub with_operation : Operations → Operation → Operations
with_operation m op = map.insert m (id_of op) op

-- the operation of this name is removed
abbrev pub without_operation : Operations → OpId → Operations
without_operation m i = map.remove m i

-- after an operation is added, it is under its name, and every other name has what it had
pub record Comes (old new : Operations) (op : Operation) : Type 0 where
  pub itself : operation_at new (id_of op) ≡ Some op
  pub others : (j : OpId) → j ≢ id_of op → operation_at new j ≡ operation_at old j

-- after an operation is removed, its name has none, and every other name has what it had
pub record Goes (old new : Operations) (i : OpId) : Type 0 where
  pub itself : operation_at new i ≡ None
  pub others : (j : OpId) → j ≢ i → operation_at new j ≡ operation_at old j

-- the operations that are outstanding, and for how many more there is room
pub record Outstanding : Type 0 where
  pub operations : Operations
  pub spare : ℕ

-- they are told apart by their two parts
abbrev pub outstanding_code : Coded OpId → Coded Operation → Coded Outstanding
outstanding_code id_code operation_code =
    code_by
    (Operations × ℕ)
    (coded× (map.code id_code operation_code) coded_ℕ)
    (λ o. (o.operations, o.spare))
    (λ p. record { operations = p.0; spare = p.1 })
    (λ _. refl)

-- no operations, and room for none
abbrev pub nothing_outstanding : Outstanding
nothing_outstanding = record { operations = map.empty; spare = 0 }

-- there is room for one more operation
abbrev pub has_room : Outstanding → Bool
has_room o = nat_lt 0 o.spare

-- room for at least one more
abbrev pub after_reserve : Outstanding → Outstanding
after_reserve o = record o { spare = max 1 o.spare }

-- an operation takes up room for one
abbrev pub after_issue : Outstanding → Operation → Outstanding
after_issue o op = record { operations = with_operation o.operations op; spare = o.spare - 1 }

-- the answer is the operation of this name, or a refusal if there is none
abbrev pub complete_answer : Outstanding → OpId → Result Operation Fault
complete_answer o i = ok_or (operation_at o.operations i) NotDue

-- it is no longer outstanding, and leaves room for one; a refusal changes nothing
abbrev pub after_complete : Outstanding → OpId → Outstanding
after_complete o i =
    if is_some (operation_at o.operations i)
    then record { operations = without_operation o.operations i; spare = o.spare + 1 }
    else o

-- the same operations, with room for no more
abbrev pub without_room : Outstanding → Outstanding
without_room o = record o { spare = 0 }
