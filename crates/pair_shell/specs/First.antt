-- The operation of a guest that is completed first.
use Rattle.std.specs.Prelude.{◌≡◌, ◌<◌, true, Option, Some, None, is_some}
use Rattle.event_callbacks.specs.declared.operations.OpId.{OpId}
use Rattle.event_callbacks.specs.declared.operations.OpId.TheVariants as id
use Rattle.guest_lockstep.specs.Machine.{Machine}

-- it is a byte that is due at one of the two ports, or a write that is outstanding
abbrev pub IsDueOrOut : {S : Type 0} → Machine S → S → OpId → Type 0
IsDueOrOut M s (id.Byte port number) = (port < 2) × (M.due_byte s port ≡ Some number)
IsDueOrOut M s (id.Write number) = is_some (M.find s (id.Write number)) ≡ true

-- a write
abbrev pub IsFirstWrite : {S : Type 0} → Machine S → S → Option OpId → Type 0
IsFirstWrite M s None = Unit {0}
IsFirstWrite M s (Some (id.Byte port number)) = ⊥
IsFirstWrite M s (Some (id.Write number)) = is_some (M.find s (id.Write number)) ≡ true

-- the first operation; if there is none, no byte is due
abbrev pub IsFirst : {S : Type 0} → Machine S → S → Option OpId → Type 0
IsFirst M s None = (M.due_byte s 0 ≡ None) × (M.due_byte s 1 ≡ None)
IsFirst M s (Some name) = IsDueOrOut M s name
