-- The operations in the slots of a slab, as the map that callers see. Whatever the map has under a name is in some
-- slot, and if no name is in two slots, whatever is in a slot is in the map. So what a search of the slots finds is
-- what the map has.
use Rattle.std.proofs.Common.{◌≡◌, ◌≢◌, ℕ, suc, zero, [], ◌∷◌, Option, Some, None, refl, sym, ap, ◌∙◌, inl, inr}
use Rattle.event_callbacks.specs.declared.operations.OpId.{OpId}
use Rattle.event_callbacks.specs.declared.operations.Operation.{Operation}
use Rattle.event_callbacks.specs.Operations.{id_of, operation_at}
use Rattle.event_callbacks.specs.Slots.{Slots, operations_of, slot_of, IsNamedOnce, IsAt, IsNowhere}
use Rattle.event_callbacks.proofs.Names.{name_cases}
use Rattle.event_callbacks.proofs.OperationMap.{operation_at-empty, operation_at-with_named, operation_at-with_other}

-- what the map of these slots has under a name
abbrev pub found : Slots → OpId → Option Operation
found slots i = operation_at (operations_of slots) i

-- some slot has this operation, whose name is this one
pub record Holds (slots : Slots) (i : OpId) (op : Operation) : Type 0 where
  pub key : ℕ
  pub slot : slot_of slots key ≡ Some op
  pub name : i ≡ id_of op

Holds-cons : (first : Option Operation) (rest : Slots) (i : OpId) (op : Operation) → Holds rest i op
    → Holds (first ∷ rest) i op
Holds-cons first rest i op h = record { key = suc h.key; slot = h.slot; name = h.name }

-- what the map has, some slot has
pub Holds-from_found : (slots : Slots) (i : OpId) (op : Operation) → found slots i ≡ Some op → Holds slots i op
Holds-from_found [] i op e = let none = operation_at-empty i in cc
Holds-from_found (None ∷ rest) i op e = Holds-cons None rest i op (Holds-from_found rest i op e)
Holds-from_found (Some first ∷ rest) i op e =
    elim (name_cases i (id_of first)) [
      | inl is ↦
          let here : Some first ≡ Some op = sym (operation_at-with_named (operations_of rest) first i is) ∙ e in
          let this : first ≡ op = cc in
          record { key = zero; slot = here; name = is ∙ ap id_of this }
      | inr differs ↦
          let there = sym (operation_at-with_other (operations_of rest) first i differs) ∙ e in
          Holds-cons (Some first) rest i op (Holds-from_found rest i op there)
    ]

IsNamedOnce-tail : (first : Option Operation) (rest : Slots) → IsNamedOnce (first ∷ rest) → IsNamedOnce rest
IsNamedOnce-tail first rest once key other a b at_key at_other e =
    let same = once (suc key) (suc other) a b at_key at_other e in cc

-- an operation that is not the first one is further on
further : {A : Type 0} (first op : Operation) (rest : Slots) (key : ℕ) → slot_of (Some first ∷ rest) key ≡ Some op
    → first ≢ op → ((before : ℕ) → slot_of rest before ≡ Some op → A) → A
further first op rest zero at_key differs later = absurd (differs (cc))
further first op rest (suc before) at_key differs later = later before at_key

-- what some slot has, the map has
found_in : (slots : Slots) → IsNamedOnce slots → (i : OpId) (op : Operation) (key : ℕ) → slot_of slots key ≡ Some op
    → i ≡ id_of op → found slots i ≡ Some op
found_in [] once i op key at_key name = absurd (cc)
found_in (None ∷ rest) once i op zero at_key name = absurd (cc)
found_in (None ∷ rest) once i op (suc key) at_key name =
    found_in rest (IsNamedOnce-tail None rest once) i op key at_key name
found_in (Some first ∷ rest) once i op key at_key name =
    elim (name_cases i (id_of first)) [
      | inl is ↦
          let place : key ≡ zero = once key zero op first at_key refl (sym name ∙ is) in
          operation_at-with_named (operations_of rest) first i is ∙ sym (ap (slot_of (Some first ∷ rest)) place) ∙ at_key
      | inr differs ↦
          operation_at-with_other (operations_of rest) first i differs
          ∙ further first op rest key at_key (λ this. differs (name ∙ ap id_of (sym this)))
          (λ before at_before. found_in rest (IsNamedOnce-tail (Some first) rest once) i op before at_before name)
    ]

pub found-from_Holds : (slots : Slots) → IsNamedOnce slots → (i : OpId) (op : Operation) → Holds slots i op
    → found slots i ≡ Some op
found-from_Holds slots once i op h = found_in slots once i op h.key h.slot h.name

-- what a search of the slots finds, the map has, and what it does not find, the map does not have
pub operation_at-IsAt : (slots : Slots) → IsNamedOnce slots → (i : OpId) (key : ℕ) (h : IsAt slots i key)
    → operation_at (operations_of slots) i ≡ Some h.op
operation_at-IsAt slots once i key h = found_in slots once i h.op key h.slot (sym h.name)

pub operation_at-IsNowhere : (slots : Slots) (i : OpId) → IsNowhere slots i → operation_at (operations_of slots) i ≡ None
operation_at-IsNowhere slots i nowhere =
    elim (found slots i) as (λ r. found slots i ≡ r → r ≡ None) [
      | None ↦ λ e. refl
      | Some op ↦ λ e. let h = Holds-from_found slots i op e in absurd (nowhere h.key op h.slot (sym h.name))
    ] refl

-- a name that the map does not have is in no slot
pub IsNowhere-from_none : (slots : Slots) → IsNamedOnce slots → (i : OpId) → operation_at (operations_of slots) i ≡ None
    → IsNowhere slots i
IsNowhere-from_none slots once i none key op slot name =
    let some = found_in slots once i op key slot (sym name) in cc
