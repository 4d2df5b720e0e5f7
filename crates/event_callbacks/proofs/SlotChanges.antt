-- How the map changes with one slot of the slab. A slot that takes an operation with a new name adds it to the map, and
-- a slot that gives up its operation removes it from the map: on both sides of these two equations every name has the
-- same operation. Each name is still in at most one slot.
use Rattle.std.proofs.Common.{◌≡◌, ◌≢◌, ◌⊎◌, ℕ, Some, None, sym, ap, ◌∙◌, inl, inr}
use Rattle.std.proofs.lemmas.Bool.{cases_eq}
use Rattle.slab.specs.Slab.{Slab, Updates, get}
use Rattle.event_callbacks.specs.declared.operations.OpId.{OpId}
use Rattle.event_callbacks.specs.declared.operations.Operation.{Operation}
use Rattle.event_callbacks.specs.Operations.{id_of, operation_at, with_operation, without_operation}
use Rattle.event_callbacks.specs.Slots.{operations_of, slot_of, IsNamedOnce, IsNowhere}
use Rattle.event_callbacks.proofs.Names.{name_cases}
use Rattle.event_callbacks.proofs.OperationMap.{operation_at-with_named, operation_at-with_other, operation_at-without_named, operation_at-without_other, same_operations}
use Rattle.event_callbacks.proofs.Slots.{found, Holds-from_found, found-from_Holds, IsNowhere-from_none}

-- a vacant slot takes an operation whose name was not there
module _ (old new : Slab Operation) (key : ℕ) (op : Operation) (once : IsNamedOnce old.slots)
    (takes : Updates old new key (Some op)) (vacant : get old key ≡ None)
    (absent : operation_at (operations_of old.slots) (id_of op) ≡ None) where
  nowhere : IsNowhere old.slots (id_of op)
  nowhere = IsNowhere-from_none old.slots once (id_of op) absent

  -- an operation of the new slots is the one that came, or was in the same slot before
  came_or_was : (at : ℕ) (a : Operation) → slot_of new.slots at ≡ Some a
      → ((at ≡ key) × (a ≡ op)) ⊎ ((at ≢ key) × (slot_of old.slots at ≡ Some a))
  came_or_was at a slot =
      elim (cases_eq at key) [
        | inl is ↦ let here : Some a ≡ Some op = sym slot ∙ ap (slot_of new.slots) is ∙ takes.changed in inl (is, cc)
        | inr differs ↦ inr (differs, sym (takes.others at differs) ∙ slot)
      ]

  pub IsNamedOnce-takes : IsNamedOnce new.slots
  IsNamedOnce-takes first other a b at_first at_other e =
      elim (came_or_was first a at_first) [
        | inl a_came ↦ elim (came_or_was other b at_other) [
          | inl b_came ↦ a_came.0 ∙ sym b_came.0
          | inr b_was ↦ absurd (nowhere other b b_was.1 (sym e ∙ ap id_of a_came.1))
        ]
        | inr a_was ↦ elim (came_or_was other b at_other) [
          | inl b_came ↦ absurd (nowhere first a a_was.1 (e ∙ ap id_of b_came.1))
          | inr b_was ↦ once first other a b a_was.1 b_was.1 e
        ]
      ]

  -- what the new slots have under a name, the map with the operation has
  with-from_slots : (i : OpId) (a : Operation) → found new.slots i ≡ Some a
      → operation_at (with_operation (operations_of old.slots) op) i ≡ Some a
  with-from_slots i a e =
      let h = Holds-from_found new.slots i a e in
      elim (came_or_was h.key a h.slot) [
        | inl came ↦ operation_at-with_named _ op i (h.name ∙ ap id_of came.1) ∙ ap Some (sym came.1)
        | inr was ↦
            operation_at-with_other _ op i (λ is. nowhere h.key a was.1 (sym h.name ∙ is))
            ∙ found-from_Holds old.slots once i a (record { key = h.key; slot = was.1; name = h.name })
      ]

  -- and the converse
  slots-from_with : (i : OpId) (a : Operation) → operation_at (with_operation (operations_of old.slots) op) i ≡ Some a
      → found new.slots i ≡ Some a
  slots-from_with i a e =
      elim (name_cases i (id_of op)) [
        | inl is ↦
            found-from_Holds new.slots IsNamedOnce-takes i op (record { key = key; slot = takes.changed; name = is })
            ∙ sym (operation_at-with_named (operations_of old.slots) op i is) ∙ e
        | inr differs ↦
            let before = sym (operation_at-with_other (operations_of old.slots) op i differs) ∙ e in
            let h = Holds-from_found old.slots i a before in
            let elsewhere : h.key ≢ key = λ is. let same_slot = ap (slot_of old.slots) is in cc in
            let slot = takes.others h.key elsewhere ∙ h.slot in
            found-from_Holds new.slots IsNamedOnce-takes i a (record { key = h.key; slot = slot; name = h.name })
      ]

  pub operations_of-takes : operations_of new.slots ≡ with_operation (operations_of old.slots) op
  operations_of-takes = same_operations _ _ with-from_slots slots-from_with

-- a slot gives its operation up
module _ (old new : Slab Operation) (key : ℕ) (op : Operation) (once : IsNamedOnce old.slots)
    (gives : Updates old new key None) (held : get old key ≡ Some op) where
  -- an operation of the new slots was in the same slot before
  stayed : (at : ℕ) (a : Operation) → slot_of new.slots at ≡ Some a → (at ≢ key) × (slot_of old.slots at ≡ Some a)
  stayed at a slot =
      elim (cases_eq at key) [
        | inl is ↦ let same_slot = ap (slot_of new.slots) is in let gone = gives.changed in absurd (cc)
        | inr differs ↦ (differs, sym (gives.others at differs) ∙ slot)
      ]

  pub IsNamedOnce-gives : IsNamedOnce new.slots
  IsNamedOnce-gives first other a b at_first at_other e =
      once first other a b (stayed first a at_first).1 (stayed other b at_other).1 e

  -- what the new slots have under a name, the map without the operation has
  without-from_slots : (i : OpId) (a : Operation) → found new.slots i ≡ Some a
      → operation_at (without_operation (operations_of old.slots) (id_of op)) i ≡ Some a
  without-from_slots i a e =
      let h = Holds-from_found new.slots i a e in
      let was = stayed h.key a h.slot in
      operation_at-without_other _ (id_of op) i (λ is. was.0 (once h.key key a op was.1 held (sym h.name ∙ is)))
      ∙ found-from_Holds old.slots once i a (record { key = h.key; slot = was.1; name = h.name })

  -- and the converse
  slots-from_without : (i : OpId) (a : Operation)
      → operation_at (without_operation (operations_of old.slots) (id_of op)) i ≡ Some a → found new.slots i ≡ Some a
  slots-from_without i a e =
      elim (name_cases i (id_of op)) [
        | inl is ↦ let gone = operation_at-without_named (operations_of old.slots) (id_of op) i is in absurd (cc)
        | inr differs ↦
            let before = sym (operation_at-without_other (operations_of old.slots) (id_of op) i differs) ∙ e in
            let h = Holds-from_found old.slots i a before in
            let this : h.key ≡ key → a ≡ op = λ is. let same_slot = ap (slot_of old.slots) is in cc in
            let slot = gives.others h.key (λ is. differs (h.name ∙ ap id_of (this is))) ∙ h.slot in
            found-from_Holds new.slots IsNamedOnce-gives i a (record { key = h.key; slot = slot; name = h.name })
      ]

  pub operations_of-gives : operations_of new.slots ≡ without_operation (operations_of old.slots) (id_of op)
  operations_of-gives = same_operations _ _ without-from_slots slots-from_without
