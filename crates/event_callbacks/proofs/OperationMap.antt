-- What the map of operations has after one is added or removed: under its name, the one that was added, or nothing; under
-- every other name, what it had. Two maps that have the same operations are equal.
use Rattle.std.proofs.Common.{◌≡◌, ◌≢◌, cond, Option, Some, None, refl, sym, ap, ◌∙◌}
use Rattle.std.specs.FinMap as map
use Rattle.event_callbacks.specs.declared.operations.OpId.{OpId}
use Rattle.event_callbacks.specs.declared.operations.Operation.{Operation}
use Rattle.event_callbacks.specs.Operations.{Operations, id_of, name_cmp, with_operation, without_operation, operation_at}
use Rattle.event_callbacks.proofs.Names.{name_cmp_total, name_cmp-IsAntisymmetric, same_from_equal, same_from_different}

pub operation_at-empty : (i : OpId) → operation_at map.empty i ≡ None
operation_at-empty i = map.get-empty name_cmp i

-- under a name that is the operation's
pub operation_at-with_named : (m : Operations) (op : Operation) (j : OpId) → j ≡ id_of op
    → operation_at (with_operation m op) j ≡ Some op
operation_at-with_named m op j e =
    map.get-insert name_cmp_total m (id_of op) op j
    ∙ ap (λ b. cond b (Some op) (operation_at m j)) (same_from_equal j _ e)

pub operation_at-with : (m : Operations) (op : Operation) → operation_at (with_operation m op) (id_of op) ≡ Some op
operation_at-with m op = operation_at-with_named m op (id_of op) refl

pub operation_at-with_other : (m : Operations) (op : Operation) (j : OpId) → j ≢ id_of op
    → operation_at (with_operation m op) j ≡ operation_at m j
operation_at-with_other m op j differs =
    map.get-insert name_cmp_total m (id_of op) op j
    ∙ ap (λ b. cond b (Some op) (operation_at m j)) (same_from_different j _ differs)

-- under a name that is the one that went
pub operation_at-without_named : (m : Operations) (i j : OpId) → j ≡ i → operation_at (without_operation m i) j ≡ None
operation_at-without_named m i j e =
    map.get-remove name_cmp_total m i j ∙ ap (λ b. cond b None (operation_at m j)) (same_from_equal j i e)

pub operation_at-without : (m : Operations) (i : OpId) → operation_at (without_operation m i) i ≡ None
operation_at-without m i = operation_at-without_named m i i refl

pub operation_at-without_other : (m : Operations) (i j : OpId) → j ≢ i
    → operation_at (without_operation m i) j ≡ operation_at m j
operation_at-without_other m i j differs =
    map.get-remove name_cmp_total m i j ∙ ap (λ b. cond b None (operation_at m j)) (same_from_different j i differs)

same_option : {X : Type 0} (a b : Option X) → ((x : X) → a ≡ Some x → b ≡ Some x)
    → ((x : X) → b ≡ Some x → a ≡ Some x) → a ≡ b
same_option None None there back = refl
same_option None (Some y) there back = back y refl
same_option (Some x) b there back = sym (there x refl)

pub same_operations : (m n : Operations)
    → ((i : OpId) (op : Operation) → operation_at m i ≡ Some op → operation_at n i ≡ Some op)
    → ((i : OpId) (op : Operation) → operation_at n i ≡ Some op → operation_at m i ≡ Some op) → m ≡ n
same_operations m n there back =
    map.same_map name_cmp_total name_cmp-IsAntisymmetric m n
    (λ i. same_option (operation_at m i) (operation_at n i) (there i) (back i))
