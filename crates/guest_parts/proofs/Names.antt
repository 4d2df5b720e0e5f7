-- Operations under their names: one that is added or removed leaves all others under theirs.
use Rattle.std.proofs.Common.{◌≡◌, ◌≢◌, ℕ, false, Option, Some, None, is_some, refl, sym, subst, ⊎_elim}
use Rattle.std.specs.Prelude.{IfSome}
use Rattle.event_callbacks.specs.declared.operations.OpId.{OpId}
use Rattle.event_callbacks.specs.declared.operations.OpId.TheVariants.{Byte, Write}
use Rattle.event_callbacks.specs.declared.operations.Operation.{Operation}
use Rattle.event_callbacks.specs.Operations.{Operations, operation_at, with_operation, without_operation, id_of}
use Rattle.event_callbacks.proofs.Names.{name_cases}
use Rattle.event_callbacks.proofs.OperationMap.{operation_at-with_named, operation_at-with_other, operation_at-without_named, operation_at-without_other}

pub no_operation : {X : Type 0} (o : Option X) → is_some o ≡ false → o ≡ None
no_operation None e = refl
no_operation (Some x) e = cc

pub other_port : (q p k n : ℕ) → q ≢ p → Byte q k ≢ Byte p n
other_port q p k n differs e = differs (cc)

pub other_byte : (p k n : ℕ) → k ≢ n → Byte p k ≢ Byte p n
other_byte p k n differs e = differs (cc)

pub other_write : (k n : ℕ) → k ≢ n → Write k ≢ Write n
other_write k n differs e = differs (cc)

pub no_write : (p k n : ℕ) → Byte p k ≢ Write n
no_write p k n e = cc

pub no_byte : (p k n : ℕ) → Write n ≢ Byte p k
no_byte p k n e = cc

-- each operation is under its own name
abbrev pub AreNamed : Operations → Type 0
AreNamed operations = (name : OpId) → IfSome (operation_at operations name) (λ op. id_of op ≡ name)

pub named-with : (operations : Operations) (op : Operation) → AreNamed operations
    → AreNamed (with_operation operations op)
named-with operations op named name =
    let P : Option Operation → Type 0 = λ o. IfSome o (λ x. id_of x ≡ name) in
    ⊎_elim
    (λ e. subst P (sym (operation_at-with_named operations op name e)) (sym e))
    (λ d. subst P (sym (operation_at-with_other operations op name d)) (named name))
    (name_cases name (id_of op))

pub named-without : (operations : Operations) (gone : OpId) → AreNamed operations
    → AreNamed (without_operation operations gone)
named-without operations gone named name =
    let P : Option Operation → Type 0 = λ o. IfSome o (λ x. id_of x ≡ name) in
    ⊎_elim
    (λ e. subst P (sym (operation_at-without_named operations gone name e)) tt)
    (λ d. subst P (sym (operation_at-without_other operations gone name d)) (named name))
    (name_cases name gone)
