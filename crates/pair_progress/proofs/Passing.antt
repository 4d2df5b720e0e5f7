-- When no refusal applies.
use Rattle.std.proofs.Common.{◌≡◌, Bool, true, false, cond, not, Option, Some, None, List, ◌∷◌, refl, ap, ◌∙◌}
use Rattle.std.specs.Prelude.{◌&&◌, ◌||◌}
use Rattle.i8080_words.specs.declared.refusal.Fault.{Fault}
use Rattle.i8080_words.specs.declared.refusal.Fault.TheVariants.{Unknown, WrongRole}
use Rattle.pair_protocol.proofs.Words.{Node, Role, Spare, acts_as, is_role}
use Rattle.pair_protocol.specs.Refusals.{at_node, fault_if, first_of, role_refusal}

-- a node that is no spare host, whose part refuses nothing
pub at_here : {S : Type 0} (o : Option (Node S)) (x : Node S) (part : Node S → Option Fault) → o ≡ Some x →
    is_role x.role Spare ≡ false → part x ≡ None → at_node o part ≡ None
at_here o x part there real passes =
    ap (λ z. at_node z part) there ∙ ap (λ b. cond b (Some Unknown) (part x)) real ∙ passes

pub not_spare : (r q : Role) → r ≡ q → is_role q Spare ≡ false → is_role r Spare ≡ false
not_spare r q e k = ap (λ z. is_role z Spare) e ∙ k

or_true : (b : Bool) → (b || true) ≡ true
or_true true = refl
or_true false = refl

pub acts_first : {S : Type 0} (x : Node S) (r : Role) (rs : List Role) → x.running ≡ true → x.role ≡ r →
    is_role r r ≡ true → acts_as x (r ∷ rs) ≡ true
acts_first x r rs up role same =
    ap (λ b. (b && is_role x.role r) || acts_as x rs) up
    ∙ ap (λ q. (true && is_role q r) || acts_as x rs) role
    ∙ ap (λ b. (true && b) || acts_as x rs) same

pub acts_later : {S : Type 0} (x : Node S) (r : Role) (rs : List Role) → acts_as x rs ≡ true →
    acts_as x (r ∷ rs) ≡ true
acts_later x r rs h =
    ap (λ b. (x.running && is_role x.role r) || b) h ∙ or_true (x.running && is_role x.role r)

pub in_role : {S : Type 0} (x : Node S) (rs : List Role) → acts_as x rs ≡ true → role_refusal rs x ≡ None
in_role x rs h = ap (λ b. fault_if (not b) WrongRole) h

pub not_if : (b : Bool) (fault : Fault) → b ≡ false → fault_if b fault ≡ None
not_if b fault h = ap (λ z. fault_if z fault) h

pub passed : (o : Option Fault) (rest : List (Option Fault)) → o ≡ None → first_of rest ≡ None →
    first_of (o ∷ rest) ≡ None
passed o rest none k = ap (λ z. first_of (z ∷ rest)) none ∙ k
