-- What is known of a node and of a message if no refusal applies.
use Rattle.std.proofs.Common.{[], ◌∙◌, ◌∷◌, ◌≡◌, ◌⊎◌, Bool, List, None, Option, Some, ap, cond, false, inl, inr, not, refl, subst, sym, true, ℕ}
use Rattle.std.proofs.lemmas.Bool.{not-false}
use Rattle.std.specs.Prelude.{◌&&◌, ◌||◌, slice_get}
use Rattle.pair_protocol.proofs.Words.{Acts, Alone, Among, Backup, Change, Changes, Copying, Draining, Joining, Machine, Node, Primary, Replaying, Role, Serving, Spare, Stays, Then, World, acts_as, is_role}
use Rattle.i8080_words.specs.declared.refusal.Fault.TheVariants.{Lost, Unknown, WrongRole}
use Rattle.i8080_words.specs.declared.refusal.Fault.{Fault}
use Rattle.pair_protocol.specs.Refusals.{at_node, fault_if, first_of, role_refusal, serves}

pub unchanged : {S : Type 0} (M : Machine S) (C : Copying S) (w new : World S) → new ≡ w → Changes M C w new
unchanged M C w new e = subst (λ v. Changes M C w v) (sym e) Stays

pub changed : {S : Type 0} (M : Machine S) (C : Copying S) (w new v : World S) → new ≡ v → Change M C w v →
    Changes M C w new
changed M C w new v e c = subst (λ u. Changes M C w u) (sym e) (Then c Stays)

pub changes-append : {S : Type 0} (M : Machine S) (C : Copying S) (w v new : World S) → Changes M C w v →
    Changes M C v new → Changes M C w new
changes-append M C w v new Stays d = d
changes-append M C w v new (Then {mid = u} c cs) d = Then c (changes-append M C u v new cs d)

-- ---- what is known if no refusal applies

pub first-passed : (o : Option Fault) (rest : List (Option Fault)) → first_of (o ∷ rest) ≡ None →
    (o ≡ None) × (first_of rest ≡ None)
first-passed None rest h = (refl, h)
first-passed (Some fault) rest h = (cc)

pub only-passed : (o : Option Fault) → first_of (o ∷ []) ≡ None → o ≡ None
only-passed o h = (first-passed o [] h).0

pub not-stands : (b : Bool) (fault : Fault) → fault_if b fault ≡ None → b ≡ false
not-stands true fault h = (cc)
not-stands false fault h = refl

pub passes-if : (b : Bool) (fault : Fault) → fault_if (not b) fault ≡ None → b ≡ true
passes-if b fault h = not-false b (not-stands (not b) fault h)

pub and-false : (a b : Bool) → a ≡ true → (a && b) ≡ false → b ≡ false
and-false true b e h = h
and-false false b e h = (cc)

pub role_of : (a b : Role) → is_role a b ≡ true → a ≡ b
role_of Primary Primary h = refl
role_of Backup Backup h = refl
role_of Joining Joining h = refl
role_of Draining Draining h = refl
role_of Alone Alone h = refl
role_of Spare Spare h = refl
role_of a b h = (cc)

-- the role in which it acts
pub acts-role : {S : Type 0} (w : World S) (n : ℕ) (x : Node S) (rs : List Role) → slice_get w.nodes n ≡ Some x →
    acts_as x rs ≡ true → (r : Role) × Acts w n x r × Among r rs
acts-role w n x [] t h = (cc)
acts-role {S} w n x (r ∷ rs) t h = go (x.running) (is_role x.role r) refl refl (λ k. acts-role w n x rs t k) h
  where
    go : (u v : Bool) → x.running ≡ u → is_role x.role r ≡ v →
        (acts_as x rs ≡ true → (q : Role) × Acts w n x q × Among q rs) → ((u && v) || acts_as x rs) ≡ true →
        (q : Role) × Acts w n x q × Among q (r ∷ rs)
    go true true eu ev rest k = (r, record { there = t; up = eu; role_is = role_of x.role r ev }, inl refl)
    go true false eu ev rest k = let a = rest k in (a.0, a.1, inr a.2)
    go false v eu ev rest k = let a = rest k in (a.0, a.1, inr a.2)

pub one_role : (r q : Role) → Among r (q ∷ []) → r ≡ q
one_role r q (inl h) = h
one_role r q (inr h) = absurd h

pub two_roles : (r p q : Role) → Among r (p ∷ q ∷ []) → (r ≡ p) ⊎ (r ≡ q)
two_roles r p q (inl h) = inl h
two_roles r p q (inr (inl h)) = inr h
two_roles r p q (inr (inr h)) = absurd h

pub acts-in : {S : Type 0} (w : World S) (n : ℕ) (x : Node S) (q : Role) → slice_get w.nodes n ≡ Some x →
    role_refusal (q ∷ []) x ≡ None → Acts w n x q
acts-in w n x q t h = let a = acts-role w n x (q ∷ []) t (passes-if (acts_as x (q ∷ [])) WrongRole h) in
    record { there = t; up = a.1.up; role_is = a.1.role_is ∙ one_role a.0 q a.2 }

pub serving : {S : Type 0} (w : World S) (n : ℕ) (x : Node S) → slice_get w.nodes n ≡ Some x → serves x ≡ None →
    (r : Role) × Acts w n x r × Serving r
serving w n x t h = let a = acts-role w n x (Primary ∷ Alone ∷ []) t
    (passes-if (acts_as x (Primary ∷ Alone ∷ [])) WrongRole h) in (a.0, a.1, two_roles a.0 Primary Alone a.2)

pub replaying : {S : Type 0} (w : World S) (n : ℕ) (x : Node S) → slice_get w.nodes n ≡ Some x →
    role_refusal (Backup ∷ Draining ∷ []) x ≡ None → (r : Role) × Acts w n x r × Replaying r
replaying w n x t h = let a = acts-role w n x (Backup ∷ Draining ∷ []) t
    (passes-if (acts_as x (Backup ∷ Draining ∷ [])) WrongRole h) in (a.0, a.1, two_roles a.0 Backup Draining a.2)

-- no refusal of the node's part applies, and the node is no spare host
pub node-passed : {S : Type 0} (o : Option (Node S)) (x : Node S) (part : Node S → Option Fault) → o ≡ Some x →
    at_node o part ≡ None → (x.role ≡ Spare → ⊥) × (part x ≡ None)
node-passed o x part e h = go (is_role x.role Spare) refl (subst (λ z. at_node z part ≡ None) e h)
  where
    go : (b : Bool) → is_role x.role Spare ≡ b → cond b (Some Unknown) (part x) ≡ None →
        (x.role ≡ Spare → ⊥) × (part x ≡ None)
    go true t k = (cc)
    go false t k = (λ s. (let u : is_role x.role Spare ≡ true = ap (λ r. is_role r Spare) s in (cc)), k)

-- a node that lost is no spare host
pub lost-no_spare : {S : Type 0} (o : Option (Node S)) (x : Node S) (part : Node S → Option Fault) → o ≡ Some x →
    at_node o part ≡ Some Lost → x.role ≡ Spare → ⊥
lost-no_spare o x part e h s =
    let u : is_role x.role Spare ≡ true = ap (λ r. is_role r Spare) s in
    let k : cond (is_role x.role Spare) (Some Unknown) (part x) ≡ Some Lost =
    subst (λ z. at_node z part ≡ Some Lost) e h in
    let j : Some Unknown ≡ Some Lost = subst (λ b. cond b (Some Unknown) (part x) ≡ Some Lost) u k in
    (cc)
