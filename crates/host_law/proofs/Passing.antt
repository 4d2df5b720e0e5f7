-- What passes one refusal after another, of the world that a fleet shows.
use Rattle.std.proofs.Common.{[], ◌<◌, ◌∙◌, ◌∷◌, ◌≡◌, ◌≤◌, Bool, List, None, Option, Some, ap, arith, cond, false, length, refl, subst, suc, sym, true, zero, ℕ}
use Rattle.std.specs.Prelude.{◌==◌, ◌||◌, is_none, nat_le, nat_lt, slice_get}
use Rattle.std.proofs.lemmas.Bool.{le-ltb, lt-leb, ne_eqb}
use Rattle.event_callbacks.specs.declared.operations.OpId.TheVariants as id
use Rattle.pair_protocol.specs.Refusals.{no_port, no_such, not_accepted, not_typed}
use Rattle.pair_protocol.proofs.Passed.{node-passed}
use Rattle.pair_protocol.proofs.Traces.Lists.{same_some}
use Rattle.pair_protocol.specs.Settled.{highest}
use Rattle.host_law.specs.Host.{Passes}
use Rattle.host_law.proofs.Words.{Fault, HasPort, Node, OpId, PORTS, Spare, Unknown, World, accepted, at_node, fault_if, first_of, is_role, terminal}

-- ---- refusals, one after another

pub both-pass : (a b : Option Fault) → a ≡ None → b ≡ None → first_of (a ∷ b ∷ []) ≡ None
both-pass a b e f = ap (λ z. first_of (z ∷ b ∷ [])) e ∙ ap (λ z. first_of (z ∷ [])) f

pub stands-not : (b : Bool) (fault : Fault) → b ≡ false → fault_if b fault ≡ None
stands-not b fault e = ap (λ z. fault_if z fault) e

pub typed-there : {S : Type 0} (w : World S) (port index byte : ℕ) → slice_get (terminal w port).typed index ≡ Some byte →
    not_typed w port index ≡ None
typed-there w port index byte is = ap (λ o. fault_if (is_none o) Unknown) is

pub or-false : (a b : Bool) → a ≡ false → b ≡ false → (a || b) ≡ false
or-false a b e f = ap (λ z. z || b) e ∙ f

pub accepted-there : {S : Type 0} (w : World S) (port number count : ℕ) → 1 ≤ number → number ≤ count →
    count ≤ length (accepted w port) → not_accepted w port number ≡ None
accepted-there w port number count low few all =
    stands-not ((number == 0) || nat_lt (length (accepted w port)) number) Unknown
    (or-false (number == 0) (nat_lt (length (accepted w port)) number) (ne_eqb number 0 (λ e. omega (arith, low, e)))
    (le-ltb (length (accepted w port)) number (omega (arith, few, all))))

pub port-there : {S : Type 0} (w : World S) (port : ℕ) → length w.terminals ≡ PORTS → port < PORTS →
    no_port w port ≡ None
port-there w port e low =
    stands-not (nat_le (length w.terminals) port) Unknown
    (lt-leb (length w.terminals) port (subst (λ n. port < n) (sym e) low))

pub name-there : {S : Type 0} (w : World S) (name : OpId) → length w.terminals ≡ PORTS → HasPort name →
    no_such w name ≡ None
name-there w (id.Byte port number) e low = port-there w port e low
name-there w (id.Write number) e low = refl

-- what passes is no spare host, and passes what refuses the node no more
pub passes-node : {S : Type 0} (x : Node S) (part : Node S → Option Fault) → Passes x part → x.role ≡ Spare → ⊥
passes-node x part p = (node-passed (Some x) x part refl p).0

pub passes-too : {S : Type 0} (x : Node S) (part also : Node S → Option Fault) → Passes x part → also x ≡ None →
    at_node (Some x) also ≡ None
passes-too x part also p e = go (is_role x.role Spare) p
  where
    go : (b : Bool) → cond b (Some Unknown) (part x) ≡ None → cond b (Some Unknown) (also x) ≡ None
    go true q = absurd (cc)
    go false q = e

-- no node is of a higher generation than the highest
pub at-most-highest : {S : Type 0} (nodes : List (Node S)) (n : ℕ) (x : Node S) → slice_get nodes n ≡ Some x →
    x.generation ≤ highest nodes
at-most-highest [] n x e = absurd (cc)
at-most-highest {S} (y ∷ nodes) zero x e =
    let s = same_some y x (Some y) refl e in
    let g = ap (λ (v : Node S). v.generation) s in
    omega (arith, g)
at-most-highest (y ∷ nodes) (suc n) x e = let k = at-most-highest nodes n x e in omega (arith, k)

-- a place is past the end
pub past-end : {A : Type 0} (xs : List A) (n : ℕ) → slice_get xs n ≡ None → length xs ≤ n
past-end [] n e = omega arith
past-end (x ∷ xs) zero e = absurd (cc)
past-end (x ∷ xs) (suc n) e = let k = past-end xs n e in omega (arith, k)
