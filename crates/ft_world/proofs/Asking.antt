-- Whether a node would do what it is asked for is whether nothing refuses it.
use Rattle.std.proofs.Common.{◌≡◌, ℕ, Err, None, Ok, Option, Result, Some, ap, refl}
use Rattle.std.specs.Prelude.{is_none, is_ok, slice_get}
use Rattle.ft_world.proofs.AtHosts.{AsksNode}
use Rattle.ft_world.proofs.Words.{Fault, Gives, Never, Node, OfNode, Unless, World, at_node}

gives_unless : {A : Type 0} (o : Option Fault) (r : Result A Fault) (needs : Type 0) (D : A → Type 0) → (needs → ⊥) →
    Unless o r (Unit {0}) (Gives r needs D) → is_ok r ≡ is_none o
gives_unless (Some fault) r needs D never u = ap is_ok u.0
gives_unless None (Ok v) needs D never u = refl
gives_unless None (Err fault) needs D never u = absurd (never u.1)

-- a node that needs no memory for its answer
pub would_give : {A S : Type 0} (w : World S) (n : ℕ) (part : Node S → Option Fault) (says : A → Node S → Type 0)
    (result : Result A Fault) → AsksNode w n part Never says result →
    is_ok result ≡ is_none (at_node (slice_get w.nodes n) part)
would_give w n part says result asks =
    gives_unless (at_node (slice_get w.nodes n) part) result (OfNode w n Never) (λ v. OfNode w n (says v))
    (λ never. never.said) asks.answer
