-- A node that is running halts.
use Rattle.std.proofs.Common.{◌≡◌, ℕ, Ok, ap, not, refl, true}
use Rattle.ft_node.proofs.Words.{Copying, IsNode, Machine, Node, WrongRole, fault_if, halts, stop_refusal}
use Rattle.ft_node.specs.Calls as calls
use Rattle.ft_node.specs.declared.halted.Halted.{Halted}
use Rattle.ft_node.specs.declared.node.Node as code
use Rattle.ft_node.specs.declared.node.Node.TheVariants as node
use Rattle.ft_node.proofs.PrimaryRefusals.{allowed}

running : {S : Type 0} (x : Node S) (Is : Node S → Type 0) → x.running ≡ true → Is (halts x)
    → calls.Stops x (Ok tt) Is
running x Is up after =
    allowed (Unit {0}) (stop_refusal x) (Ok tt) _ _ (ap (λ b. fault_if (not b) WrongRole) up)
    (record { y = halts x; done = refl; after = after })

pub halting : {B S : Type 0} {H : Type 0} (state : B → S) (M : Machine S) (C : Copying S) (drives : ℕ)
    (here : code.Node B H) (x : Node S) (Is : Node S → Type 0) → ((h : Halted) → here ≡ node.Halted h → ⊥)
    → IsNode state M C drives here x → Is (halts x) → calls.Stops x (Ok tt) Is
halting state M C drives (node.Primary p) x Is other is after = running x Is is.up after
halting state M C drives (node.Backup b) x Is other is after = running x Is is.up after
halting state M C drives (node.Joining j) x Is other is after = running x Is is.up after
halting state M C drives (node.Draining d) x Is other is after = running x Is is.up after
halting state M C drives (node.Alone a) x Is other is after = running x Is is.up after
halting state M C drives (node.Halted h) x Is other is after = absurd (other h refl)
