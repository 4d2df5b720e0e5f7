-- What the calls that only look at a host give: of whatever node of the protocol its node is, or without a node.
use Rattle.std.specs.Prelude.{◌≡◌, ℕ, nat_lt, if◌then◌else◌, Option, Some, None, List, [], ◌∷◌}
use Rattle.event_callbacks.specs.declared.devices.TheConstants.{PORTS}
use Rattle.ft_node.specs.AnyNode.{IsNode, IsRole}
use Rattle.ft_node.specs.Guests.{shown_machine}
use Rattle.ft_node.specs.Roles.{node_count}
use Rattle.ft_node.specs.declared.node.Node as code
use Rattle.guest_lockstep.specs.Machine.{Machine}
use Rattle.host_node.specs.declared.host.Hosted.{Hosted}
use Rattle.host_node.specs.declared.host.Hosted.TheVariants as hosted
use Rattle.pair_events.specs.declared.reply.Role as shown
use Rattle.pair_events.specs.declared.reply.Role.TheVariants as role
use Rattle.pair_protocol.specs.Copying.{Copying}
use Rattle.pair_protocol.specs.Node.{Node}

-- the keys of each port that a guest has taken, if there is one
abbrev pub keys_of : {S : Type 0} → Machine S → Option S → List ℕ
keys_of M None = 0 ∷ 0 ∷ []
keys_of M (Some s) = M.keys s 0 ∷ M.keys s 1 ∷ []

-- the oldest byte of a port that no terminal has accepted
abbrev pub due_of : {S : Type 0} → Machine S → Option S → ℕ → Option ℕ
due_of M None port = None
due_of M (Some s) port = if nat_lt port PORTS then M.due_byte s port else None

-- a node has a role, and it is shown as that
abbrev pub IsShownAs : {S : Type 0} → Node S → Option shown.Role → Type 0
IsShownAs x None = ⊥
IsShownAs x (Some r) = IsRole x r

module _ {B S : Type 0} {H : Type 0} (state : B → S) (M : Machine S) where
  -- of whatever node of the protocol a node is
  abbrev pub OfNode : code.Node B H → (Node S → Type 0) → Type 0
  OfNode node Is = (C : Copying S) (drives : ℕ) (x : Node S) → IsNode state M C drives node x → Is x

  -- the same of what a host has; without a node a look gives this
  abbrev pub OfHosted : {A : Type 0} → Hosted B H → (without given : A) → (Node S → Type 0) → Type 0
  OfHosted (hosted.Spare callbacks) without given Is = given ≡ without
  OfHosted (hosted.Node node) without given Is = OfNode node Is
  OfHosted hosted.Halted without given Is = given ≡ without

  -- the role of its node: a spare has none, and one whose node has halted is halted
  abbrev pub HasRole : Hosted B H → Option shown.Role → Type 0
  HasRole (hosted.Spare callbacks) given = given ≡ None
  HasRole (hosted.Node node) given = OfNode node (λ x. IsShownAs x given)
  HasRole hosted.Halted given = given ≡ Some role.Halted

  abbrev pub HasGeneration : Hosted B H → ℕ → Type 0
  HasGeneration h given = OfHosted h 0 given (λ x. x.generation ≡ given)

  abbrev pub HasCount : Hosted B H → ℕ → Type 0
  HasCount h given = OfHosted h 0 given (λ x. node_count M x x.role ≡ given)

  -- its guest
  abbrev pub HasGuest : Hosted B H → Option S → Type 0
  HasGuest h given = OfHosted h None given (λ x. given ≡ shown_machine x)

  abbrev pub HasKeys : Hosted B H → List ℕ → Type 0
  HasKeys h given = OfHosted h (0 ∷ 0 ∷ []) given (λ x. given ≡ keys_of M (shown_machine x))

  abbrev pub HasDue : Hosted B H → ℕ → Option ℕ → Type 0
  HasDue h port given = OfHosted h None given (λ x. given ≡ due_of M (shown_machine x) port)
