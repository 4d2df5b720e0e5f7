-- How far a backup may be behind, and whose guest waits for it.
use Rattle.std.specs.Prelude.{◌≡◌, ℕ, ◌-◌, nat_lt, nat_le, Bool, true, false, Option, Some, None}
use Rattle.ft_node.specs.AnyNode.{IsNode}
use Rattle.ft_node.specs.Roles.{node_count}
use Rattle.ft_node.specs.declared.node.Node as code
use Rattle.ft_node.specs.declared.ran.Lead.{Lead}
use Rattle.guest_lockstep.specs.Machine.{Machine}
use Rattle.host_node.specs.Looks.{OfHosted}
use Rattle.host_node.specs.declared.host.Hosted.{Hosted}
use Rattle.host_node.specs.declared.host.Hosted.TheVariants as hosted
use Rattle.pair_events.specs.declared.reply.Role as shown
use Rattle.pair_events.specs.declared.reply.Role.TheVariants as shown_as
use Rattle.pair_protocol.specs.Copying.{Copying}
use Rattle.pair_protocol.specs.Node.{Node, Role, Primary}

-- it has more than eight million steps to make up to this count
abbrev pub is_too_far : (steps count : ℕ) → Bool
is_too_far steps count = nat_lt 8_000_000 (count - steps)

-- who said this last is so far behind a guest of this count; who has said nothing has only begun
abbrev pub is_far_behind : Option Lead → (count : ℕ) → Bool
is_far_behind None count = false
is_far_behind (Some lead) count = is_too_far lead.count count

-- a guest of this count has yet to make these steps up to where the peer said last that it is
abbrev pub behind : Option Lead → (count : ℕ) → ℕ
behind None count = 0
behind (Some lead) count = lead.count - count

-- more than two million of them
abbrev pub is_late : Option Lead → (count : ℕ) → Bool
is_late heard count = nat_lt 2_000_000 (behind heard count)

-- only a backup lags
abbrev pub lag_of : Option shown.Role → (behind : ℕ) → ℕ
lag_of (Some shown_as.Backup) steps = steps
lag_of role steps = 0

-- a count is said at first, and again two million steps after it was said last
abbrev pub is_due : Option ℕ → (count : ℕ) → Bool
is_due None count = true
is_due (Some said) count = nat_le 2_000_000 (count - said)

-- a node waits for a backup that is behind: a primary whose backup is whole
abbrev pub waits_for : Option shown.Role → (is_copying is_behind : Bool) → Bool
waits_for (Some shown_as.Primary) false is_behind = is_behind
waits_for role is_copying is_behind = false

-- the guest of a node of the protocol that runs waits: it is a primary, and its backup is whole and too far behind
abbrev pub is_held_back : (running : Bool) → Role → (is_copying : Bool) → Option Lead → (count : ℕ) → Bool
is_held_back true Primary false heard count = is_far_behind heard count
is_held_back running role is_copying heard count = false

module _ {B S : Type 0} {H : Type 0} (state : B → S) (M : Machine S) where
  -- whether the guest of what a host has waits; without a node none does
  abbrev pub HoldsBack : Hosted B H → (is_copying : Bool) → Option Lead → Bool → Type 0
  HoldsBack h is_copying heard given =
      OfHosted state M h false given (λ x. given ≡ is_held_back x.running x.role is_copying heard (node_count M x x.role))

  -- the guest of its node waits
  pub record IsHeldBack (h : Hosted B H) (is_copying : Bool) (heard : Option Lead) : Type 0 where
    pub node : code.Node B H
    pub has : h ≡ hosted.Node node
    pub C : Copying S
    pub drives : ℕ
    pub x : Node S
    pub is : IsNode state M C drives node x
    pub held : is_held_back x.running x.role is_copying heard (node_count M x x.role) ≡ true
