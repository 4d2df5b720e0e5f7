-- A guest waits for its backup exactly if its node of the protocol does.
use Rattle.std.proofs.Common.{ℕ, ◌≡◌, Bool, true, false, Option, Some, None, refl, sym, ap, ◌∙◌, subst}
use Rattle.ft_node.specs.declared.ran.Lead.{Lead}
use Rattle.guest_lockstep.specs.Machine.{Machine}
use Rattle.host_node.specs.Lagging.{HoldsBack, IsHeldBack, is_far_behind, is_held_back, waits_for}
use Rattle.host_node.specs.Looks.{HasCount, HasRole, IsShownAs}
use Rattle.host_node.specs.declared.host.HostNode.{HostNode}
use Rattle.host_node.specs.declared.host.Hosted.{Hosted}
use Rattle.host_node.specs.declared.host.Hosted.TheVariants as hosted
use Rattle.pair_events.specs.declared.reply.Role as shown
use Rattle.pair_events.specs.declared.reply.Role.TheVariants as shown_as
use Rattle.pair_protocol.specs.Node.{Node, Role, Primary, Backup, Joining, Draining, Alone}

-- ---- a table of the roles

stopped : (r : Role) (is_copying : Bool) (heard : Option Lead) (count : ℕ) → false ≡ is_held_back false r is_copying heard count
stopped r is_copying heard count = refl

-- a node in a role other than that of a primary
apart : (running : Bool) (r q : Role) (is_copying : Bool) (heard : Option Lead) (count : ℕ) → r ≡ q
    → false ≡ is_held_back running q is_copying heard count → false ≡ is_held_back running r is_copying heard count
apart running r q is_copying heard count is p = subst (λ k. false ≡ is_held_back running k is_copying heard count) (sym is) p

backup : (running : Bool) (c : Bool) (heard : Option Lead) (count : ℕ) → false ≡ is_held_back running Backup c heard count
backup true c heard count = refl
backup false c heard count = refl

joining : (running : Bool) (c : Bool) (heard : Option Lead) (count : ℕ) → false ≡ is_held_back running Joining c heard count
joining true c heard count = refl
joining false c heard count = refl

draining : (running : Bool) (c : Bool) (heard : Option Lead) (count : ℕ) → false ≡ is_held_back running Draining c heard count
draining true c heard count = refl
draining false c heard count = refl

alone : (running : Bool) (c : Bool) (heard : Option Lead) (count : ℕ) → false ≡ is_held_back running Alone c heard count
alone true c heard count = refl
alone false c heard count = refl

primary : (c : Bool) (heard : Option Lead) (count : ℕ)
    → waits_for (Some shown_as.Primary) c (is_far_behind heard count) ≡ is_held_back true Primary c heard count
primary true heard count = refl
primary false heard count = refl

module _ {S : Type 0} (M : Machine S) where
  -- what a node in the role that it shows waits for
  of_role : (x : Node S) (role : Option shown.Role) (c : Bool) (heard : Option Lead) (count : ℕ) → IsShownAs x role
      → waits_for role c (is_far_behind heard count) ≡ is_held_back x.running x.role c heard count
  of_role x None c heard count is = absurd is
  of_role x (Some shown_as.Primary) c heard count is =
      primary c heard count ∙ sym (ap (λ k. is_held_back k x.role c heard count) is.0
      ∙ ap (λ k. is_held_back true k c heard count) is.1)
  of_role x (Some shown_as.Backup) c heard count is =
      apart x.running x.role Backup c heard count is.1 (backup x.running c heard count)
  of_role x (Some shown_as.Joining) c heard count is =
      apart x.running x.role Joining c heard count is.1 (joining x.running c heard count)
  of_role x (Some shown_as.Draining) c heard count is =
      apart x.running x.role Draining c heard count is.1 (draining x.running c heard count)
  of_role x (Some shown_as.Alone) c heard count is =
      apart x.running x.role Alone c heard count is.1 (alone x.running c heard count)
  of_role x (Some shown_as.Halted) c heard count is =
      subst (λ k. false ≡ is_held_back k x.role c heard count) (sym is) (stopped x.role c heard count)

module _ {B S : Type 0} {H : Type 0} (state : B → S) (M : Machine S) where
  pub holds_back : (h : Hosted B H) (role : Option shown.Role) (count : ℕ) (is_behind : Bool) (c : Bool) (heard : Option Lead)
      (given : Bool) → HasRole state M h role → HasCount state M h count → is_behind ≡ is_far_behind heard count
      → given ≡ waits_for role c is_behind → HoldsBack state M h c heard given
  holds_back (hosted.Spare callbacks) role count is_behind c heard given is counted behind waits =
      waits ∙ ap (λ r. waits_for r c is_behind) is
  holds_back (hosted.Node node) role count is_behind c heard given is counted behind waits = λ C drives x node_is.
      waits ∙ ap (λ b. waits_for role c b) behind ∙ of_role M x role c heard count (is C drives x node_is)
      ∙ ap (λ k. is_held_back x.running x.role c heard k) (sym (counted C drives x node_is))
  holds_back hosted.Halted role count is_behind c heard given is counted behind waits =
      waits ∙ ap (λ r. waits_for r c is_behind) is

  -- a guest that a look finds free does not wait, so a host whose guest waits would have stayed
  pub is_free : (old new : HostNode B H) (c : Bool) (heard : Option Lead) (given : Bool)
      → HoldsBack state M old.node c heard given → given ≡ false → IsHeldBack state M old.node c heard → new ≡ old
  is_free old new c heard given holds free held =
      (let p = subst (λ n. HoldsBack state M n c heard given) held.has holds in
      let q = p held.C held.drives held.x held.is in
      let r : false ≡ true = sym free ∙ q ∙ held.held in
      absurd (cc))
