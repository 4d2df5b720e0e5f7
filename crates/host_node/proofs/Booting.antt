-- A node of generation 1 is the law's first one.
use Rattle.std.proofs.Common.{◌≡◌, ◌≢◌, refl, subst, sym, inl, inr}
use Rattle.std.specs.Prelude.{◌⊎◌}
use Rattle.ft_node.specs.declared.node.Node as code
use Rattle.guest_lockstep.specs.Machine.{Machine}
use Rattle.guest_lockstep.specs.declared.reads.Reads.TheVariants.{Shared}
use Rattle.host_calls.proofs.Stepping.{begins-backup, begins-primary}
use Rattle.host_calls.specs.Follows as follows
use Rattle.host_node.specs.Boots.{Boots, IsAtBoot}
use Rattle.host_node.specs.Hosts.{HasNode, IsHosted}
use Rattle.host_node.specs.declared.host.HostNode.{HostNode}
use Rattle.host_node.specs.declared.host.Hosted.TheVariants as hosted
use Rattle.pair_protocol.specs.Copying.{Copying}
use Rattle.pair_protocol.specs.Node.{Role, Primary, Backup, Spare, first_node, spare}
use Rattle.ft_node.specs.Calls as calls

begins : {S : Type 0} (M : Machine S) (role : Role) → (role ≡ Primary) ⊎ (role ≡ Backup)
    → calls.Begins M role 1 Shared M.boot (first_node M Shared role) × (role ≢ Spare)
begins M role (inl is) = subst (λ r. calls.Begins M r 1 Shared M.boot (first_node M Shared r) × (r ≢ Spare)) (sym is)
    (begins-primary M Shared, λ e. cc)
begins M role (inr is) = subst (λ r. calls.Begins M r 1 Shared M.boot (first_node M Shared r) × (r ≢ Spare)) (sym is)
    (begins-backup M Shared, λ e. cc)

module _ {B S : Type 0} {H : Type 0} (state : B → S) (M : Machine S) (C : Copying S) where
  boots_node : (h : HostNode B H) (node : code.Node B H) (role : Role) → (role ≡ Primary) ⊎ (role ≡ Backup)
      → h.node ≡ hosted.Node node → IsAtBoot state M C h.drives role node
      → IsHosted state M C h.drives h.number h (first_node M Shared role)
  boots_node h node role either is boot =
      (let b = begins M role either in
      subst (λ n. HasNode state M C h.drives h.number h.number n (first_node M Shared role)) (sym is) (
        refl,
        record {
          y = first_node M Shared role;
          follows = follows.Same;
          is = boot (first_node M Shared role) b.0;
          other = b.1;
          reads = refl;
        },
      ))

  pub boots : Boots H state M C
  boots = record {
    node = boots_node;
    spare_one = λ h callbacks me is. subst (λ n. HasNode state M C h.drives h.number me n (spare M)) (sym is) refl;
  }
