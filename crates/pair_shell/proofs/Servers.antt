-- Who is found to serve may serve.
use Rattle.std.proofs.Common.{◌≡◌, ℕ, inl, inr, Option, Some, None, refl, sym, subst, ◌∙◌, ap}
use Rattle.std.specs.Prelude.{IfSome, slice_get}
use Rattle.guest_lockstep.specs.Machine.{Machine}
use Rattle.pair_events.specs.declared.reply.Role as shown
use Rattle.pair_events.specs.declared.reply.Role.TheVariants as role
use Rattle.pair_protocol.specs.Node.{Node, Primary, Backup, Joining}
use Rattle.pair_protocol.specs.Settled.{highest}
use Rattle.pair_protocol.specs.World.{World, winner_in}
use Rattle.ft_world.specs.Shows.{IsStatusAt}
use Rattle.ft_world.specs.declared.hosts.NodeStatus.{NodeStatus}
use Rattle.pair_shell.specs.Serves.{Acts, ActsAndMayServe, IsRoleIn, Serves, undecided_as, won_as}
use Rattle.pair_shell.specs.declared.serving.ServingNodes.{ServingNodes}

-- what a node shows of itself
pub shows_role : {S : Type 0} (M : Machine S) (w : World S) (n generation : ℕ) (status : NodeStatus) →
    IsStatusAt M (slice_get w.nodes n) (Some status) → status.generation ≡ generation →
    IsRoleIn w n generation (Some status.role)
shows_role {S} M w n generation status is same = go (slice_get w.nodes n) refl is
  where
    go : (here : Option (Node S)) → slice_get w.nodes n ≡ here → IsStatusAt M here (Some status) →
        IsRoleIn w n generation (Some status.role)
    go None at is = absurd is
    go (Some x) at is = (x, at, is.role, sym is.generation ∙ same)

module _ {S : Type 0} (w : World S) (generation : ℕ) where
  -- a winner
  pub serves_won : (n : ℕ) (role : Option shown.Role) → IsRoleIn w n generation role → Serves w generation (won_as n role)
  serves_won n None is = tt
  serves_won n (Some role.Primary) is = tt
  serves_won n (Some role.Backup) is = tt
  serves_won n (Some role.Joining) is = tt
  serves_won n (Some role.Halted) is = tt
  serves_won n (Some role.Draining) is = record {
    acts = record { x = is.0; there = is.1; up = is.2.0; role_is = is.2.1; generation_is = is.3 };
    may_serve = record { there = is.1; up = is.2.0; who = inr (inl is.2.1) };
  }
  serves_won n (Some role.Alone) is =
      record { x = is.0; there = is.1; up = is.2.0; alone = is.2.1; generation_is = is.3 }

  -- nobody has won
  module _ (none : winner_in w.winners generation ≡ None) where
    nobody : (x : Node S) → x.generation ≡ generation → winner_in w.winners x.generation ≡ None
    nobody x is = ap (winner_in w.winners) is ∙ none

    primary_serves : (n : ℕ) → IsRoleIn w n generation (Some role.Primary) → ActsAndMayServe w n Primary generation
    primary_serves n is = record {
      acts = record { x = is.0; there = is.1; up = is.2.0; role_is = is.2.1; generation_is = is.3 };
      may_serve = record { there = is.1; up = is.2.0; who = inl (inl is.2.1, nobody is.0 is.3) };
    }

    backup_serves : (n : ℕ) → IsRoleIn w n generation (Some role.Backup) → ActsAndMayServe w n Backup generation
    backup_serves n is = record {
      acts = record { x = is.0; there = is.1; up = is.2.0; role_is = is.2.1; generation_is = is.3 };
      may_serve = record { there = is.1; up = is.2.0; who = inl (inr is.2.1, nobody is.0 is.3) };
    }

    joins : (n : ℕ) → IsRoleIn w n generation (Some role.Joining) → Acts w n Joining generation
    joins n is = record { x = is.0; there = is.1; up = is.2.0; role_is = is.2.1; generation_is = is.3 }

    pub serves_undecided : (primary backup joining : Option ℕ) →
        IfSome primary (λ n. IsRoleIn w n generation (Some role.Primary)) →
        IfSome backup (λ n. IsRoleIn w n generation (Some role.Backup)) →
        IfSome joining (λ n. IsRoleIn w n generation (Some role.Joining)) →
        Serves w generation (undecided_as primary backup joining)
    serves_undecided (Some n) (Some m) j p b q = record {
      x = p.0;
      y = b.0;
      primary = p.1;
      backup = b.1;
      primary_up = p.2.0;
      backup_up = b.2.0;
      primary_role = p.2.1;
      backup_role = b.2.1;
      primary_generation = p.3;
      backup_generation = b.3;
      undecided = none;
    }
    serves_undecided (Some n) None (Some host) p b q = record { primary = primary_serves n p; joining = joins host q }
    serves_undecided (Some n) None None p b q = primary_serves n p
    serves_undecided None (Some n) j p b q = backup_serves n b
    serves_undecided None None j p b q = tt

-- of the highest generation
module _ {S : Type 0} (w : World S) (generation : ℕ) (top : generation ≡ highest w.nodes) (who : ServingNodes) where
  pub winner_serves : (n : ℕ) (role : Option shown.Role) → IsRoleIn w n generation role → who ≡ won_as n role →
      Serves w (highest w.nodes) who
  winner_serves n role is same =
      subst (λ g. Serves w g who) top (subst (Serves w generation) (sym same) (serves_won w generation n role is))

  pub undecided_serve : None ≡ winner_in w.winners generation → (primary backup joining : Option ℕ) →
      IfSome primary (λ n. IsRoleIn w n generation (Some role.Primary)) →
      IfSome backup (λ n. IsRoleIn w n generation (Some role.Backup)) →
      IfSome joining (λ n. IsRoleIn w n generation (Some role.Joining)) → who ≡ undecided_as primary backup joining →
      Serves w (highest w.nodes) who
  undecided_serve none primary backup joining p b q same =
      subst (λ g. Serves w g who) top
      (subst (Serves w generation) (sym same)
      (serves_undecided w generation (sym none) primary backup joining p b q))
