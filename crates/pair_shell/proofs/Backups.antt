-- A node's status tells whether it is a backup, and who the backup of its day is.
use Rattle.std.proofs.Common.{◌≡◌, ℕ, Bool, List, Option, Some, None, Ok, Err, refl, subst, sym}
use Rattle.std.specs.Prelude.{slice_get}
use Rattle.ft_world.specs.Shows.{IsStatusAt}
use Rattle.ft_world.specs.declared.hosts.NodeStatus.{NodeStatus}
use Rattle.guest_lockstep.specs.Machine.{Machine}
use Rattle.pair_protocol.specs.Node.{Node}
use Rattle.i8080_words.specs.declared.refusal.Fault.TheVariants.{Unknown, WrongRole}
use Rattle.pair_events.specs.declared.reply.Role.{Role}
use Rattle.pair_events.specs.declared.reply.Role.TheVariants.{Primary, Backup, Joining, Draining, Alone, Halted}
use Rattle.pair_shell.specs.Backups.{FindsBackup, HasDay, IsDayOf, IsFirstBackup, is_backup}

pub finds : {S : Type 0} (M : Machine S) (nodes : List (Node S)) (generation number : ℕ) (found : Bool) (status : Option NodeStatus)
    → IsStatusAt M (slice_get nodes number) status → found ≡ is_backup generation status → FindsBackup M nodes generation number found
finds M nodes generation number found status there told = record { status = status; is_there = there; told = told }

module _ {S : Type 0} (M : Machine S) (nodes : List (Node S)) (hosts number : ℕ) where
  -- there is no such node
  pub day_of_none : IsStatusAt M (slice_get nodes number) None → HasDay M nodes hosts number (Err Unknown)
  day_of_none there = record { status = None; is_there = there; found_so = refl }

  -- it is a primary, or alone, or has another role
  pub day_of_primary : (status : NodeStatus) (backup : Option ℕ) → IsStatusAt M (slice_get nodes number) (Some status)
      → status.role ≡ Primary → IsFirstBackup M nodes status.generation hosts backup → HasDay M nodes hosts number (Ok backup)
  day_of_primary status backup there is first = record {
    status = Some status;
    is_there = there;
    found_so = subst (λ role. IsDayOf M nodes hosts role status.generation (Ok backup)) (sym is) (backup, (refl, first));
  }

  pub day_of_alone : (status : NodeStatus) → IsStatusAt M (slice_get nodes number) (Some status) → status.role ≡ Alone
      → HasDay M nodes hosts number (Ok None)
  day_of_alone status there is = record {
    status = Some status;
    is_there = there;
    found_so = subst (λ role. IsDayOf M nodes hosts role status.generation (Ok None)) (sym is) refl;
  }

  other_day : (role : Role) (generation : ℕ) → (role ≡ Primary → ⊥) → (role ≡ Alone → ⊥)
      → IsDayOf M nodes hosts role generation (Err WrongRole)
  other_day Primary generation no_primary not_alone = absurd (no_primary refl)
  other_day Backup generation no_primary not_alone = refl
  other_day Joining generation no_primary not_alone = refl
  other_day Draining generation no_primary not_alone = refl
  other_day Alone generation no_primary not_alone = absurd (not_alone refl)
  other_day Halted generation no_primary not_alone = refl

  pub day_of_other : (status : NodeStatus) → IsStatusAt M (slice_get nodes number) (Some status) → (status.role ≡ Primary → ⊥)
      → (status.role ≡ Alone → ⊥) → HasDay M nodes hosts number (Err WrongRole)
  day_of_other status there no_primary not_alone = record {
    status = Some status;
    is_there = there;
    found_so = other_day status.role status.generation no_primary not_alone;
  }
