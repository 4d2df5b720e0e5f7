-- One node becomes another of the same generation, which is a backup exactly if it was one before; so the highest
-- generation stays, and so does the only node that may be its backup.
use Rattle.std.proofs.Common.{◌≡◌, ◌∙◌, List, Some, ap, inl, inr, sym, ℕ}
use Rattle.std.specs.Prelude.{slice_get, slice_set}
use Rattle.pair_protocol.proofs.Promises.Growth.{highest_set}
use Rattle.pair_protocol.proofs.Traces.Lists.{get_set_cases}
use Rattle.ft_world.proofs.Words.{AreHosts, Course, Host, IsOnlyBackup, Machine, Node, Record, Running, ShowsParts, is_backup, with_node}

backup_set : {S : Type 0} (nodes : List (Node S)) (n : ℕ) (x y : Node S) (generation backup : ℕ) →
    slice_get nodes n ≡ Some x → y.generation ≡ x.generation → is_backup y.role ≡ is_backup x.role →
    IsOnlyBackup nodes generation backup → IsOnlyBackup (slice_set nodes n y) generation backup
backup_set {S} nodes n x y generation backup there g b only k z here is role =
    elim (get_set_cases nodes n k y z here) [
      | inl p ↦ p.0 ∙ only n x there (sym g ∙ ap (λ (u : Node S). u.generation) (sym p.1) ∙ is)
          (sym b ∙ ap (λ (u : Node S). is_backup u.role) (sym p.1) ∙ role)
      | inr q ↦ only k z q is role
    ]

pub with_hosts : {B H D S : Type 0} (state : B → S) (M : Machine S) (records : D → List Record) (drives : ℕ)
    (old : Running B H D) (c : Course S) (hosts : List (Host B H)) → ShowsParts state M records drives old c →
    AreHosts state M c.copying drives hosts c.world.nodes → ShowsParts state M records drives (record old { hosts = hosts }) c
with_hosts state M records drives old c hosts p are = record {
  hosts = are;
  messages = p.messages;
  terminals = p.terminals;
  winners = p.winners;
  disk = p.disk;
  generation = p.generation;
  backup = p.backup;
}

pub with_one_host : {B H D S : Type 0} (state : B → S) (M : Machine S) (records : D → List Record) (drives : ℕ)
    (old : Running B H D) (c : Course S) (hosts : List (Host B H)) (n : ℕ) (x y : Node S) →
    ShowsParts state M records drives old c → slice_get c.world.nodes n ≡ Some x → y.generation ≡ x.generation →
    is_backup y.role ≡ is_backup x.role → AreHosts state M c.copying drives hosts (slice_set c.world.nodes n y) →
    ShowsParts state M records drives (record old { hosts = hosts }) (record c { world = with_node c.world n y })
with_one_host state M records drives old c hosts n x y p there g b are = record {
  hosts = are;
  messages = p.messages;
  terminals = p.terminals;
  winners = p.winners;
  disk = p.disk;
  generation = p.generation ∙ sym (highest_set c.world.nodes n x y there g);
  backup = backup_set c.world.nodes n x y old.generation old.backup there g b p.backup;
}
