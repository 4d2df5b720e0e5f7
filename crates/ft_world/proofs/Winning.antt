-- One more winner, here and in the world. The node that won is of the same generation as before, and is a backup only if
-- it was one.
use Rattle.std.proofs.Common.{◌≡◌, ◌∙◌, List, None, Some, ap, inl, inr, refl, sym, true, ℕ}
use Rattle.std.specs.Prelude.{slice_get, slice_set}
use Rattle.ft_world.proofs.Words.{Alone, AreHosts, Backup, Course, Draining, Host, IsOnlyBackup, Joining, Machine, Node, Primary, Record, Role, Running, ShowsParts, Spare, after_asking, is_backup, winner_of, wins, with_winner, won_role}
use Rattle.pair_protocol.proofs.SharedDevices.{winners_after}
use Rattle.pair_protocol.proofs.Traces.Lists.{get_set_cases}
use Rattle.pair_protocol.proofs.Promises.Growth.{highest_set}

no_new_backup : (q : Role) → is_backup (won_role q) ≡ true → is_backup q ≡ true
no_new_backup Primary e = e
no_new_backup Backup e = refl
no_new_backup Joining e = e
no_new_backup Draining e = e
no_new_backup Alone e = e
no_new_backup Spare e = e

only_backup : {S : Type 0} (nodes : List (Node S)) (n : ℕ) (x : Node S) (generation backup : ℕ) →
    slice_get nodes n ≡ Some x → IsOnlyBackup nodes generation backup →
    IsOnlyBackup (slice_set nodes n (wins x)) generation backup
only_backup {S} nodes n x generation backup there only k z here is role =
    elim (get_set_cases nodes n k (wins x) z here) [
      | inl p ↦ p.0 ∙ only n x there (ap (λ (u : Node S). u.generation) (sym p.1) ∙ is)
          (no_new_backup x.role (ap (λ (u : Node S). is_backup u.role) (sym p.1) ∙ role))
      | inr q ↦ only k z q is role
    ]

pub with_one_winner : {B H D S : Type 0} (state : B → S) (M : Machine S) (records : D → List Record) (drives : ℕ)
    (old : Running B H D) (c : Course S) (hosts : List (Host B H)) (n : ℕ) (x : Node S) →
    ShowsParts state M records drives old c → slice_get c.world.nodes n ≡ Some x →
    winner_of old.askings x.generation ≡ None → AreHosts state M c.copying drives hosts (slice_set c.world.nodes n (wins x)) →
    ShowsParts state M records drives
    (record old { hosts = hosts; askings = after_asking old.askings x.generation n })
    (record c { world = with_winner c.world n x })
with_one_winner state M records drives old c hosts n x p there none are = record {
  hosts = are;
  messages = p.messages;
  terminals = p.terminals;
  winners = winners_after old.askings c.world.winners x.generation n p.winners none;
  disk = p.disk;
  generation = p.generation ∙ sym (highest_set c.world.nodes n x (wins x) there refl);
  backup = only_backup c.world.nodes n x old.generation old.backup there p.backup;
}
