-- Catching up: while both nodes of an undecided generation are up and the backup is whole, the log can be emptied.
use Rattle.std.specs.Prelude.{◌≡◌, ℕ, ◌+◌, ◌-◌, ◌*◌, true, Some, None, length, slice_get}
use Rattle.guest_lockstep.specs.Machine.{Machine}
use Rattle.pair_events.specs.declared.event.Event.{Event}
use Rattle.pair_events.specs.declared.event.Event.TheVariants.{Send, DeliverLog, Acknowledge, DeliverAcknowledgement}
use Rattle.pair_protocol.specs.Copying.{Copying}
use Rattle.pair_protocol.specs.Node.{Node, Primary, Backup}
use Rattle.pair_protocol.specs.World.{World, winner_in}
use Rattle.pair_progress.specs.Leads.{Leads}

-- a whole pair: nobody has won, and primary and backup are up
pub record IsPair {S : Type 0} (w : World S) (n m generation : ℕ) : Type 0 where
  pub x : Node S
  pub y : Node S
  pub primary : slice_get w.nodes n ≡ Some x
  pub backup : slice_get w.nodes m ≡ Some y
  pub primary_up : x.running ≡ true
  pub backup_up : y.running ≡ true
  pub primary_role : x.role ≡ Primary
  pub backup_role : y.role ≡ Backup
  pub primary_generation : x.generation ≡ generation
  pub backup_generation : y.generation ≡ generation
  pub undecided : winner_in w.winners generation ≡ None

-- all that is logged is held and acknowledged
pub record IsCaughtUp {S : Type 0} (w : World S) (n m generation : ℕ) : Type 0 where
  pub pair : IsPair w n m generation
  pub held : pair.y.held ≡ pair.x.log
  pub covered : pair.x.covered ≡ length pair.x.log

-- the log is sent and delivered, and acknowledged
abbrev pub IsLogging : ℕ → ℕ → Event → Type 0
IsLogging n m (Send a index) = a ≡ n
IsLogging n m (DeliverLog message b) = b ≡ m
IsLogging n m (Acknowledge b) = b ≡ m
IsLogging n m (DeliverAcknowledgement message a) = a ≡ n
IsLogging n m e = ⊥

-- how many entries the backup lacks
abbrev pub lacks : {S : Type 0} → Node S → Node S → ℕ
lacks x y = length x.log - length y.held

-- whatever was lost before, two events for each entry that the backup lacks, and two more, are enough
abbrev pub CatchesUp : {S : Type 0} → Machine S → Copying S → World S → Type 0
CatchesUp M C w = (n m generation : ℕ) (pair : IsPair w n m generation) →
    Leads M C w (IsLogging n m) (2 * lacks pair.x pair.y + 2) (λ new. IsCaughtUp new n m generation)
