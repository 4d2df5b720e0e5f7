-- A pair survives a stop: a whole node of an undecided generation that asks the arbiter has won.
use Rattle.std.specs.Prelude.{◌≡◌, ℕ, ◌⊎◌, true, Some, None, slice_get}
use Rattle.guest_lockstep.specs.Machine.{Machine}
use Rattle.i8080_words.specs.declared.refusal.Fault.TheVariants.{OutOfMemory}
use Rattle.pair_protocol.specs.Copying.{Copying}
use Rattle.pair_protocol.specs.Node.{Node, Joining, Spare}
use Rattle.pair_protocol.specs.World.{World, winner_in}
use Rattle.pair_events.specs.declared.event.Event.TheVariants.{Suspect}
use Rattle.pair_protocol.specs.Reply.{Reply, Won, Refused}
use Rattle.pair_protocol.specs.Refusals.{refusal}
use Rattle.pair_protocol.specs.Row.{Row}

-- a node that may win: nobody has won its generation, and it is up and whole
pub record MayWin {S : Type 0} (w : World S) (n : ℕ) (x : Node S) : Type 0 where
  pub there : slice_get w.nodes n ≡ Some x
  pub up : x.running ≡ true
  pub undecided : winner_in w.winners x.generation ≡ None
  pub a_node : x.role ≡ Spare → ⊥
  pub whole : x.role ≡ Joining → ⊥

-- nothing refuses it
abbrev pub NothingRefuses : (S : Type 0) → Type 0
NothingRefuses S =
    (M : Machine S) (C : Copying S) (w : World S) (n : ℕ) (x : Node S) → MayWin w n x →
    refusal M C w (Suspect n) ≡ None

-- so it has won, unless there is no memory for the arbiter's list
abbrev pub WholeNodesWin : (S : Type 0) → Type 0
WholeNodesWin S =
    (M : Machine S) (C : Copying S) (w new : World S) (n : ℕ) (x : Node S) (r : Reply) → MayWin w n x →
    Row M C w (Suspect n) r new → (r ≡ Won) ⊎ (r ≡ Refused OutOfMemory)
