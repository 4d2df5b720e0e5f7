-- What holds where no event is left.
use Rattle.std.specs.Prelude.{◌≡◌, ℕ, ◌≤◌, Some, None, length}
use Rattle.guest_lockstep.specs.Machine.{Machine}
use Rattle.ft_world.specs.Guests.{machine_at}
use Rattle.pair_protocol.specs.Node.{Node}
use Rattle.pair_protocol.specs.World.{World}
use Rattle.pair_progress.specs.CatchingUp.{IsPair}
use Rattle.pair_shell.specs.First.{IsFirst}
use Rattle.pair_shell.specs.Serves.{AreAll, Serves}
use Rattle.pair_shell.specs.declared.serving.ServingNodes.{ServingNodes}
use Rattle.pair_shell.specs.declared.serving.ServingNodes.TheVariants as serving

-- no operation of a node is found that would be completed first: no byte is due
abbrev pub IsStill : {S : Type 0} → Machine S → World S → ℕ → Type 0
IsStill {S} M w n = (s : S) → Some s ≡ machine_at w.nodes n → IsFirst M s None

-- all that a primary has logged is held by its backup, and acknowledged
abbrev pub IsThrough : {S : Type 0} → Node S → Node S → Type 0
IsThrough x y = (length x.log ≤ length y.held) × (length x.log ≤ x.covered)

-- a node that is to go live has an event left; one that a host joins has one until as many parts have come as an image has
abbrev pub MayRest : {S : Type 0} → Machine S → World S → ℕ → ℕ → ℕ → ServingNodes → Type 0
MayRest M w parts arrived generation serving.Nobody = Unit {0}
MayRest M w parts arrived generation (serving.Primary n) = ⊥
MayRest M w parts arrived generation (serving.Backup n) = ⊥
MayRest M w parts arrived generation (serving.Draining n) = ⊥
MayRest M w parts arrived generation (serving.Alone n) = IsStill M w n
MayRest M w parts arrived generation (serving.Joining n host) = parts ≤ arrived
MayRest M w parts arrived generation (serving.Pair n backup) =
    (pair : IsPair w n backup generation) → IsThrough pair.x pair.y

-- those of so many hosts who serve in this generation may rest, and no other serves
pub record Rests {S : Type 0} (M : Machine S) (w : World S) (hosts parts arrived generation : ℕ) : Type 0 where
  pub who : ServingNodes
  pub serves : Serves w generation who
  pub all : AreAll w hosts generation who
  pub rests : MayRest M w parts arrived generation who
