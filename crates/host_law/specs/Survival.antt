-- A pair of processes survives a stop: a whole host that asks the arbiter first has won, and no host is told that it lost
-- unless another one has won.
use Rattle.std.specs.Prelude.{◌≡◌, ◌≢◌, ℕ, ◌⊎◌, true, Some, None, slice_get}
use Rattle.guest_lockstep.specs.Machine.{Machine}
use Rattle.pair_protocol.specs.Copying.{Copying}
use Rattle.pair_protocol.specs.Lawful.{Among}
use Rattle.pair_protocol.specs.Node.{Node, Primary, Backup, wins}
use Rattle.pair_protocol.specs.World.{World, winner_in}
use Rattle.host_law.specs.Fleet.{Fleet, FleetStep, OfHost, OfOutside}
use Rattle.host_law.specs.Frame.{AsksArbiter, HasWon, HasLost, answering, sending, taking}
use Rattle.host_law.specs.Shows.{Shows}

-- a host that may win: it is up and whole, and the arbiter has given its generation to nobody
pub record MayWin {S : Type 0} (f : Fleet S) (n : ℕ) (x : Node S) : Type 0 where
  pub there : slice_get f.hosts n ≡ Some x
  pub up : x.running ≡ true
  pub whole : (x.role ≡ Primary) ⊎ (x.role ≡ Backup)
  pub undecided : winner_in f.outside.winners x.generation ≡ None

-- it asks, the arbiter answers, and it has won
pub record Wins {S : Type 0} (M : Machine S) (C : Copying S) (f : Fleet S) (n : ℕ) (x : Node S) : Type 0 where
  pub asked : Fleet S
  pub answered : Fleet S
  pub won : Fleet S
  pub asks : FleetStep M C f (OfHost n (sending (AsksArbiter n x.generation))) asked
  pub answers : FleetStep M C asked
      (OfOutside (answering (AsksArbiter n x.generation) (HasWon x.generation n))) answered
  pub hears : FleetStep M C answered (OfHost n (taking (HasWon x.generation n))) won
  pub has_won : slice_get won.hosts n ≡ Some (wins x)

-- nothing refuses it
abbrev pub WholeHostsWin : (S : Type 0) → Type 0
WholeHostsWin S = (M : Machine S) (C : Copying S) (f : Fleet S) (n : ℕ) (x : Node S) → MayWin f n x → Wins M C f n x

-- if a host was ever told that it lost a generation, another one has won it
abbrev pub LosersHaveAWinner : (S : Type 0) → Type 0
LosersHaveAWinner S =
    (M : Machine S) (C : Copying S) (f : Fleet S) (w : World S) → Shows M C f w → (generation host : ℕ) →
    Among (HasLost generation host) f.sent →
    (other : ℕ) × (winner_in f.outside.winners generation ≡ Some other) × (other ≢ host)

-- no two hosts were ever told that they won one generation
abbrev pub OneHostWins : (S : Type 0) → Type 0
OneHostWins S =
    (M : Machine S) (C : Copying S) (f : Fleet S) (w : World S) → Shows M C f w → (generation n m : ℕ) →
    Among (HasWon generation n) f.sent → Among (HasWon generation m) f.sent → n ≡ m
