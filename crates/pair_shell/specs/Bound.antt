-- How many events at most bring a pair to rest: the sums of the laws of `pair_progress`, in which each entry that is not replayed
-- counts as a sector to fetch.
use Rattle.std.specs.Prelude.{◌≡◌, ℕ, ◌+◌, ◌-◌, ◌*◌, ◌^◌, min, List}
use Rattle.disk_dcdd.specs.declared.sector.Place.{Place}
use Rattle.ft_node.specs.declared.ran.Standing.{Standing}
use Rattle.guest_lockstep.specs.Machine.{Machine}
use Rattle.pair_protocol.specs.Node.{Node}
use Rattle.pair_protocol.specs.World.{World}
use Rattle.pair_shell.specs.Outstanding.{AreOut}
use Rattle.pair_shell.specs.Serves.{AreAll, Serves}
use Rattle.pair_shell.specs.Shown.{shown_at}
use Rattle.pair_shell.specs.declared.serving.ServingNodes.{ServingNodes}
use Rattle.pair_shell.specs.declared.serving.ServingNodes.TheVariants as serving

-- 3 for each outstanding operation
abbrev pub completions : ℕ → ℕ
completions count = 3 * count

-- 3 for each sector to fetch
abbrev pub fetches : ℕ → ℕ
fetches entries = 3 * entries

-- how many entries a node holds and has not replayed
abbrev pub left : Standing → ℕ
left held = held.entries - held.done

-- of a pair: 2 for each entry that the backup lacks, 3 for each sector to fetch, 5 for each outstanding operation, and 5
abbrev pub settling : Standing → Standing → ℕ → ℕ
settling log held count = 2 * (log.entries - held.entries) + fetches (log.entries - held.done) + 5 * count + 5

-- what a host holds of the log that has just become the backup
abbrev pub nothing_held : Standing
nothing_held = record { entries = 0; done = 0 }

-- a primary asks the arbiter by 1; a backup by 1, and drains by 1; a winner drains by 1; a host that joins gets each part by 2
abbrev pub events_for : {S : Type 0} → List (Node S) → ℕ → ℕ → ServingNodes → ℕ
events_for nodes parts count serving.Nobody = 0
events_for nodes parts count (serving.Primary n) = 1 + completions count
events_for nodes parts count (serving.Backup n) = 2 + fetches (left (shown_at nodes n)) + completions count
events_for nodes parts count (serving.Draining n) = 1 + fetches (left (shown_at nodes n)) + completions count
events_for nodes parts count (serving.Alone n) = completions count
events_for nodes parts count (serving.Joining n host) = 2 * parts + settling (shown_at nodes n) nothing_held count
events_for nodes parts count (serving.Pair n backup) = settling (shown_at nodes n) (shown_at nodes backup) count

-- so many operations are outstanding where the guest runs; at a node that repeats, forty may be once it is live
abbrev pub IsCount : {B S : Type 0} → (B → S) → (B → List Place) → Machine S → World S → ℕ → ServingNodes → Type 0
IsCount state writes M w count serving.Nobody = count ≡ 0
IsCount state writes M w count (serving.Primary n) = AreOut state writes M w n count
IsCount state writes M w count (serving.Backup n) = count ≡ 40
IsCount state writes M w count (serving.Draining n) = count ≡ 40
IsCount state writes M w count (serving.Alone n) = AreOut state writes M w n count
IsCount state writes M w count (serving.Joining n host) = AreOut state writes M w n count
IsCount state writes M w count (serving.Pair n backup) = AreOut state writes M w n count

-- so many events, up to the greatest number
abbrev pub up_to_greatest : ℕ → ℕ
up_to_greatest count = min count (2 ^ 64 - 1)

-- so many for those of so many hosts who serve
pub record IsBound {B S : Type 0} (state : B → S) (writes : B → List Place) (M : Machine S) (w : World S)
    (hosts parts generation most : ℕ) : Type 0 where
  pub who : ServingNodes
  pub serves : Serves w generation who
  pub all : AreAll w hosts generation who
  pub count : ℕ
  pub counted : IsCount state writes M w count who
  pub most_is : most ≡ up_to_greatest (events_for w.nodes parts count who)
