-- What lends a station, and the hosts after that.
use denote.RattleType.{RattleType}
use Rattle.std.specs.Prelude.{◌≡◌, ℕ, List, Some, slice_get, slice_set}
use Rattle.std.specs.contracts.alloc.Global as global
use Rattle.std.specs.contracts.impls.GlobalAllocator.TheImpl.{ghosts}
use Rattle.std.specs.contracts.vec.Vec as vec
use Rattle.ft_world.specs.Staying.{SpareHostsStay}
use Rattle.ft_world.specs.contracts.host.Host.{the_row}
use Rattle.ft_world.specs.declared.host.Host.{Host}
use Rattle.ft_world.specs.declared.host.Host.TheVariants as host
use Rattle.ft_world.specs.declared.station.Station.{Station}

-- the type of the list of hosts, as the logic holds it
abbrev pub hosts_row : RattleType → RattleType → RattleType
hosts_row B H = vec.the_row (the_row B H) global.the_row ghosts

-- a host has no role
abbrev pub IsSpare : {B H : Type 0} → Host B H → Type 0
IsSpare (host.Node station) = ⊥
IsSpare (host.Spare resources) = Unit {0}

-- no node has this number
abbrev pub HasNoNode : {B H : Type 0} → List (Host B H) → ℕ → Type 0
HasNoNode {B} {H} hosts n = (station : Station B H) → slice_get hosts n ≡ Some (host.Node station) → ⊥

-- the hosts after the station of a node was lent and became this one: each spare host is as it was, and so is every
-- host if the station is
pub record WithStation {B H : Type 0} (old : List (Host B H)) (n : ℕ) (station : Station B H) (new : List (Host B H))
    : Type 0 where
  pub put : new ≡ slice_set old n (host.Node station)
  pub spares : SpareHostsStay old new
  pub same : slice_get old n ≡ Some (host.Node station) → new ≡ old
