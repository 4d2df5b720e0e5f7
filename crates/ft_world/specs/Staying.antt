-- What an event leaves as it was.
use Rattle.std.specs.Prelude.{◌≡◌, ◌≢◌, ℕ, List, length, map, Option, Some, None, Result, Ok, slice_get, slice_set}
use Rattle.i8080_words.specs.declared.refusal.Fault.{Fault}
use Rattle.i8080_words.specs.declared.refusal.Fault.TheVariants.{DeviceFault, Lost}
use Rattle.shared_disk.specs.declared.store.Record.{Record}
use Rattle.pair_events.specs.declared.event.Event.{Event}
use Rattle.pair_events.specs.declared.event.Event.TheVariants as event
use Rattle.pair_events.specs.declared.reply.Reply.{Reply}
use Rattle.ft_node.specs.declared.halted.Halted.{Halted}
use Rattle.ft_node.specs.declared.node.Node.TheVariants as node
use Rattle.ft_world.specs.Running.{Running}
use Rattle.ft_world.specs.declared.host.Host.{Host}
use Rattle.ft_world.specs.declared.host.Host.TheVariants as host
use Rattle.ft_world.specs.declared.station.Station.{Station}

-- what a host has for a machine that is copied there, while it has no role
abbrev pub spare_of : {B H : Type 0} → Host B H → Option H
spare_of (host.Node h) = None
spare_of (host.Spare resources) = Some resources

-- no host is added, and each spare host is still spare, with the same resources
abbrev pub SpareHostsStay : {B H : Type 0} → List (Host B H) → List (Host B H) → Type 0
SpareHostsStay old new = map spare_of new ≡ map spare_of old

-- what the spare hosts have after an event: the host with which a generation begins is no longer spare
abbrev pub SparesAfter : {B H : Type 0} → Event → Result Reply Fault → List (Host B H) → List (Host B H) → Type 0
SparesAfter (event.BeginPair n host) (Ok r) old new = map spare_of new ≡ slice_set (map spare_of old) host None
SparesAfter e answer old new = SpareHostsStay old new

-- what they have after a list of events: no host is added, and each one that is still spare has the same resources
pub record SparesLeft {B H : Type 0} (old new : List (Host B H)) : Type 0 where
  pub count : length new ≡ length old
  pub same : (n : ℕ) (resources : H) → slice_get new n ≡ Some (host.Spare resources)
      → slice_get old n ≡ Some (host.Spare resources)

-- the node of a number is halted, with the same inputs and the same count; everything else is as it was
pub record NodeHalts {B H D : Type 0} (n : ℕ) (old new : Running B H D) : Type 0 where
  pub before : Station B H
  pub there : slice_get old.hosts n ≡ Some (host.Node before)
  pub halted : Halted
  pub rest : new ≡ record old {
    hosts = slice_set old.hosts n (host.Node (record before { node = node.Halted halted }));
  }

-- the disk has the same records; everything but the disk is as it was
pub record DiskFails {B H D : Type 0} (records : D → List Record) (old new : Running B H D) : Type 0 where
  pub kept : records new.disk ≡ records old.disk
  pub rest : new ≡ record old { disk = new.disk }

-- a refusal for this reason leaves a change; any other leaves everything as it was
abbrev pub Except : Fault → Fault → Type 0 → Type 0 → Type 0
Except reason fault changes same = (fault ≡ reason → changes) × (fault ≢ reason → same)

-- a refused event leaves everything as it was, except that a node that asked the arbiter and lost is halted, and that a
-- disk that failed may fail once less
abbrev pub Stays : {B H D : Type 0} → (D → List Record) → Event → Fault → Running B H D → Running B H D → Type 0
Stays records (event.Suspect n) fault old new = Except Lost fault (NodeHalts n old new) (new ≡ old)
Stays records (event.Put m) fault old new = Except DeviceFault fault (DiskFails records old new) (new ≡ old)
Stays records (event.Get n sector) fault old new = Except DeviceFault fault (DiskFails records old new) (new ≡ old)
Stays records (event.Fetch n) fault old new = Except DeviceFault fault (DiskFails records old new) (new ≡ old)
Stays records _ fault old new = new ≡ old
