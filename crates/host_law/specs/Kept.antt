-- What the devices at the outside have, and which host is live: the promise of a faithful world, of the processes
-- themselves.
use Rattle.std.specs.Prelude.{◌≡◌, ℕ, ◌≤◌, Some, List, length, slice_get}
use Rattle.disk_dcdd.specs.declared.address.SectorAddress.{SectorAddress}
use Rattle.guest_lockstep.specs.Machine.{Machine, Move}
use Rattle.guest_lockstep.specs.Reach.{keys, output, Reach}
use Rattle.guest_lockstep.specs.declared.timed.Timed.{Timed}
use Rattle.pair_protocol.specs.Faithful.{IsAllBut, IsPrefix, MayHave}
use Rattle.pair_protocol.specs.Node.{Node, Alone}
use Rattle.pair_protocol.specs.World.{accepted_in, sector_record, terminal_in}
use Rattle.host_law.specs.Fleet.{Fleet}

-- terminals and disk have what one never-failing machine gives from this list, up to this count
pub record Kept {S : Type 0} (M : Machine S) (f : Fleet S) (list : List Timed) (count : ℕ) (trace : List Move)
    (reach : Reach M list count trace) : Type 0 where
  pub output : (port : ℕ) → IsAllBut M.window_size (accepted_in f.outside.terminals port) (output port trace)
  pub disk : (address : SectorAddress) →
      MayHave M trace reach.last address (sector_record M f.outside.puts address).bytes
  pub typed : (port : ℕ) → IsPrefix (keys port list) (terminal_in f.outside.terminals port).typed
  pub told : (port : ℕ) → (terminal_in f.outside.terminals port).told ≤ length (keys port list)
  -- at most one host is alone
  pub one_live : (n m : ℕ) (x y : Node S) → slice_get f.hosts n ≡ Some x → slice_get f.hosts m ≡ Some y →
      x.role ≡ Alone → y.role ≡ Alone → n ≡ m

-- for some list and count this is so
pub record IsKept {S : Type 0} (M : Machine S) (f : Fleet S) : Type 0 where
  pub list : List Timed
  pub count : ℕ
  pub trace : List Move
  pub reach : Reach M list count trace
  pub kept : Kept M f list count trace reach
