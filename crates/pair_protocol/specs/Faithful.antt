-- A faithful world: terminals and disk have what one never-failing machine gives from the settled list.
use Rattle.std.specs.Prelude.{◌≡◌, ℕ, ◌≤◌, Some, List, ◌++◌, length, slice_get}
use Rattle.disk_dcdd.specs.Address.{address_of}
use Rattle.disk_dcdd.specs.declared.address.SectorAddress.{SectorAddress}
use Rattle.disk_dcdd.specs.declared.sector.SectorWrite.{SectorWrite}
use Rattle.event_callbacks.specs.declared.operations.OpId.TheVariants as id
use Rattle.event_callbacks.specs.declared.operations.Operation.TheVariants.{Write}
use Rattle.guest_lockstep.specs.Machine.{Machine, Move}
use Rattle.guest_lockstep.specs.Reach.{keys, output, image, Reach}
use Rattle.guest_lockstep.specs.declared.timed.Timed.{Timed}
use Rattle.pair_protocol.specs.Node.{Node, Alone}
use Rattle.pair_protocol.specs.ReadsKept.{ReadsKept}
use Rattle.pair_protocol.specs.World.{World, terminal, accepted, sector_record}
use Rattle.pair_protocol.specs.Settled.{Settled}

-- one list begins with another
abbrev pub IsPrefix : {A : Type 0} → List A → List A → Type 0
IsPrefix {A} front all = (rest : List A) × (front ++ rest ≡ all)

-- one list is another without its last few elements, at most n
abbrev pub IsAllBut : ℕ → List ℕ → List ℕ → Type 0
IsAllBut n front all = (rest : List ℕ) × (front ++ rest ≡ all) × (length rest ≤ n)

-- bytes that a sector may have: those of the machine's own disk, or of an outstanding write of it
pub data MayHave {S : Type 0} (M : Machine S) (moves : List Move) (s : S) (address : SectorAddress)
    (bytes : List ℕ) : Type 0 where
  IsImage : bytes ≡ image M moves address → MayHave M moves s address bytes
  IsOutstanding : (write : SectorWrite) → M.find s (id.Write write.number) ≡ Some (Write write) →
      address_of write ≡ address → bytes ≡ write.bytes → MayHave M moves s address bytes

pub record Faithful {S : Type 0} (M : Machine S) (w : World S) : Type 0 where
  -- the settled list and count, and the one trace of the machine from boot that they give
  pub list : List Timed
  pub count : ℕ
  pub settled : Settled M w list count
  pub trace : List Move
  pub reach : Reach M list count trace
  -- outputs: a terminal has accepted the trace's output, or all of it but the last bytes of a window
  pub output : (port : ℕ) → IsAllBut M.window_size (accepted w port) (output port trace)
  -- disk kept: each sector has the bytes of the trace's disk, or those of an outstanding write of it
  pub disk : (address : SectorAddress) → MayHave M trace reach.last address (sector_record M w.puts address).bytes
  -- keys kept: the keys of the list are the first of those typed, and no terminal was told that more are covered
  pub typed : (port : ℕ) → IsPrefix (keys port list) (terminal w port).typed
  pub told : (port : ℕ) → (terminal w port).told ≤ length (keys port list)
  -- one live: at most one node is alone
  pub one_live : (n m : ℕ) (x y : Node S) → slice_get w.nodes n ≡ Some x → slice_get w.nodes m ≡ Some y →
      x.role ≡ Alone → y.role ≡ Alone → n ≡ m
  -- reads kept: the disk still has what a node that replays has yet to read
  pub reads : ReadsKept M w
