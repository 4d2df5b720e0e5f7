-- How a pair begins: both guests are in the same state, and the disk has each sector of its drives, none written yet.
use Rattle.guest_parts.specs.Guest.{Guest}
use Rattle.std.specs.Prelude.{◌≡◌, ℕ, List}
use Rattle.clone_state.specs.Copies.{CopiesAs}
use Rattle.guest_lockstep.specs.Machine.{Machine, booted_from}
use Rattle.guest_lockstep.specs.declared.reads.Reads.{Reads}
use Rattle.pair_protocol.specs.Copying.{Copying}
use Rattle.pair_protocol.specs.World.{opening}
use Rattle.shared_disk.specs.Records.{HasDrives, IsUnwritten, bytes_in}
use Rattle.shared_disk.specs.declared.store.Record.{Record}
use Rattle.ft_world.specs.Standing.{Course, IsMachine}

-- the world that a pair begins with: its machine in the state s, how it is copied, and how its log carries sectors
abbrev pub beginning : {S : Type 0} → Machine S → Copying S → Reads → S → List Record → Course S
beginning M C reads s records = record {
  boot = s;
  sectors = bytes_in records;
  copying = C;
  world = opening (booted_from M s (bytes_in records)) reads;
}

-- a pair may begin with these guests and this disk, and its machine may be copied in this way
pub record MayBegin {B D S : Type 0} (state : B → S) (copied : B → Guest) (M : Machine S) (C : Copying S)
    (records : D → List Record) (primary backup : B) (store : D) : Type 0 where
  pub drives : ℕ
  pub machine : IsMachine (booted_from M (state primary) (bytes_in (records store))) C drives
  pub copies_as : CopiesAs state copied drives C.parts C.part_count C.assemble
  pub alike : state backup ≡ state primary
  pub there : HasDrives (records store) drives
  pub unwritten : IsUnwritten (records store)

-- for some copying of their machine
abbrev pub MayBeginSome : {B D S : Type 0} → (B → S) → (B → Guest) → Machine S → (D → List Record) → B → B → D → Type 0
MayBeginSome {S = S} state copied M records primary backup store =
    (C : Copying S) × MayBegin state copied M C records primary backup store
