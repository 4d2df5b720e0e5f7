-- The image of an Altair as a copy in the words of a pair, and what it asks of the setup that the Altair was booted with.
use Rattle.std.specs.Prelude.{◌≡◌, ℕ, ◌<◌, ◌^◌, IsTrue, List, length, slice_get, Some}
use Rattle.disk_dcdd.specs.Address.{has_sector}
use Rattle.disk_dcdd.specs.declared.address.SectorAddress.{SectorAddress}
use Rattle.disk_dcdd.specs.declared.sector.TheConstants.{SECTOR_BYTES}
use Rattle.guest_parts.specs.Guest.{Guest}
use Rattle.guest_board.specs.Guest.{altair}
use Rattle.guest_lockstep.specs.Machine.{Move}
use Rattle.guest_board.specs.declared.setup.Setup.{Setup}
use Rattle.guest_memory.specs.declared.memory.TheConstants.{BYTES}
use Rattle.clone_state.specs.Checkpoint.{checkpoint_of}
use Rattle.clone_state.specs.Laws.{IsCopyable}
use Rattle.clone_state.specs.Parts.{guest_in, part_count, parts_of}
use Rattle.pair_protocol.specs.Copying.{Copying, IsCopying, Makes}
use Rattle.pair_events.specs.declared.event.Event.{Event}
use Rattle.pair_protocol.specs.Reply.{Reply}
use Rattle.pair_protocol.specs.Faithful.{Faithful}
use Rattle.pair_protocol.specs.Grows.{Grows}
use Rattle.pair_protocol.specs.Joining.{IsGiven}
use Rattle.pair_protocol.specs.Lawful.{Reaches}
use Rattle.pair_protocol.specs.Node.{Joining, Node}
use Rattle.pair_protocol.specs.Row.{Row}
use Rattle.pair_protocol.specs.World.{World}
use Rattle.altair_laws.specs.Pairs.{IsRun}
use Rattle.altair_laws.specs.Stands.{AreWhole}

-- the copy of an Altair of this many drives
unfoldable pub image_copy : ℕ → Copying Guest
image_copy drives = record {
  parts = λ g. parts_of (checkpoint_of g);
  part_count = part_count drives;
  assemble = guest_in drives;
}

-- the fields of a setup have the sizes of their types, and each sector of its drives has all its bytes
pub record IsSetup (setup : Setup) (sectors : SectorAddress → List ℕ) : Type 0 where
  pub levels : length setup.levels ≡ 3
  pub memory : length setup.memory.items ≡ BYTES
  pub sense : setup.sense < 2 ^ 8
  pub disk : (address : SectorAddress) → IsTrue (has_sector setup.drives address)
      → length (sectors address) ≡ SECTOR_BYTES

-- an Altair that is reached from boot may be copied, if each sector that came under a head had all its bytes
abbrev pub AltairsMayBeCopied : Type 0
AltairsMayBeCopied = (setup : Setup) (sectors : SectorAddress → List ℕ) → IsSetup setup sectors
    → (moves : List Move) (g : Guest) → AreWhole moves → Reaches (altair setup sectors) moves g → IsCopyable g

-- the image is a copy of the Altair, and its parts make one
abbrev pub TheImageCopies : Type 0
TheImageCopies = (setup : Setup) (sectors : SectorAddress → List ℕ) → IsSetup setup sectors
    → IsCopying (altair setup sectors) (image_copy setup.drives) × Makes (altair setup sectors) (image_copy setup.drives)

-- ---- pairs of Altairs that are copied by their images

-- the events of a run of such a pair, their replies, and the world that they lead to
abbrev pub IsCopiedRun : Setup → (SectorAddress → List ℕ) → List Event → List Reply → World Guest → Type 0
IsCopiedRun setup sectors events replies w = IsRun setup sectors (image_copy setup.drives) events replies w

-- every world of every run is faithful
abbrev pub CopiedPairsAreFaithful : Type 0
CopiedPairsAreFaithful = (setup : Setup) (sectors : SectorAddress → List ℕ) → IsSetup setup sectors
    → (events : List Event) (replies : List Reply) (w : World Guest)
    → IsCopiedRun setup sectors events replies w → Faithful (altair setup sectors) w

-- and each further event lets what is settled grow
abbrev pub CopiedPairsGrow : Type 0
CopiedPairsGrow = (setup : Setup) (sectors : SectorAddress → List ℕ) → IsSetup setup sectors
    → (events : List Event) (replies : List Reply) (w new : World Guest) (e : Event) (r : Reply)
    → IsCopiedRun setup sectors events replies w → Row (altair setup sectors) (image_copy setup.drives) w e r new
    → Grows (altair setup sectors) w new

-- and what a joining node is given are the parts of one Altair, and all of them make that Altair
abbrev pub JoiningAltairsAreGiven : Type 0
JoiningAltairsAreGiven = (setup : Setup) (sectors : SectorAddress → List ℕ) → IsSetup setup sectors
    → (events : List Event) (replies : List Reply) (w : World Guest) → IsCopiedRun setup sectors events replies w
    → (n : ℕ) (x : Node Guest) → slice_get w.nodes n ≡ Some x → x.role ≡ Joining
    → IsGiven (altair setup sectors) (image_copy setup.drives) w x
