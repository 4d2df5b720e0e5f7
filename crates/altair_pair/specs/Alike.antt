-- What a faithful pair of Altairs has done is what the single machine of its setup does: so its verdict is `Same`.
use Rattle.std.specs.Prelude.{◌≡◌, ℕ, IsTrue, List}
use Rattle.altair_laws.specs.Copies.{image_copy}
use Rattle.disk_dcdd.specs.Address.{has_sector}
use Rattle.disk_dcdd.specs.declared.address.SectorAddress.{SectorAddress}
use Rattle.disk_dcdd.specs.declared.sector.SectorWrite.{SectorWrite}
use Rattle.guest_parts.specs.Guest.{Guest}
use Rattle.guest_board.specs.Guest.{altair, guest_at_boot}
use Rattle.guest_board.specs.Inputs.{some_altair}
use Rattle.guest_lockstep.specs.Machine.{Machine}
use Rattle.guest_board.specs.declared.setup.Setup.{Setup}
use Rattle.guest_lockstep.specs.Reach.{image, output, writes}
use Rattle.guest_lockstep.specs.declared.timed.Timed.{Timed}
use Rattle.ft_world.specs.Applies.{Shows}
use Rattle.ft_world.specs.Running.{Running}
use Rattle.ft_world.specs.Standing.{Course}
use Rattle.pair_protocol.specs.Faithful.{Faithful}
use Rattle.pair_protocol.specs.Settled.{Settled}
use Rattle.pair_protocol.specs.World.{World}
use Rattle.plain_single.specs.Image.{boot_sectors}
use Rattle.altair_pair.specs.Comparing.{IsAlike, IsVerdictOn, deeds_of}
use Rattle.shared_disk.specs.Failing.{Disk, records_in}
use Rattle.altair_pair.specs.declared.verdict.Verdict.{Verdict}
use Rattle.altair_pair.specs.declared.verdict.Verdict.TheVariants.{Same}

-- a world of Altairs of a setup, whose disk began with these sectors; an Altair is copied by its image
abbrev pub altair_course : Setup → (SectorAddress → List ℕ) → World Guest → Course Guest
altair_course setup start w = record {
  boot = guest_at_boot setup;
  sectors = start;
  copying = image_copy setup.drives;
  world = w;
}

-- two disks begin alike on this many drives
abbrev pub BeginAlike : ℕ → (SectorAddress → List ℕ) → (SectorAddress → List ℕ) → Type 0
BeginAlike drives one other =
    (address : SectorAddress) → IsTrue (has_sector drives address) → one address ≡ other address

-- a faithful pair of Altairs has done the same as the trace of the inputs that are settled
abbrev pub FaithfulIsAlike : Type 0
FaithfulIsAlike = (setup : Setup) (start : SectorAddress → List ℕ) (w : World Guest)
    → (f : Faithful (altair setup start) w)
    → IsAlike setup.drives (deeds_of (altair setup start) w f.list) (λ port. output port f.trace) (writes f.trace)
    (image (altair setup start) f.trace)

-- the verdict is `Same`, up to the count that is settled; no other list and no other count is settled
pub record IsSameAtSettled {S : Type 0} (M : Machine S) (w : World S) (verdict : Verdict) : Type 0 where
  pub list : List Timed
  pub count : ℕ
  pub settled : Settled M w list count
  pub only : (other : List Timed) (n : ℕ) → Settled M w other n → (other ≡ list) × (n ≡ count)
  pub same : verdict ≡ Same count

-- a verdict on a running pair of Altairs of a setup, by the single machine of that setup, is `Same`
abbrev pub ShownIsSame : Type 0 → Type 0 → Type 0
ShownIsSame B H = (state copied : B → Guest) (setup : Setup) (sectors : List SectorWrite)
    (start : SectorAddress → List ℕ) (w : World Guest) (v : Running B H Disk) (verdict : Verdict)
    → BeginAlike setup.drives start (boot_sectors sectors)
    → Shows state copied some_altair records_in v (altair_course setup start w)
    → IsVerdictOn (altair setup (boot_sectors sectors)) setup.drives (altair setup start) w v.disk.store verdict
    → IsSameAtSettled (altair setup start) w verdict
