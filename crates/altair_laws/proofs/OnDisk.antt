-- The sectors that an Altair reads and writes. The selected drive is an attached one, the head of every drive is at one
-- of its tracks, and an outstanding write was issued to such a drive, at its track, for a sector under its head. None of
-- this depends on how many bytes a sector under the head had.
use Rattle.std.proofs.Common.{◌≡◌, ℕ, ◌<◌, List, Some, sym, subst}
use Rattle.std.specs.Prelude.{IfSome, IsTrue, nat_lt}
use Rattle.std.proofs.lemmas.Bool.{and_from, lt-ltb}
use Rattle.altair_laws.proofs.Words.{Guest, Move, OpId, Reaches, SECTORS, SectorAddress, SectorWrite, Setup, TRACKS, Write, address_of, address_under, altair, has_sector, is_on_disk, operation_at}
use Rattle.pair_protocol.specs.OnDisk.{StaysOnDisk}
use Rattle.altair_laws.proofs.Drives.{Stands}
use Rattle.altair_laws.proofs.Commands.{drive-track}
use Rattle.altair_laws.proofs.Images.{Apart}
use Rattle.altair_laws.proofs.Writes.{Writes, known-place}
use Rattle.altair_laws.proofs.Completions.{writes_after}
use Rattle.altair_laws.proofs.Standing.{stands}

-- a sector whose drive, track and number exist
there : (drives : ℕ) (a : SectorAddress) → a.drive < drives → a.track < TRACKS → a.sector < SECTORS
    → IsTrue (has_sector drives a)
there drives a d t s =
    and_from (is_on_disk a) (nat_lt a.drive drives)
    (and_from (nat_lt a.track TRACKS) (nat_lt a.sector SECTORS) (lt-ltb a.track TRACKS t) (lt-ltb a.sector SECTORS s))
    (lt-ltb a.drive drives d)

-- the track under the head of the selected drive has these sectors
reads_there : (g : Guest) (drive sector : ℕ) → Stands g.devices.disk → g.devices.disk.selected ≡ Some drive
    → sector < SECTORS → IsTrue (has_sector g.devices.disk.attached (address_under g drive sector))
reads_there g drive sector h e s =
    let a : drive < g.devices.disk.attached = subst (λ o. IfSome o (λ n. n < g.devices.disk.attached)) e h.selected in
    there g.devices.disk.attached (address_under g drive sector) a (drive-track g.devices.disk drive h a) s

-- an outstanding write is found under its own name, and the controller knows its place
writes_there : (start : SectorAddress → List ℕ) (moves : List Move) (g : Guest) (name : OpId) (write : SectorWrite)
    → Writes start moves g → operation_at g.operations name ≡ Some (Write write)
    → IsTrue (has_sector g.devices.disk.attached (address_of write))
writes_there start moves g name write w h =
    let own = w.are_given.named name (Write write) h in
    let k = known-place start moves g w write
    (subst (λ n. operation_at g.operations n ≡ Some (Write write)) (sym own) h) in
    there g.devices.disk.attached (address_of write) k.drive k.track k.sector

pub stays_on_disk : Apart → (setup : Setup) (sectors : SectorAddress → List ℕ)
    → StaysOnDisk (altair setup sectors) setup.drives
stays_on_disk apart setup sectors = record {
  reads = λ moves g drive sector r e s. attached moves g (address_under g drive sector) r
      (reads_there g drive sector (writes_after apart setup sectors moves g r).stands e s);
  writes = λ moves g name write r h. attached moves g (address_of write) r
      (writes_there sectors moves g name write (writes_after apart setup sectors moves g r) h);
}
  where
    attached : (moves : List Move) (g : Guest) (address : SectorAddress) → Reaches (altair setup sectors) moves g
        → IsTrue (has_sector g.devices.disk.attached address) → IsTrue (has_sector setup.drives address)
    attached moves g address r h =
        subst (λ drives. IsTrue (has_sector drives address)) (stands apart setup sectors moves g r).sizes.attached h
