-- If each sector that came under a head had the bytes of the machine's own disk, it had all its bytes: the sectors at
-- boot have them, and so has each write of such a sector.
use Rattle.std.proofs.Common.{◌≡◌, ◌<◌, ℕ, Bool, true, false, cond, not, List, [], ◌∷◌, ◌++◌, length, Some, None, inl, inr, refl, sym, ap, ◌∙◌}
use Rattle.std.specs.Prelude.{IsTrue, nat_lt, ◌&&◌, ◌==◌, is_none}
use Rattle.std.proofs.lemmas.Bool.{ltb-true, and_parts}
use Rattle.std.proofs.lemmas.Option.{cond_some}
use Rattle.disk_dcdd.specs.Address.{address_of, has_sector, same_address}
use Rattle.disk_dcdd.specs.Completion.{is_head_loaded, is_sector_due, is_sector_busy, is_selected}
use Rattle.disk_dcdd.specs.declared.address.SectorAddress.{SectorAddress}
use Rattle.disk_dcdd.specs.declared.sector.SectorWrite.{SectorWrite}
use Rattle.disk_dcdd.specs.declared.sector.TheConstants.{SECTORS, SECTOR_BYTES}
use Rattle.event_callbacks.specs.Completions.{is_due}
use Rattle.event_callbacks.specs.declared.devices.Done.TheVariants as done
use Rattle.event_callbacks.specs.declared.operations.Operation.TheVariants.{Byte, Write}
use Rattle.guest_parts.specs.Guest.{Guest}
use Rattle.guest_board.specs.Guest.{altair, take_from, may_take_sector, after_sector}
use Rattle.guest_lockstep.specs.Machine.{Move, Do, Take, Runs}
use Rattle.guest_lockstep.specs.declared.input.Input.{Input}
use Rattle.guest_lockstep.specs.declared.input.Input.TheVariants.{Rx, Sent, Sector, Written}
use Rattle.guest_board.specs.declared.setup.Setup.{Setup}
use Rattle.guest_lockstep.specs.Reach.{Own, Owns, bytes_after, image_from}
use Rattle.altair_laws.proofs.Drives.{selected_is}
use Rattle.altair_laws.specs.Stands.{AltairStands, AreWhole, AreWholeWrites, IsWhole}
use Rattle.pair_protocol.specs.Lawful.{Among, Reaches}
use Rattle.pair_protocol.specs.OnDisk.{StaysOnDisk}
use Rattle.pair_protocol.proofs.Traces.Moves.{runs-append}

abbrev AllWhole : List SectorWrite → Type 0
AllWhole writes = (w : SectorWrite) → Among w writes → length w.bytes ≡ SECTOR_BYTES

either : (b : Bool) (xs ys : List ℕ) → length xs ≡ SECTOR_BYTES → length ys ≡ SECTOR_BYTES
    → length (cond b xs ys) ≡ SECTOR_BYTES
either true xs ys h k = h
either false xs ys h k = k

after_whole : (writes : List SectorWrite) (number : ℕ) (q : SectorAddress) (bytes : List ℕ) → AllWhole writes
    → length bytes ≡ SECTOR_BYTES → length (bytes_after writes number q bytes) ≡ SECTOR_BYTES
after_whole [] number q bytes all h = h
after_whole (w ∷ rest) number q bytes all h =
    either (w.number == number) _ _
    (either (same_address (address_of w) q) w.bytes bytes (all w (inl refl)) h)
    (after_whole rest number q bytes (λ v m. all v (inr m)) h)

image_whole : (issued : List SectorWrite) (q : SectorAddress) (bytes : List ℕ) (moves : List Move) → AllWhole issued
    → length bytes ≡ SECTOR_BYTES → AreWholeWrites moves → length (image_from issued q bytes moves) ≡ SECTOR_BYTES
image_whole issued q bytes [] all h k = h
image_whole issued q bytes (Do None ∷ moves) all h k = image_whole issued q bytes moves all h k
image_whole issued q bytes (Do (Some (Byte port number byte)) ∷ moves) all h k =
    image_whole issued q bytes moves all h (λ w m. k w (inr m))
image_whole issued q bytes (Do (Some (Write write)) ∷ moves) all h k =
    image_whole (write ∷ issued) q bytes moves
    (λ w m. elim m [
      | inl e ↦ ap (λ (v : SectorWrite). length v.bytes) e ∙ k write (inl refl)
      | inr m ↦ all w m
    ]) h (λ w m. k w (inr m))
image_whole issued q bytes (Take (Rx port byte) ∷ moves) all h k = image_whole issued q bytes moves all h k
image_whole issued q bytes (Take (Sent port) ∷ moves) all h k = image_whole issued q bytes moves all h k
image_whole issued q bytes (Take (Sector drive sector number others) ∷ moves) all h k =
    image_whole issued q bytes moves all h k
image_whole issued q bytes (Take (Written number) ∷ moves) all h k =
    image_whole issued q (bytes_after issued number q bytes) moves all (after_whole issued number q bytes all h) k

-- a sector that comes is one of the selected drive
record ComesFrom (g : Guest) (drive sector : ℕ) : Type 0 where
  selected : g.devices.disk.selected ≡ Some drive
  there : sector < SECTORS

comes_from : (g u : Guest) (drive sector number : ℕ) (bytes : List ℕ)
    → take_from g (Sector drive sector number bytes) ≡ Some u → ComesFrom g drive sector
comes_from g u drive sector number bytes e =
    let disk = g.devices.disk in
    let may = (cond_some (may_take_sector g drive sector bytes) (after_sector g sector bytes) u e).0 in
    let two = and_parts (is_selected disk drive) (is_due g.devices (done.Sector sector bytes)) may in
    let due = (and_parts (is_sector_due disk sector) (not (is_sector_busy disk sector)) two.1).0 in
    let there = (and_parts (is_head_loaded disk && is_none disk.current) (nat_lt sector SECTORS) due).1 in
    record { selected = selected_is disk drive two.0; there = ltb-true sector SECTORS there }

whole-more : (moves : List Move) (m : Move) → AreWhole moves → AreWhole (m ∷ []) → AreWhole (moves ++ m ∷ [])
whole-more [] m h k = k
whole-more (Do gives ∷ moves) m h k = whole-more moves m h k
whole-more (Take i ∷ moves) m h k = (h.0, whole-more moves m h.1 k)

owned : (setup : Setup) (sectors : SectorAddress → List ℕ)
    → ((address : SectorAddress) → IsTrue (has_sector setup.drives address)
    → length (sectors address) ≡ SECTOR_BYTES)
    → StaysOnDisk (altair setup sectors) setup.drives
    → ((moves : List Move) (g : Guest) → Reaches (altair setup sectors) moves g → AltairStands setup moves g)
    → (before : List Move) (s t : Guest) (moves : List Move)
    → Reaches (altair setup sectors) before s → AreWhole before → Runs (altair setup sectors) s moves t
    → Owns (altair setup sectors) before s moves → AreWhole moves
owned setup sectors boot on_disk stands before s t [] r whole run own = tt
owned setup sectors boot on_disk stands before s t (Do gives ∷ moves) r whole run own =
    let M = altair setup sectors in
    owned setup sectors boot on_disk stands (before ++ Do gives ∷ []) run.0 t moves
    (runs-append M M.boot s run.0 before (Do gives ∷ []) r (run.0, run.1, refl))
    (whole-more before (Do gives) whole tt) run.2 (own run.0 run.1)
owned setup sectors boot on_disk stands before s t (Take i ∷ moves) r whole run own =
    let M = altair setup sectors in
    let here = input i run.1 own.0 in (
      here,
      owned setup sectors boot on_disk stands (before ++ Take i ∷ []) run.0 t moves
          (runs-append M M.boot s run.0 before (Take i ∷ []) r (run.0, run.1, refl))
          (whole-more before (Take i) whole (here, tt)) run.2 (own.1 run.0 run.1),
    )
  where
    input : (i : Input) → take_from s i ≡ Some run.0 → Own (altair setup sectors) before s i → IsWhole i
    input (Rx port byte) e own = tt
    input (Sent port) e own = tt
    input (Sector drive sector number bytes) e own =
        let M = altair setup sectors in
        let c = comes_from s run.0 drive sector number bytes e in
        let q = M.address s drive sector in
        ap length (sym own.1)
        ∙ image_whole [] q (sectors q) before (λ w m. absurd m)
        (boot q (on_disk.reads before s drive sector r c.selected c.there)) ((stands before s r).whole whole)
    input (Written number) e own = tt

pub owned_whole : (setup : Setup) (sectors : SectorAddress → List ℕ)
    → ((address : SectorAddress) → IsTrue (has_sector setup.drives address)
    → length (sectors address) ≡ SECTOR_BYTES)
    → StaysOnDisk (altair setup sectors) setup.drives
    → ((moves : List Move) (g : Guest) → Reaches (altair setup sectors) moves g → AltairStands setup moves g)
    → (moves : List Move) (g : Guest) → Reaches (altair setup sectors) moves g
    → Owns (altair setup sectors) [] (altair setup sectors).boot moves → AreWhole moves
owned_whole setup sectors boot on_disk stands moves g r own =
    owned setup sectors boot on_disk stands [] (altair setup sectors).boot g moves refl tt r own
