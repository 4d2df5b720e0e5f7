-- The setup of a session, and what its lines change.
use Rattle.std.specs.Prelude.{◌≡◌, ℕ, ◌-◌, List, [], ◌∷◌, ◌++◌, Option, Some, None, length, nat_le, replicate, take}
use Rattle.std.specs.List.{find}
use Rattle.disk_dcdd.specs.declared.address.SectorAddress.{SectorAddress}
use Rattle.disk_dcdd.specs.declared.sector.SectorWrite.{SectorWrite}
use Rattle.script_language.specs.Booting.{Boot, boot_after, boot_of, default_boot, memory_from}
use Rattle.script_language.specs.Words.{bytes_of}
use Rattle.shell_language.specs.Mistakes.{Flaw}
use Rattle.shell_language.specs.Mistakes.Flaw.{Blank, Detached}
use Rattle.shell_language.specs.declared.line.ShellLine.{ShellLine}
use Rattle.shell_language.specs.declared.line.ShellLine.TheVariants as shell
use Rattle.shell_language.specs.declared.opening.SessionSetup.{SessionSetup}

-- the setup before the first line: what a script boots that has no setup line
pub record IsDefault (opening : SessionSetup) : Type 0 where
  pub boot : boot_of opening.setup ≡ default_boot
  pub sectors : opening.sectors.items ≡ []

-- the machines boot in the same way, from the same sectors
pub record IsSame (old new : SessionSetup) : Type 0 where
  pub boot : boot_of new.setup ≡ boot_of old.setup
  pub sectors : new.sectors.items ≡ old.sectors.items

-- the first 137 of these bytes, and zeros after them
abbrev pub padded : List ℕ → List ℕ
padded bytes = take 137 bytes ++ replicate (137 - length bytes) 0

-- the bytes of a sector: one alone is each of them
abbrev pub sector_bytes : List ℕ → List ℕ
sector_bytes (only ∷ []) = replicate 137 only
sector_bytes bytes = padded bytes

-- a sector at boot, as a write that comes before every write of a guest
abbrev pub sector_of : SectorAddress → List ℕ → SectorWrite
sector_of place bytes = record {
  number = 0;
  drive = place.drive;
  track = place.track;
  sector = place.sector;
  bytes = sector_bytes bytes;
}

-- a line of the setup other than a sector: what it changes in a script
pub record IsSet (boots : Option Boot) (old new : SessionSetup) : Type 0 where
  pub boot : Some (boot_of new.setup) ≡ boots
  pub sectors : new.sectors.items ≡ old.sectors.items

-- one more sector
pub record HasSector (place : SectorAddress) (words : List (List ℕ)) (old new : SessionSetup) : Type 0 where
  pub boot : boot_of new.setup ≡ boot_of old.setup
  pub bytes : List ℕ
  pub are : bytes_of words ≡ Some bytes
  pub sectors : new.sectors.items ≡ old.sectors.items ++ sector_of place bytes ∷ []

-- What a line changes in the setup. A record of Intel HEX puts its bytes into memory; lines that are not of the setup
-- change nothing of it.
abbrev pub SetsUp : ShellLine → SessionSetup → SessionSetup → Type 0
SetsUp (shell.Setup word words) old new = IsSet (boot_after word 1 words (boot_of old.setup)) old new
SetsUp (shell.SetSector place words) old new = HasSector place words old new
SetsUp (shell.Load loaded) old new = IsSet (Some (memory_from loaded.address loaded.bytes 1 (boot_of old.setup))) old new
SetsUp _ old new = IsSame old new

-- a line of the setup that it does not take: its words are none of those that may come there
abbrev pub CannotSet : ShellLine → SessionSetup → Type 0
CannotSet (shell.Setup word words) old = boot_after word 1 words (boot_of old.setup) ≡ None
CannotSet (shell.SetSector place words) old = bytes_of words ≡ None
CannotSet _ old = ⊥

-- the same of a text that says some line
abbrev pub SetsUpSaid : Option ShellLine → SessionSetup → SessionSetup → Type 0
SetsUpSaid (Some line) old new = SetsUp line old new
SetsUpSaid None old new = Unit {0}

-- why no pair can boot: the first sector on a drive that is not attached
abbrev pub detached_flaw : Option SectorWrite → Flaw
detached_flaw (Some sector) = Detached sector.drive sector.track sector.sector
detached_flaw None = Blank

abbrev pub detached_in : ℕ → List SectorWrite → Flaw
detached_in drives sectors = detached_flaw (find (λ (sector : SectorWrite). nat_le drives sector.drive) sectors)
