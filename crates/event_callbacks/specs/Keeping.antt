-- What is known about a stored closure.
use Rattle.std.specs.Prelude.{◌≡◌, ℕ, ◌<◌, ◌^◌, IsTrue, length}
use Rattle.disk_dcdd.specs.declared.sector.TheConstants.{SECTOR_BYTES}
use Rattle.event_callbacks.specs.declared.devices.TheConstants.{SENT, SECTOR, WRITTEN}
use Rattle.event_callbacks.specs.declared.devices.Devices.{Devices}
use Rattle.event_callbacks.specs.declared.devices.Done.{Done}
use Rattle.event_callbacks.specs.declared.devices.Done.TheVariants.{Sent, Sector, Written}
use Rattle.event_callbacks.specs.Completions.{is_due, done_of}

-- the kind of closure that completes it
abbrev pub kind_of : Done → ℕ
kind_of (Sent port) = SENT
kind_of (Sector sector bytes) = SECTOR
kind_of (Written number) = WRITTEN

-- its numbers fit their types, and a sector has all its bytes
abbrev pub FitsDone : Done → Type 0
FitsDone (Sent port) = port < 2 ^ 8
FitsDone (Sector sector bytes) = (sector < 2 ^ 8) × (length bytes ≡ SECTOR_BYTES)
FitsDone (Written number) = number < 2 ^ 64

-- it is of this kind, it is due, and it fits
pub record MayComplete (kind : ℕ) (d : Devices) (x : Done) : Type 0 where
  pub of_kind : kind_of x ≡ kind
  pub due : IsTrue (is_due d x)
  pub fits : FitsDone x

-- a closure obeys the completion table for a kind: it may be called with whatever it may complete, and then it returns
-- what the table says
pub record Keeps (may : Devices → Done → Type 0) (gives : Devices → Done → Devices → Type 0) (kind : ℕ) : Type 0 where
  pub callable : (d : Devices) (x : Done) → MayComplete kind d x → may d x
  pub table : (d : Devices) (x : Done) (after : Devices) → MayComplete kind d x → gives d x after → after ≡ done_of d x
