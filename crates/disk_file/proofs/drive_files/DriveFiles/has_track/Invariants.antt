use Rattle.std.proofs.Common.{◌≡◌, ◌<◌, ◌≤◌, ◌-◌, ℕ}
use Rattle.disk_dcdd.specs.declared.sector.TheConstants.{SECTORS}
use Rattle.disk_file.specs.Drives.{Agree, all_records}
use Rattle.disk_file.proofs.drive_files.DriveFiles.has_track.Given as goal

abbrev pub invariant-loop-sector : goal.invariant-loop-sector
invariant-loop-sector g l = record {
  unchanged : all_records l.self ≡ all_records l.initial.self;
  other : l.other ≡ l.initial.other;
  small : l.sector ≤ SECTORS;
  alike : (s : ℕ) → s < l.sector → Agree (record { drive = l.drive; track = l.track; sector = s }) (all_records l.initial.self) l.initial.other;
}

abbrev pub decreases-loop-sector : goal.decreases-loop-sector
decreases-loop-sector g l = SECTORS - l.sector
