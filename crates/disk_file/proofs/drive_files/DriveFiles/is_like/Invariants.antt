use Rattle.std.proofs.Common.{◌≡◌, ◌<◌, ◌≤◌, ◌-◌, ℕ}
use Rattle.disk_file.specs.Drives.{AgreeOnDrive, all_records}
use Rattle.disk_file.proofs.drive_files.DriveFiles.is_like.Given as goal

abbrev pub invariant-loop-drive : goal.invariant-loop-drive
invariant-loop-drive g l = record {
  unchanged : all_records l.self ≡ all_records l.initial.self;
  other : l.other ≡ l.initial.other;
  small : l.drive ≤ l.drives;
  alike : (d : ℕ) → d < l.drive → AgreeOnDrive d (all_records l.initial.self) l.initial.other;
}

abbrev pub decreases-loop-drive : goal.decreases-loop-drive
decreases-loop-drive g l = l.drives - l.drive
