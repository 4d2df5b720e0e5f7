use Rattle.std.proofs.Common.{◌≡◌, ◌<◌, ◌≤◌, ◌-◌, ℕ}
use Rattle.disk_dcdd.specs.declared.drive.TheConstants.{TRACKS}
use Rattle.disk_file.specs.Drives.{AgreeOnTrack, all_records}
use Rattle.disk_file.proofs.drive_files.DriveFiles.has_drive.Given as goal

abbrev pub invariant-loop-track : goal.invariant-loop-track
invariant-loop-track g l = record {
  unchanged : all_records l.self ≡ all_records l.initial.self;
  other : l.other ≡ l.initial.other;
  small : l.track ≤ TRACKS;
  alike : (t : ℕ) → t < l.track → AgreeOnTrack l.drive t (all_records l.initial.self) l.initial.other;
}

abbrev pub decreases-loop-track : goal.decreases-loop-track
decreases-loop-track g l = TRACKS - l.track
