-- The drives as the single machine keeps them, in the words of the drive table.
use Rattle.std.specs.Prelude.{ℕ, ◌+◌, Option, Some, None, List, [], ◌∷◌, ◌++◌, map, vec_len}
use Rattle.disk_dcdd.specs.Drive.{Drives, drive_of}
use Rattle.disk_dcdd.specs.declared.sector.SectorWrite.{SectorWrite}
use Rattle.plain_single.specs.Awaited.{place_with}
use Rattle.plain_single.specs.Passing.{drive_with, selected_of, current_of}
use Rattle.plain_single.specs.declared.drives.DiskDrives.{DiskDrives}

-- the controller of the table
abbrev pub drives_of : DiskDrives → Drives
drives_of d = record {
  attached = d.attached;
  selected = selected_of d.selection;
  drives = map drive_with d.heads;
  interrupts = d.interrupts;
  current = current_of d.selection;
  outstanding = map place_with d.awaited.items;
  issued = vec_len d.writes;
}

-- the writes with one more, if one is issued
abbrev pub with_issued : List SectorWrite → Option SectorWrite → List SectorWrite
with_issued writes None = writes
with_issued writes (Some write) = writes ++ write ∷ []

-- the next write: of this sector of a drive, at its track, with these bytes
abbrev pub next_write : Drives → ℕ → ℕ → List ℕ → SectorWrite
next_write d drive sector bytes = record {
  number = d.issued + 1;
  drive = drive;
  track = (drive_of d drive).track;
  sector = sector;
  bytes = bytes;
}
