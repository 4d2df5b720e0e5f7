use Rattle.std.proofs.Common.{rules, ◌≡◌, List, subst}
use Rattle.shared_disk.specs.Records.{HasWholeSectors}
use Rattle.disk_file.specs.Drives.{all_records}
use Rattle.disk_file.specs.declared.kept.FileRecords.{FileRecords}
use Rattle.disk_file.proofs.Drives.{all_whole}
use Rattle.disk_file.proofs.drive_files.DriveFilesSectorStore.has_whole_sectors.Goals as goal

pub returns : goal.returns
returns g c =
    let drives = c.self.inside.drives.items in
    let same : drives ≡ c.args.self.now = search rules in
    subst (λ (l : List (FileRecords g.row.D.Denot)). HasWholeSectors (all_records l)) same (all_whole drives c.self.invariant)
