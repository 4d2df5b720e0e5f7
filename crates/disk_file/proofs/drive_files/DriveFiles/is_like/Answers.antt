-- Each drive agrees with the other disk once the loop has passed them all.
use Rattle.std.proofs.Common.{rules, arith, ◌≡◌, List, length, subst, sym}
use Rattle.disk_file.specs.Drives.{AgreeOnDrive, IsBooted, all_records}
use Rattle.disk_file.specs.declared.kept.FileRecords.{FileRecords}
use Rattle.disk_file.proofs.Alike.{are_alike}
use Rattle.disk_file.proofs.drive_files.DriveFiles.is_like.Goals as goal

pub returns-clause-like : goal.returns-clause-like
returns-clause-like g c = λ yes sectors boot.
    let list = c.self.inside.drives.items in
    let same : list ≡ c.args.self.now = search rules in
    let many : length list ≡ c.args.drives = search rules in
    subst (λ (l : List (FileRecords g.row.D.Denot)). IsBooted (all_records l) c.args.drives sectors) same
    (are_alike list c.self.invariant c.args.drives many c.args.other.now
    (λ d within. subst (λ (l : List (FileRecords g.row.D.Denot)). AgreeOnDrive d (all_records l) c.args.other.now) (sym same)
    (c.loop-drive.invariant.alike d (omega (arith, within, c.loop-drive-test.false)))) sectors boot)
