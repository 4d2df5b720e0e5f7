use Rattle.std.proofs.Common.{rules, ◌≡◌, ◌++◌, [], ◌∷◌, All, List, sym, subst}
use Rattle.std.proofs.lemmas.List.Elements.{All-push}
use Rattle.disk_file.specs.Drives.{IsDrive}
use Rattle.disk_file.specs.declared.kept.FileRecords.{FileRecords}
use Rattle.disk_file.proofs.drive_files.DriveFiles.push.Goals as goal

pub invariant_of-self-2 : goal.invariant_of-self-2
invariant_of-self-2 g c =
    let old = c.self.inside.drives.items in
    let items : c.push.new.self.items ≡ old ++ c.args.drive ∷ [] = search rules in
    subst (λ (l : List (FileRecords g.row.D.Denot)). All IsDrive l) (sym items) (All-push IsDrive old c.args.drive c.self.invariant (record { size = c.requires; whole = c.has_whole_sectors.ensures }))
