use Rattle.std.proofs.Common.{rules, arith, ◌≡◌, ◌<◌, ◌≤◌, length, List, Some, sym, ◌∙◌, ap}
use Rattle.std.specs.Prelude.{slice_get}
use Rattle.std.proofs.lemmas.Option.{slice_get_past}
use Rattle.std.proofs.lemmas.Result.{IfOk-weaker, IfErr-weaker}
use Rattle.shared_disk.specs.Records.{record_at, refusal_at}
use Rattle.disk_file.specs.Drives.{all_records}
use Rattle.disk_file.specs.declared.kept.FileRecords.{FileRecords}
use Rattle.disk_file.proofs.Drives.{at_drive}
use Rattle.disk_file.proofs.DriveWrites.{found, refused_none, refused_at}
use Rattle.disk_file.proofs.drive_files.DriveFilesSectorStore.read.Goals as goal

pub returns-then-drive-len-clause-refused : goal.returns-then-drive-len-clause-refused
returns-then-drive-len-clause-refused g c =
    let drives = c.self.inside.drives.items in
    let a = c.args.address in
    let same : drives ≡ c.args.self.now = search rules in
    let len : c.len.result ≡ length drives = search rules in
    let past : length drives ≤ a.drive = omega (arith, len, c.if-drive-len.true) in
    refused_none drives c.self.invariant a (slice_get_past drives a.drive past) ∙ ap (λ (l : List (FileRecords g.row.D.Denot)). refusal_at (all_records l) a) same

pub returns-clause-ok : goal.returns-clause-ok
returns-clause-ok g c =
    let drives = c.self.inside.drives.items in
    let a = c.args.address in
    let k = c.index.result.now in
    let same : drives ≡ c.args.self.now = search rules in
    let len : c.len.result ≡ length drives = search rules in
    let within : a.drive < length drives = omega (arith, len, c.if-drive-len.false) in
    let is : slice_get drives a.drive ≡ Some k = found drives a.drive k within c.index.ensures in
    let at = at_drive drives c.self.invariant a k is in
    let one : record_at k.records.items c.in_drive.result ≡ record_at (all_records c.args.self.now) a =
    ap (record_at k.records.items) c.in_drive.ensures ∙ sym at ∙ ap (λ (l : List (FileRecords g.row.D.Denot)). record_at (all_records l) a) same in
    IfOk-weaker c.record.result _ _ (λ read was. sym one ∙ was) c.record.ensures.ok

pub returns-clause-refused : goal.returns-clause-refused
returns-clause-refused g c =
    let drives = c.self.inside.drives.items in
    let a = c.args.address in
    let k = c.index.result.now in
    let same : drives ≡ c.args.self.now = search rules in
    let len : c.len.result ≡ length drives = search rules in
    let within : a.drive < length drives = omega (arith, len, c.if-drive-len.false) in
    let is : slice_get drives a.drive ≡ Some k = found drives a.drive k within c.index.ensures in
    let one : refusal_at k.records.items c.in_drive.result ≡ refusal_at (all_records c.args.self.now) a =
    ap (refusal_at k.records.items) c.in_drive.ensures ∙ refused_at drives c.self.invariant a k is ∙ ap (λ (l : List (FileRecords g.row.D.Denot)). refusal_at (all_records l) a) same in
    IfErr-weaker c.record.result _ _ (λ fault was. was ∙ one) c.record.ensures.refused
