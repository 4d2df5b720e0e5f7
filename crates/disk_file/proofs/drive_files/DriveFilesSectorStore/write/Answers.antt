use Rattle.std.proofs.Common.{rules, arith, ◌≡◌, ◌<◌, ◌≤◌, length, List, Some, ◌∙◌, ap, subst}
use Rattle.std.specs.Prelude.{slice_get, slice_set}
use Rattle.std.proofs.lemmas.List.Elements.{All-set}
use Rattle.std.proofs.lemmas.Option.{slice_get_past}
use Rattle.std.proofs.lemmas.Result.{IfErr-weaker, on_ok_weaker, on_err_weaker}
use Rattle.disk_dcdd.specs.declared.address.SectorAddress.{SectorAddress}
use Rattle.shared_disk.specs.Records.{IsThere, refusal_at, with_record}
use Rattle.disk_file.specs.Device.{LeavesOnly}
use Rattle.disk_file.specs.Drives.{IsDrive, OnlyDrive, WritesDrive, all_records}
use Rattle.disk_file.specs.Kept.{StandsFor, bytes_of, pending_in}
use Rattle.disk_file.specs.declared.kept.FileRecords.{FileRecords}
use Rattle.disk_file.proofs.Drives.{drive_at, same_drive, with_drive}
use Rattle.disk_file.proofs.DriveWrites.{found, refused_none, refused_at, there_at, on_disk, only_drive, writes_drive, writes_none}
use Rattle.disk_file.proofs.drive_files.DriveFilesSectorStore.write.Goals as goal

pub returns-then-drive-len-clause-refused : goal.returns-then-drive-len-clause-refused
returns-then-drive-len-clause-refused g c =
    let drives = c.self.inside.drives.items in
    let a = c.args.address in
    let same : drives ≡ c.args.self.now = search rules in
    let len : c.len.result ≡ length drives = search rules in
    let past : length drives ≤ a.drive = omega (arith, len, c.if-drive-len.true) in
    refused_none drives c.self.invariant a (slice_get_past drives a.drive past) ∙ ap (λ (l : List (FileRecords g.row.D.Denot)). refusal_at (all_records l) a) same

pub returns-then-drive-len-clause-any_moment : goal.returns-then-drive-len-clause-any_moment
returns-then-drive-len-clause-any_moment g c =
    let now = c.args.self.now in
    let len : c.len.result ≡ length now = search rules in
    let past : length now ≤ c.args.address.drive = omega (arith, len, c.if-drive-len.true) in
    writes_none g.D.CrashableFile.moment g.D.CrashableFile.left_since now c.args.address c.args.content.bytes past

pub invariant_of-self : goal.invariant_of-self
invariant_of-self g c =
    let drives = c.self.inside.drives.items in
    let a = c.args.address in
    let k = c.index_mut.result.now in
    let len : c.len.result ≡ length drives = search rules in
    let within : a.drive < length drives = omega (arith, len, c.if-drive-len.false) in
    let is : slice_get drives a.drive ≡ Some k = found drives a.drive k within c.index_mut.ensures.value in
    All-set IsDrive drives a.drive c.put.new.drive
    (record { size = c.put.ensures.size ∙ (drive_at drives c.self.invariant a.drive k is).size; whole = c.put.ensures.whole }) c.self.invariant

pub returns-clause-there : goal.returns-clause-there
returns-clause-there g c =
    let drives = c.self.inside.drives.items in
    let a = c.args.address in
    let k = c.index_mut.result.now in
    let same : drives ≡ c.args.self.now = search rules in
    let len : c.len.result ≡ length drives = search rules in
    let within : a.drive < length drives = omega (arith, len, c.if-drive-len.false) in
    let is : slice_get drives a.drive ≡ Some k = found drives a.drive k within c.index_mut.ensures.value in
    on_ok_weaker c.put.result
    (λ there. subst (λ (l : List (FileRecords g.row.D.Denot)). IsThere (all_records l) a) same
    (there_at drives c.self.invariant a k is (subst (λ (b : SectorAddress). IsThere k.records.items b) c.in_drive.ensures there))) c.put.ensures.there

pub returns-clause-ok : goal.returns-clause-ok
returns-clause-ok g c =
    let drives = c.self.inside.drives.items in
    let a = c.args.address in
    let k = c.index_mut.result.now in
    let same : drives ≡ c.args.self.now = search rules in
    let len : c.len.result ≡ length drives = search rules in
    let within : a.drive < length drives = omega (arith, len, c.if-drive-len.false) in
    let is : slice_get drives a.drive ≡ Some k = found drives a.drive k within c.index_mut.ensures.value in
    on_ok_weaker c.put.result
    (λ was. with_drive drives c.self.invariant a k c.put.new.drive c.args.content is
    (was ∙ ap (λ (b : SectorAddress). with_record k.records.items b c.args.content) c.in_drive.ensures)
    ∙ ap (λ (l : List (FileRecords g.row.D.Denot)). with_record (all_records l) a c.args.content) same) c.put.ensures.ok

pub returns-clause-refused : goal.returns-clause-refused
returns-clause-refused g c =
    let drives = c.self.inside.drives.items in
    let a = c.args.address in
    let k = c.index_mut.result.now in
    let same : drives ≡ c.args.self.now = search rules in
    let len : c.len.result ≡ length drives = search rules in
    let within : a.drive < length drives = omega (arith, len, c.if-drive-len.false) in
    let is : slice_get drives a.drive ≡ Some k = found drives a.drive k within c.index_mut.ensures.value in
    let one : refusal_at k.records.items c.in_drive.result ≡ refusal_at (all_records c.args.self.now) a =
    ap (refusal_at k.records.items) c.in_drive.ensures ∙ refused_at drives c.self.invariant a k is ∙ ap (λ (l : List (FileRecords g.row.D.Denot)). refusal_at (all_records l) a) same in
    IfErr-weaker c.put.result _ _ (λ fault was. was ∙ one) c.put.ensures.refused

pub returns-clause-unchanged : goal.returns-clause-unchanged
returns-clause-unchanged g c =
    let drives = c.self.inside.drives.items in
    let a = c.args.address in
    let k = c.index_mut.result.now in
    let same : drives ≡ c.args.self.now = search rules in
    let len : c.len.result ≡ length drives = search rules in
    let within : a.drive < length drives = omega (arith, len, c.if-drive-len.false) in
    let is : slice_get drives a.drive ≡ Some k = found drives a.drive k within c.index_mut.ensures.value in
    on_err_weaker c.put.result
    (λ was. same_drive drives a.drive k c.put.new.drive is was ∙ ap (λ (l : List (FileRecords g.row.D.Denot)). all_records l) same) c.put.ensures.unchanged

pub returns-clause-durable : goal.returns-clause-durable
returns-clause-durable g c =
    let drives = c.self.inside.drives.items in
    let a = c.args.address in
    let k = c.index_mut.result.now in
    let len : c.len.result ≡ length drives = search rules in
    let within : a.drive < length drives = omega (arith, len, c.if-drive-len.false) in
    let is : slice_get drives a.drive ≡ Some k = found drives a.drive k within c.index_mut.ensures.value in
    on_ok_weaker c.put.result (on_disk drives a k c.put.new.drive is) c.put.ensures.durable

pub returns-clause-only : goal.returns-clause-only
returns-clause-only g c =
    let drives = c.self.inside.drives.items in
    let a = c.args.address in
    let same : drives ≡ c.args.self.now = search rules in
    subst (λ (l : List (FileRecords g.row.D.Denot)). OnlyDrive a l (slice_set drives a.drive c.put.new.drive)) same (only_drive drives a c.put.new.drive)

pub returns-clause-any_moment : goal.returns-clause-any_moment
returns-clause-any_moment g c =
    let drives = c.self.inside.drives.items in
    let a = c.args.address in
    let k = c.index_mut.result.now in
    let new = c.put.new.drive in
    let bytes = c.args.content.bytes in
    let same : drives ≡ c.args.self.now = search rules in
    let len : c.len.result ≡ length drives = search rules in
    let within : a.drive < length drives = omega (arith, len, c.if-drive-len.false) in
    let is : slice_get drives a.drive ≡ Some k = found drives a.drive k within c.index_mut.ensures.value in
    let run = subst (λ (b : SectorAddress). LeavesOnly g.D.CrashableFile.moment g.D.CrashableFile.left_since k.device new.device (StandsFor (length k.records.items) (bytes_of k.records.items) (pending_in k.pending b bytes))) c.in_drive.ensures c.put.ensures.any_moment in
    subst (λ (l : List (FileRecords g.row.D.Denot)). WritesDrive g.D.CrashableFile.moment g.D.CrashableFile.left_since a bytes l (slice_set drives a.drive new)) same
    (writes_drive g.D.CrashableFile.moment g.D.CrashableFile.left_since drives a bytes k new is run)
