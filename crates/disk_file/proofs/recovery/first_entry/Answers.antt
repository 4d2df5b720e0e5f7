use Rattle.std.proofs.Common.{rules, arith, ◌≡◌, ◌≤◌, length, drop, ◌∙◌, ap, slice_index_or}
use Rattle.std.proofs.lemmas.List.{length-take-le}
use Rattle.disk_file.proofs.Reading.{behind, entry_read, behind_shorter, behind_block}
use Rattle.disk_file.proofs.recovery.first_entry.Goals as goal

pub returns-clause-entry : goal.returns-clause-entry
returns-clause-entry c =
    let long : 3 ≤ length c.args.journal.now = search rules in
    let first : slice_index_or c.args.journal.now 0 0 ≡ 1 = search rules in
    entry_read c.args.sectors c.args.journal.now long first (omega (arith, c.if-after-lt-SECTOR_BYTES.false)) (omega (arith, c.if-place-sectors.false))

pub returns-clause-fits : goal.returns-clause-fits
returns-clause-fits c =
    let long : 3 ≤ length c.args.journal.now = search rules in
    let enough : 137 ≤ length (behind 3 c.args.journal.now) = omega (arith, c.if-after-lt-SECTOR_BYTES.false) in
    (omega (arith, c.if-place-sectors.false), length-take-le 137 (behind 3 c.args.journal.now) enough, behind_shorter c.args.journal.now long enough)

pub returns-clause-after : goal.returns-clause-after
returns-clause-after c = behind_block c.args.journal.now
