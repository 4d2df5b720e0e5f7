use Rattle.std.proofs.Common.{◌≡◌, ◌+◌, ◌*◌, ◌++◌, length, All}
use Rattle.shared_disk.specs.declared.store.Record.{Record}
use Rattle.disk_file.specs.Kept.{AreWhole, bytes_of}
use Rattle.disk_file.proofs.session_opening.records_of.Given as goal

abbrev pub invariant-loop-rest : goal.invariant-loop-rest
invariant-loop-rest l = record {
  read : bytes_of l.records.items ++ l.rest ≡ l.image;
  whole : AreWhole l.records.items;
  unwritten : All (λ (r : Record). r.number ≡ 0) l.records.items;
  size : 137 * length l.records.items + length l.rest ≡ length l.image;
}

abbrev pub decreases-loop-rest : goal.decreases-loop-rest
decreases-loop-rest l = length l.rest
