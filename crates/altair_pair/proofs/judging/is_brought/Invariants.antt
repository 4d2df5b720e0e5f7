-- None of the writes so far brings these bytes.
use Rattle.std.proofs.Common.{ℕ, ◌<◌}
use Rattle.std.specs.Prelude.{slice_index_or}
use Rattle.disk_dcdd.specs.declared.sector.SectorWrite.{SectorWrite}
use Rattle.altair_pair.specs.Comparing.{Brings}
use Rattle.altair_pair.proofs.judging.is_brought.Given as goal

abbrev pub invariant-loop-write : goal.invariant-loop-write
invariant-loop-write l = (k : ℕ) (d : SectorWrite) → k < l.write-index
    → Brings l.inputs l.address l.bytes (slice_index_or l.writes k d) → ⊥
