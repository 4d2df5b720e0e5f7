-- The tracks so far are good, and the world is as it was.
use Rattle.std.proofs.Common.{◌≡◌}
use Rattle.disk_dcdd.specs.declared.sector.TheConstants.{SECTORS}
use Rattle.altair_pair.specs.Disks.{over_records}
use Rattle.altair_pair.specs.Sectors.{EachOf, IsGood, address_at}
use Rattle.altair_pair.proofs.checking.has_drive.Given as goal

abbrev pub invariant-loop-track : goal.invariant-loop-track
invariant-loop-track g l = record {
  same : over_records l.world ≡ over_records l.fn.world;
  good : EachOf l.track (λ track. EachOf SECTORS
      (λ sector. IsGood g.B.Lockstep.state g.B.Copies.copied g.B.Lockstep.machine (over_records l.fn.world) l.single l.inputs (address_at l.drive track sector)));
}
