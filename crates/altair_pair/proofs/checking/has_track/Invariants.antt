-- The sectors so far are good, and the world is as it was.
use Rattle.std.proofs.Common.{◌≡◌}
use Rattle.altair_pair.specs.Disks.{over_records}
use Rattle.altair_pair.specs.Sectors.{EachOf, IsGood, address_at}
use Rattle.altair_pair.proofs.checking.has_track.Given as goal

abbrev pub invariant-loop-sector : goal.invariant-loop-sector
invariant-loop-sector g l = record {
  same : over_records l.world ≡ over_records l.fn.world;
  good : EachOf l.sector
      (λ sector. IsGood g.B.Lockstep.state g.B.Copies.copied g.B.Lockstep.machine (over_records l.fn.world) l.single l.inputs (address_at l.drive l.track sector));
}
