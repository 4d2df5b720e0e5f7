-- One more track is good.
use Rattle.std.proofs.Common.{◌∙◌, subst}
use Rattle.disk_dcdd.specs.declared.sector.TheConstants.{SECTORS}
use Rattle.altair_pair.specs.Disks.{over_records}
use Rattle.altair_pair.specs.Sectors.{EachOf, IsGood, address_at}
use Rattle.altair_pair.proofs.Comparisons.{each_more}
use Rattle.altair_pair.proofs.checking.has_drive.Goals as goal

pub loop-track-preserved : goal.loop-track-preserved
loop-track-preserved g c = record {
  same = c.has_track.ensures.unchanged ∙ c.loop-track.invariant.same;
  good = each_more c.loop-track.track
      (λ track. EachOf SECTORS (λ sector. IsGood g.B.Lockstep.state g.B.Copies.copied g.B.Lockstep.machine (over_records c.args.world.now)
      c.args.single.now c.args.inputs.now (address_at c.args.drive track sector)))
      c.loop-track.invariant.good
      (subst (λ v. EachOf SECTORS (λ sector. IsGood g.B.Lockstep.state g.B.Copies.copied g.B.Lockstep.machine v c.args.single.now
      c.args.inputs.now (address_at c.args.drive c.loop-track.track sector)))
      c.loop-track.invariant.same (c.has_track.ensures.tells.yes c.if-not-has_track.false));
}
