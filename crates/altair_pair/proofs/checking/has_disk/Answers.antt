-- One more drive is good.
use Rattle.std.proofs.Common.{◌∙◌, subst}
use Rattle.disk_dcdd.specs.declared.drive.TheConstants.{TRACKS}
use Rattle.disk_dcdd.specs.declared.sector.TheConstants.{SECTORS}
use Rattle.altair_pair.specs.Disks.{over_records}
use Rattle.altair_pair.specs.Sectors.{EachOf, IsGood, address_at}
use Rattle.altair_pair.proofs.Comparisons.{each_more}
use Rattle.altair_pair.proofs.checking.has_disk.Goals as goal

pub loop-drive-preserved : goal.loop-drive-preserved
loop-drive-preserved g c = record {
  same = c.has_drive.ensures.unchanged ∙ c.loop-drive.invariant.same;
  good = each_more c.loop-drive.drive
      (λ drive. EachOf TRACKS (λ track. EachOf SECTORS (λ sector. IsGood g.B.Lockstep.state g.B.Copies.copied g.B.Lockstep.machine
      (over_records c.args.world.now) c.args.single.now c.args.inputs.now (address_at drive track sector))))
      c.loop-drive.invariant.good
      (subst (λ v. EachOf TRACKS (λ track. EachOf SECTORS (λ sector. IsGood g.B.Lockstep.state g.B.Copies.copied g.B.Lockstep.machine v
      c.args.single.now c.args.inputs.now (address_at c.loop-drive.drive track sector))))
      c.loop-drive.invariant.same (c.has_drive.ensures.tells.yes c.if-not-has_drive.false));
}
