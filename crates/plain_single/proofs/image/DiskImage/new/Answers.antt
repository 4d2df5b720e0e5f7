-- With each write, one write fewer is left.
use Rattle.std.proofs.Common.{◌+◌, List, drop, sym, ap, ◌∙◌}
use Rattle.std.proofs.lemmas.List.{at_drop_more, at_drop_all}
use Rattle.disk_dcdd.specs.declared.sector.SectorWrite.{SectorWrite}
use Rattle.disk_dcdd.specs.Address.{bytes_with_all}
use Rattle.plain_single.specs.Image.{sector_at}
use Rattle.plain_single.proofs.image.DiskImage.new.Goals as goal

pub loop-write-init : goal.loop-write-init
loop-write-init c = λ a is. ap (bytes_with_all c.args.writes.now a) (c.in_ok-image.ensures.ok a)

pub loop-write-preserved : goal.loop-write-preserved
loop-write-preserved c = λ a is.
    ap (bytes_with_all (drop (c.loop-write.write-index + 1) c.args.writes.now) a) (c.put.ensures a is)
    ∙ sym (at_drop_more (λ (ws : List SectorWrite). bytes_with_all ws a (sector_at c.loop-write.image.sectors.items a))
    c.args.writes.now c.loop-write.write-index _ c.loop-write-test.true)
    ∙ c.loop-write.invariant a is

pub returns-clause-ok : goal.returns-clause-ok
returns-clause-ok c = λ a is.
    sym (at_drop_all (λ (ws : List SectorWrite). bytes_with_all ws a (sector_at c.loop-write.image.sectors.items a))
    c.args.writes.now c.loop-write.write-index c.loop-write-test.false)
    ∙ c.loop-write.invariant a is
