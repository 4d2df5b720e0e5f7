-- What the first answer tells, or the second one, is told of the world over the records.
use Rattle.std.proofs.Common.{refl}
use Rattle.altair_pair.proofs.Disks.{only_counts, told_of}
use Rattle.altair_pair.proofs.disk.sector_of.Goals as goal

pub returns-in-Err-DeviceFault-clause-ok : goal.returns-in-Err-DeviceFault-clause-ok
returns-in-Err-DeviceFault-clause-ok g c =
    told_of g.B.Lockstep.state g.B.Copies.copied g.B.Lockstep.machine c.args.world.now c.sector.new.self c.args.address
    c.sector-in-Err-DeviceFault.result
    (only_counts c.args.world.now c.sector.new.self c.sector.ensures.others c.sector.ensures.kept)
    c.sector-in-Err-DeviceFault.ensures.ok

pub returns-in_default-2-clause-ok : goal.returns-in_default-2-clause-ok
returns-in_default-2-clause-ok g c =
    told_of g.B.Lockstep.state g.B.Copies.copied g.B.Lockstep.machine c.args.world.now c.args.world.now c.args.address c.sector.result refl
    c.sector.ensures.ok
