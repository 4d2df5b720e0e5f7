-- Some world is shown, even after a sector was looked at.
use Rattle.ft_world.specs.Pairs.{running_of}
use Rattle.ft_world.proofs.DiskReads.{same_shown}
use Rattle.ft_world.proofs.world.World.sector.Goals as goal

pub invariant_of-self : goal.invariant_of-self
invariant_of-self g c =
    same_shown g.B.Lockstep.state g.B.Copies.copied g.B.Lockstep.machine g.D.SectorStore.records (running_of c.self.inside.pair)
    (running_of c.sector.new.self) c.self.invariant c.sector.ensures.kept c.sector.ensures.others
