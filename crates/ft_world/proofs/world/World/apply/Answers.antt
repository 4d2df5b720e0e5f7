-- Some world is shown, from event to event.
use Rattle.ft_world.specs.Pairs.{running_of}
use Rattle.ft_world.proofs.Applying.{goes_on}
use Rattle.ft_world.proofs.Surviving.{survives}
use Rattle.ft_world.proofs.world.World.apply.Goals as goal

pub invariant_of-self : goal.invariant_of-self
invariant_of-self g c =
    goes_on g.B.Lockstep.state g.B.Copies.copied g.B.Lockstep.machine g.D.SectorStore.records (running_of c.self.inside.pair)
    (running_of c.apply.new.self) c.args.event c.apply.result c.self.invariant c.apply.ensures.row

pub returns-clause-survives : goal.returns-clause-survives
returns-clause-survives g c =
    rw (← c.self.view_is)
    (survives g.B.Lockstep.state g.B.Copies.copied g.B.Lockstep.machine g.D.SectorStore.records (running_of c.self.inside.pair)
    (running_of c.apply.new.self) c.args.event c.apply.result c.apply.ensures.row)
