-- Some world is shown, even after a host is added.
use Rattle.ft_world.specs.Pairs.{running_of}
use Rattle.ft_world.proofs.Hosting.{hosts_go_on}
use Rattle.ft_world.proofs.world.World.host.Goals as goal

pub invariant_of-self : goal.invariant_of-self
invariant_of-self g c =
    hosts_go_on g.B.Lockstep.state g.B.Copies.copied g.B.Lockstep.machine g.D.SectorStore.records (running_of c.self.inside.pair)
    (running_of c.host.new.self) c.host.result c.self.invariant c.host.ensures.ok c.host.ensures.unchanged
