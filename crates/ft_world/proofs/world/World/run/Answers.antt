-- Some world is shown, even after a run.
use Rattle.ft_world.specs.Pairs.{running_of}
use Rattle.ft_world.proofs.Running.{runs_go_on}
use Rattle.ft_world.proofs.world.World.run.Goals as goal

pub invariant_of-self : goal.invariant_of-self
invariant_of-self g c =
    runs_go_on g.B.Lockstep.state g.B.Copies.copied g.B.Lockstep.machine g.D.SectorStore.records (running_of c.self.inside.pair)
    (running_of c.run.new.self) c.args.events.now (λ answers. answers.items) c.run.result c.self.invariant
    c.run.ensures.ok c.run.ensures.unchanged
