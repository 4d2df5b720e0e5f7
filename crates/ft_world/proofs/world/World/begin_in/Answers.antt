-- What a pair begins with is shown, so it is faithful.
use Rattle.ft_world.specs.Beginning.{beginning}
use Rattle.ft_world.specs.Pairs.{running_of}
use Rattle.ft_world.proofs.Applying.{shown_is_faithful}
use Rattle.ft_world.proofs.world.World.begin_in.Goals as goal

pub returns-clause-faithful : goal.returns-clause-faithful
returns-clause-faithful g c = λ C may.
    shown_is_faithful g.B.Lockstep.state g.B.Copies.copied g.B.Lockstep.machine g.D.SectorStore.records (running_of c.begin.result)
    (beginning g.B.Lockstep.machine C c.args.reads (g.B.Lockstep.state c.args.primary) (g.D.SectorStore.records c.args.store))
    (c.begin.ensures.shows C may)

pub invariant_of-result : goal.invariant_of-result
invariant_of-result g c =
    let may = c.requires.may in
    record {
      course = beginning g.B.Lockstep.machine may.0 c.args.reads (g.B.Lockstep.state c.args.primary)
          (g.D.SectorStore.records c.args.store);
      shows = c.begin.ensures.shows may.0 may.1;
    }
