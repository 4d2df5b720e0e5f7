-- Every part of a new pair shows what a pair begins with, however its machine may be copied.
use Rattle.ft_world.proofs.Beginnings.{shows_beginning}
use Rattle.ft_world.proofs.pair.Pair.begin.Goals as goal

pub returns-clause-shows : goal.returns-clause-shows
returns-clause-shows g c = λ C may.
    shows_beginning g.B.Lockstep.state g.B.Copies.copied g.B.Lockstep.machine C c.args.reads g.D.SectorStore.records c.args.primary
    c.args.backup c.args.store c.new-5.result c.begin.result.items c.new.result.items c.new-2.result c.new-3.result
    c.new-4.result may c.begin.ensures c.new.ensures.items c.new-2.ensures.blank c.new-3.ensures.blank c.new-4.ensures
    c.new-5.ensures
