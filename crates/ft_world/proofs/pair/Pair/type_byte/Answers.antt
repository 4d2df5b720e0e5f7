-- The terminal's row is the event's.
use Rattle.ft_world.specs.Pairs.{running_of}
use Rattle.ft_world.proofs.AtTerminals.{types_applies}
use Rattle.ft_world.proofs.pair.Pair.type_byte.Goals as goal

pub returns-clause-row : goal.returns-clause-row
returns-clause-row g c = λ course h.
    types_applies g.B.Lockstep.state g.B.Copies.copied g.B.Lockstep.machine g.D.SectorStore.records (running_of c.args.self.now) course
    c.args.port c.args.byte c.type_byte.result c.type_byte.new.terminals h c.type_byte.ensures
