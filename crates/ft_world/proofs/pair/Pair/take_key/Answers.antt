-- No such key was typed, or it is offered to the node.
use Rattle.pair_events.specs.declared.event.Event.TheVariants as event
use Rattle.ft_world.specs.Pairs.{running_of}
use Rattle.ft_world.proofs.Applying.{hands_on}
use Rattle.ft_world.proofs.AtInputs.{key_offered, key_unknown}
use Rattle.ft_world.proofs.pair.Pair.take_key.Goals as goal

pub returns-in_err-byte-clause-row : goal.returns-in_err-byte-clause-row
returns-in_err-byte-clause-row g c = λ course h.
    hands_on c.from_residual.result c.in_err-byte.field-0.0 c.from_residual.ensures.1
    (key_unknown g.B.Lockstep.state g.B.Copies.copied g.B.Lockstep.machine g.D.SectorStore.records (running_of c.args.self.now) course
    c.args.node c.args.port c.args.index c.in_err-byte.field-0.0 h c.in_err-byte.ensures.answer)

pub returns-clause-row : goal.returns-clause-row
returns-clause-row g c = λ course h.
    c.take.ensures.row course (event.TakeKey c.args.node c.args.port c.args.index)
    (key_offered g.B.Lockstep.state g.B.Copies.copied g.B.Lockstep.machine g.D.SectorStore.records (running_of c.args.self.now) course
    c.args.node c.args.port c.args.index c.in_ok-byte.byte h c.in_ok-byte.ensures.answer) h
