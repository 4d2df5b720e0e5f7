-- The terminal has not accepted such a byte, or its acceptance is offered to the node.
use Rattle.pair_events.specs.declared.event.Event.TheVariants as event
use Rattle.ft_world.specs.Pairs.{running_of}
use Rattle.ft_world.proofs.Applying.{hands_on}
use Rattle.ft_world.proofs.AtInputs.{sent_offered, sent_unknown}
use Rattle.ft_world.proofs.pair.Pair.tell_sent.Goals as goal

pub returns-in_err-check_accepted-clause-row : goal.returns-in_err-check_accepted-clause-row
returns-in_err-check_accepted-clause-row g c = λ course h.
    hands_on c.from_residual.result c.in_err-check_accepted.field-0.0 c.from_residual.ensures.1
    (sent_unknown g.B.Lockstep.state g.B.Copies.copied g.B.Lockstep.machine g.D.SectorStore.records (running_of c.args.self.now) course
    c.args.node c.args.port c.args.number c.in_err-check_accepted.field-0.0 h c.in_err-check_accepted.ensures.answer)

pub returns-clause-row : goal.returns-clause-row
returns-clause-row g c = λ course h.
    c.take.ensures.row course (event.TellSent c.args.node c.args.port c.args.number)
    (sent_offered g.B.Lockstep.state g.B.Copies.copied g.B.Lockstep.machine g.D.SectorStore.records (running_of c.args.self.now) course
    c.args.node c.args.port c.args.number h c.in_ok-check_accepted.ensures.answer) h
