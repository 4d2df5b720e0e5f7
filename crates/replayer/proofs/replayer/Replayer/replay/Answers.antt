-- Over the entries of a recorded run, which always fit, it is exactly that replay.
use Rattle.replayer.proofs.Runs.{exactly, stays_on_each, still_on_trace, below_last}
use Rattle.replayer.proofs.replayer.Replayer.replay.Goals as goal

pub returns-clause-exactly : goal.returns-clause-exactly
returns-clause-exactly g c = λ on.
    exactly g.B.Lockstep.machine (g.B.Lockstep.state c.args.self.now.board) (g.B.Lockstep.state c.run.new.board)
    c.args.receiver.now.entries c.run.new.receiver.entries c.args.self.now.fetched c.run.new.fetched c.args.turns
    c.run.result g.met.B.Lockstep.counts on c.run.ensures.answers

pub returns-clause-stays : goal.returns-clause-stays
returns-clause-stays g c =
    stays_on_each g.B.Lockstep.machine (g.B.Lockstep.state c.args.self.now.board) (g.B.Lockstep.state c.run.new.board)
    c.args.receiver.now.entries c.run.new.receiver.entries c.args.self.now.fetched c.run.new.fetched c.args.turns
    c.run.result g.met.B.Lockstep.counts c.run.ensures.answers

pub returns-clause-on_trace : goal.returns-clause-on_trace
returns-clause-on_trace g c = λ on.
    still_on_trace g.B.Lockstep.machine (g.B.Lockstep.state c.args.self.now.board)
    (g.B.Lockstep.state c.run.new.board) c.args.receiver.now.entries c.run.new.receiver.entries
    c.args.self.now.fetched c.run.new.fetched c.args.turns
    c.run.result g.met.B.Lockstep.counts c.run.ensures.answers on

pub returns-clause-below : goal.returns-clause-below
returns-clause-below g c = λ on.
    below_last g.B.Lockstep.machine (g.B.Lockstep.state c.args.self.now.board) (g.B.Lockstep.state c.run.new.board)
    c.args.receiver.now.entries c.run.new.receiver.entries c.args.self.now.fetched c.run.new.fetched c.args.turns
    c.run.result g.met.B.Lockstep.counts c.run.ensures.answers on
