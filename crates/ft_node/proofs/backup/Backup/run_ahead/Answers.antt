-- The replayer's steps are those of its node.
use Rattle.std.proofs.Common.{sym, ap, ◌∙◌}
use Rattle.std.specs.Prelude.{min}
use Rattle.ft_node.proofs.RunningAhead.{runs_ahead}
use Rattle.ft_node.proofs.backup.Backup.run_ahead.Goals as goal

pub returns : goal.returns
returns g c = λ x f.
    runs_ahead g.B.Lockstep.machine c.args.self.now.reads x (g.B.Lockstep.state c.args.self.now.replayer.board)
    c.args.self.now.replayer.fetched c.args.self.now.receiver f c.args.lead c.args.turns c.min-most.result
    (g.B.Lockstep.state c.run_ahead.new.self.board) c.run_ahead.new.self.fetched c.run_ahead.result
    (c.min-most.ensures ∙ ap (min c.args.turns) (sym (c.steps_ahead.ensures x f))) c.run_ahead.ensures.fetched
    c.run_ahead.ensures.runs
