use Rattle.std.proofs.Common.{arith}
use Rattle.recorder.proofs.Runs.{no_turns}
use Rattle.recorder.proofs.recorder.Recorder.advance.Goals as goal

pub returns-then-turns-eq0-clause-answer : goal.returns-then-turns-eq0-clause-answer
returns-then-turns-eq0-clause-answer g c =
    no_turns g.B.Lockstep.machine g.L.EntryLog.logging (g.B.Lockstep.state c.args.self.now.board) c.args.self.now.log c.args.turns
    (omega arith)
