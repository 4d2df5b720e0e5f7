use Rattle.guest_lockstep.specs.declared.reads.Reads.TheVariants.{Logged}
use Rattle.log_buffer.specs.Log.{kept}
use Rattle.recorder.specs.Recording.{advance_refusal}
use Rattle.crate_tests.proofs.LoggedRun.{advance_logs}
use Rattle.crate_tests.proofs.boards.advance.Goals as goal

pub returns-clause-records : goal.returns-clause-records
returns-clause-records g c =
    advance_logs g.B.Lockstep.machine Logged (g.B.Lockstep.state c.args.recorder.now.board)
    (g.B.Lockstep.state c.advance.new.self.board) c.args.recorder.now.log c.advance.new.self.log c.args.turns
    (advance_refusal g.B.Lockstep.machine kept (g.B.Lockstep.state c.args.recorder.now.board) c.args.recorder.now.log
    c.args.turns)
    c.advance.result c.in-Ok.advanced g.met.B.Lockstep.counts c.in-Ok.is c.advance.ensures.answer
