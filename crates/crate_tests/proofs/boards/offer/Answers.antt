use Rattle.std.proofs.Common.{subst}
use Rattle.crate_tests.proofs.LoggedRun.{Logged, offer_logs}
use Rattle.crate_tests.proofs.boards.offer.Goals as goal

pub returns-clause-records : goal.returns-clause-records
returns-clause-records g c =
    subst (λ reads. Logged g.B.Lockstep.machine reads (g.B.Lockstep.state c.args.recorder.now.board)
    c.args.recorder.now.log (g.B.Lockstep.state c.offer.new.self.board) c.offer.new.self.log) c.requires.reads
    (offer_logs g.B.Lockstep.machine c.args.recorder.now.reads (g.B.Lockstep.state c.args.recorder.now.board)
    (g.B.Lockstep.state c.offer.new.self.board) c.args.recorder.now.log c.offer.new.self.log c.args.input c.offer.result
    c.in-Ok.logged c.in-Ok.is c.offer.ensures.after)
