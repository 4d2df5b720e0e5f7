-- What was done so far is logged.
use Rattle.std.proofs.Common.{◌≡◌}
use Rattle.guest_lockstep.specs.declared.reads.Reads.TheVariants.{Logged}
use Rattle.crate_tests.proofs.LoggedRun as run
use Rattle.crate_tests.proofs.boards.make_all.Given as goal

abbrev pub invariant-loop-act : goal.invariant-loop-act
invariant-loop-act g l = record {
  reads : l.recorder.reads ≡ Logged;
  records : run.Logged g.B.Lockstep.machine Logged (g.B.Lockstep.state l.fn.recorder.board) l.fn.recorder.log
      (g.B.Lockstep.state l.recorder.board) l.recorder.log;
}
