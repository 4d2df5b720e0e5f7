use Rattle.guest_lockstep.specs.declared.reads.Reads.TheVariants.{Logged}
use Rattle.crate_tests.proofs.LoggedRun.{and_then, nothing}
use Rattle.crate_tests.proofs.boards.make_all.Goals as goal

pub loop-act-init : goal.loop-act-init
loop-act-init g c = record {
  reads = c.requires;
  records = nothing g.B.Lockstep.machine Logged (g.B.Lockstep.state c.args.recorder.now.board) c.args.recorder.now.log;
}

pub loop-act-preserved : goal.loop-act-preserved
loop-act-preserved g c = record {
  reads = c.make.ensures.reads;
  records = and_then g.met.B.Lockstep.counts c.loop-act.invariant.records c.make.ensures.records;
}
