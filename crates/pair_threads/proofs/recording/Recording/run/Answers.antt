-- A guest that is refused a step is out of memory, or refuses it itself.
use Rattle.pair_threads.proofs.Leading.{refused_there}
use Rattle.pair_threads.proofs.recording.Recording.run.Goals as goal

pub returns-in-Refused-clause-refused : goal.returns-in-Refused-clause-refused
returns-in-Refused-clause-refused g c =
    refused_there g.B.Lockstep.machine (g.B.Lockstep.state c.args.self.now.board) (g.B.Lockstep.state c.run-steps.new.guest)
    c.args.steps c.run-steps.result c.in-Refused.fault c.run-steps.ensures.runs c.in-Refused.is
