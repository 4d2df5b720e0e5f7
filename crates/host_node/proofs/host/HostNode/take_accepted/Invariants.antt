use Rattle.host_frames.specs.Frames.{Transfers}
use Rattle.host_frames.specs.declared.frame.Transfer.TheVariants.{Accepted}
use Rattle.host_node.specs.Goes.{Goes}
use Rattle.host_node.specs.Mail.{IsFrom}
use Rattle.host_node.proofs.host.HostNode.take_accepted.Given as goal

abbrev pub invariant-loop : goal.invariant-loop
invariant-loop g l =
    Goes g.B.Lockstep.state g.B.Lockstep.machine g.B.Copies.copied l.fn.self l.self
    × IsFrom l.self.mail.came (Transfers (Accepted l.port l.count))
