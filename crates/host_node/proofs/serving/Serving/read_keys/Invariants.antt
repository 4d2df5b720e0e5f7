use Rattle.host_node.specs.Goes.{Goes}
use Rattle.host_node.proofs.serving.Serving.read_keys.Given as goal

abbrev pub invariant-loop : goal.invariant-loop
invariant-loop g l = Goes g.B.Lockstep.state g.B.Lockstep.machine g.B.Copies.copied l.fn.self.host l.self.host
