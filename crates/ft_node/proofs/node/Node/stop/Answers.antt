-- It was not halted before.
use Rattle.ft_node.specs.AnyNode.{IsNode}
use Rattle.ft_node.proofs.Halting.{halting}
use Rattle.ft_node.proofs.node.Node.stop.Goals as goal

pub returns : goal.returns
returns g c = record {
  answer = λ C drives x is.
      let Is = IsNode g.B.Lockstep.state g.B.Lockstep.machine C drives c.halt.new.self in
      halting g.B.Lockstep.state g.B.Lockstep.machine C drives c.args.self.now x Is c.in_default.not-Halted is
      (c.halt.ensures.node C drives x is);
  pages = c.halt.ensures.pages;
  unchanged = tt;
}
