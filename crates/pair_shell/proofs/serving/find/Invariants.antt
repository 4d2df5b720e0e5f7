-- None of the hosts so far has the role.
use Rattle.ft_world.specs.Applies.{Shows}
use Rattle.ft_world.specs.Standing.{Course}
use Rattle.pair_shell.specs.Serves.{HaveOtherRoles}
use Rattle.pair_shell.proofs.serving.find.Given as goal

abbrev pub invariant-loop-node : goal.invariant-loop-node
invariant-loop-node g l =
    (c : Course g.B.Lockstep.State)
    → Shows g.B.Lockstep.state g.B.Copies.copied g.B.Lockstep.machine g.D.SectorStore.records l.world c
    → HaveOtherRoles c.world l.node l.fn.generation l.fn.role
