-- The events of the lines so far have happened.
use Rattle.std.specs.Prelude.{take}
use Rattle.ft_world.specs.Applies.{Shows}
use Rattle.ft_world.specs.Standing.{Course}
use Rattle.shared_disk.specs.Failing.{records_in}
use Rattle.command_script.specs.Running.{HaveHappened}
use Rattle.command_script.proofs.session.run_silently.Given as goal

abbrev pub invariant-loop-line : goal.invariant-loop-line
invariant-loop-line g l = (c : Course g.B.Lockstep.State)
    → Shows g.B.Lockstep.state g.B.Copies.copied g.B.Lockstep.machine records_in l.fn.world c
    → HaveHappened g.B.Lockstep.state g.B.Copies.copied g.B.Lockstep.machine c (take l.line-index l.fn.lines) l.fn.world l.world
