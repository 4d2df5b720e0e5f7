-- The events of the lines so far were told.
use Rattle.std.specs.Prelude.{take}
use Rattle.ft_world.specs.Applies.{Shows}
use Rattle.ft_world.specs.Standing.{Course}
use Rattle.shared_disk.specs.Failing.{records_in}
use Rattle.command_script.specs.Telling.{HaveTold}
use Rattle.command_script.proofs.picture.tell_each.Given as goal

abbrev pub invariant-loop-line : goal.invariant-loop-line
invariant-loop-line g l = (c : Course g.B.Lockstep.State)
    → Shows g.B.Lockstep.state g.B.Copies.copied g.B.Lockstep.machine records_in l.fn.world c
    → HaveTold g.B.Lockstep.state g.B.Copies.copied g.B.Lockstep.machine c (take l.line-index l.fn.lines) l.moments.items l.fn.world l.world
