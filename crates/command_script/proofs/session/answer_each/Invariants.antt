-- Each line so far has its answer.
use Rattle.std.specs.Prelude.{take}
use Rattle.ft_world.specs.Applies.{Shows}
use Rattle.ft_world.specs.Standing.{Course}
use Rattle.shared_disk.specs.Failing.{records_in}
use Rattle.command_io.specs.Reports.{handed}
use Rattle.command_script.specs.Running.{HaveAnswers}
use Rattle.command_script.proofs.session.answer_each.Given as goal

abbrev pub invariant-loop-line : goal.invariant-loop-line
invariant-loop-line g l = (c : Course g.B.Lockstep.State)
    → Shows g.B.Lockstep.state g.B.Copies.copied g.B.Lockstep.machine records_in l.fn.world c
    → HaveAnswers g.B.Lockstep.state g.B.Copies.copied g.B.Lockstep.machine c (take l.line-index l.fn.lines) l.fn.world l.world
    (handed (g.O.Write.contents l.fn.writer) l.fn.report) (handed (g.O.Write.contents l.writer) l.report)
