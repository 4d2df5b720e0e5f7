-- What is typed after this, and before that, is all that the lines type.
use Rattle.std.specs.Global.{Global}
use Rattle.std.specs.Prelude.{length}
use Rattle.command_console.specs.Hearing.{LinesType}
use Rattle.console_terminal.specs.declared.keyboard.Stroke.{Stroke}
use Rattle.rtrb.specs.declared.AnyItems.{AnyItems}
use Rattle.rtrb.specs.declared.producer.Producer.{Producer}
use Rattle.command_console.proofs.hearing.type_lines.Given as goal

abbrev pub invariant-lines : goal.invariant-lines
invariant-lines g l = (first second : Producer Stroke Global AnyItems) → LinesType l.rest l.first l.second first second →
    LinesType l.fn.lines l.fn.first l.fn.second first second

abbrev pub decreases-lines : goal.decreases-lines
decreases-lines g l = length l.rest
