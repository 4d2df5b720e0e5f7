-- The line names the next event, if there is one.
use Rattle.std.proofs.Common.{◌++◌, ap, codes}
use Rattle.shell_language.specs.Spelling as spelling
use Rattle.pair_shell.proofs.RestLines.{tells_text}
use Rattle.pair_shell.specs.Waits.{next_rows}
use Rattle.pair_shell.proofs.why.print_next.Goals as goal

pub returns-in_ok-line-in-Some : goal.returns-in_ok-line-in-Some
returns-in_ok-line-in-Some c =
    tells_text (next_rows c.args.event) (codes "  next: `" ++ (spelling.event_text c.in-Some.event ++ codes "`"))
    c.args.printed.now c.line.new.self (ap next_rows c.in-Some.is) c.in_ok-line-in-Some.ensures.shown

pub returns-in_ok-line-in-None : goal.returns-in_ok-line-in-None
returns-in_ok-line-in-None c =
    tells_text (next_rows c.args.event) (codes "  nothing is outstanding") c.args.printed.now c.line-in-None.new.self
    (ap next_rows c.in-None.is) c.in_ok-line-in-None.ensures.shown
