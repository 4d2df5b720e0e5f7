use Rattle.std.proofs.Common.{codes, sym, subst}
use Rattle.shell_language.specs.Texts.{Prints}
use Rattle.shell_language.proofs.Adding.{prints_text}
use Rattle.pair_shell.specs.Days.{lack_row}
use Rattle.pair_shell.proofs.running.print_lack.Goals as goal

pub returns-in_ok-line-clause-told : goal.returns-in_ok-line-clause-told
returns-in_ok-line-clause-told c = subst (λ b. Prints (lack_row b) c.args.printed.now c.line.new.self) (sym c.if-lacks.true)
    (prints_text (codes "  no backup acknowledges: it has stopped, or is not whole yet") c.args.printed.now c.line.new.self
    c.in_ok-line.ensures.shown)
