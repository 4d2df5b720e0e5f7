-- The line is that of the events that are kept.
use Rattle.std.proofs.Common.{◌++◌, codes, sym, subst}
use Rattle.std.specs.Fmt.{decimal}
use Rattle.shell_language.specs.Texts.{Prints}
use Rattle.shell_language.proofs.Adding.{prints_text}
use Rattle.pair_shell.specs.Hints.{full_row}
use Rattle.pair_shell.proofs.notes.print_full.Goals as goal

pub returns-in_ok-line : goal.returns-in_ok-line
returns-in_ok-line c = subst (λ b. Prints (full_row b) c.args.printed.now c.line.new.self) (sym c.if-is_full.true)
    (prints_text (codes "  the first " ++ (decimal 200000 ++ codes " events are kept for pictures; later ones are in none"))
    c.args.printed.now c.line.new.self c.in_ok-line.ensures.shown)
