-- The line is that of the port.
use Rattle.std.proofs.Common.{◌++◌, codes, sym, subst}
use Rattle.std.specs.Fmt.{decimal}
use Rattle.shell_language.specs.Texts.{Prints}
use Rattle.shell_language.proofs.Adding.{prints_text}
use Rattle.pair_shell.specs.Hints.{early_row}
use Rattle.pair_shell.proofs.notes.print_early.Goals as goal

pub returns-in_ok-line-clause-told : goal.returns-in_ok-line-clause-told
returns-in_ok-line-clause-told c = subst (λ b. Prints (early_row b c.args.port) c.args.printed.now c.line.new.self) (sym c.if-is_early.true)
    (prints_text (codes "  the guest has not run yet: keys that it takes before it resets port " ++ (decimal c.args.port
    ++ codes " are lost")) c.args.printed.now c.line.new.self c.in_ok-line.ensures.shown)
