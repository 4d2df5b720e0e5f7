-- The keys come first in what is printed.
use Rattle.std.specs.Prelude.{string_bytes}
use Rattle.shell_language.specs.Tapes.{trace_text}
use Rattle.pair_shell.proofs.Tracing.{begins_on}
use Rattle.pair_shell.proofs.notes.Notes.type_text.Goals as goal

pub returns-clause-traced : goal.returns-clause-traced
returns-clause-traced g c =
    begins_on c.print_early.result (trace_text c.happen_all.new.self.tape.items) c.args.printed.now.is_traced
    (string_bytes c.args.printed.now.text) c.happen_all.new.printed c.print_early.new.printed
    c.in_ok-happen_all.ensures.traced c.print_early.ensures.some
