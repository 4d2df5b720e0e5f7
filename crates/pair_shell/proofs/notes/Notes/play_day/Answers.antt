-- The events of the day come first in what is printed.
use Rattle.std.specs.Prelude.{string_bytes}
use Rattle.shell_language.specs.Tapes.{trace_text}
use Rattle.pair_shell.proofs.Tracing.{begins_on, begins_trace}
use Rattle.pair_shell.proofs.notes.Notes.play_day.Goals as goal

pub returns-clause-traced : goal.returns-clause-traced
returns-clause-traced g c =
    begins_on c.print_day.result (trace_text c.play.new.self.tape.items) c.args.printed.now.is_traced
    (string_bytes c.args.printed.now.text) c.play.new.printed c.print_day.new.printed
    (begins_trace c.args.printed.now.is_traced c.play.new.self.tape.items (string_bytes c.args.printed.now.text)
    (string_bytes c.play.new.printed.text) c.in_ok-play.ensures.traced) c.print_day.ensures.some
