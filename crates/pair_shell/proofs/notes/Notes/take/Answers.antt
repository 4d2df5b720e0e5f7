-- An event that was answered was traced, if events are.
use Rattle.std.specs.Prelude.{string_bytes}
use Rattle.pair_shell.proofs.Tracing.{traces_answer}
use Rattle.pair_shell.proofs.notes.Notes.take.Goals as goal

pub returns-in-Event-clause-traced : goal.returns-in-Event-clause-traced
returns-in-Event-clause-traced g c =
    traces_answer c.happen.result c.in-Event.event c.happen.new.self.tape.items c.args.printed.now.is_traced
    (string_bytes c.args.printed.now.text) (string_bytes c.happen.new.printed.text) c.happen.ensures.answered
