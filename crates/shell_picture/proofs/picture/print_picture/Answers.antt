-- The lines of the events come after the names of the columns.
use Rattle.std.proofs.Common.{rules}
use Rattle.std.proofs.lemmas.Result.{IfOk-weaker}
use Rattle.shell_picture.proofs.Rows.{draws_picture}
use Rattle.shell_picture.proofs.picture.print_picture.Goals as goal

pub returns : goal.returns
returns c =
    IfOk-weaker c.print_events.result _ _ (λ done events. draws_picture c.args.past.now c.in_ok-columns.columns.places.items
    c.in_ok-waits.waits.items c.deref.result.now c.args.stretch c.first_shown-first.result c.end_shown-end.result c.args.printed.now
    c.line.new.self c.print_events.new.printed c.in_ok-columns.ensures c.in_ok-waits.ensures (search rules)
    c.first_shown-first.ensures c.end_shown-end.ensures c.in_ok-line.ensures.shown events) c.print_events.ensures
