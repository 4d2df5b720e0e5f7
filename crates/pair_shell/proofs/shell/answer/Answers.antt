-- The answer to the line goes on with that of its day.
use Rattle.pair_shell.specs.Running.{desk}
use Rattle.pair_shell.proofs.Hearing.{answers_until, writes_more}
use Rattle.pair_shell.proofs.shell.answer.Goals as goal

pub returns-in_err-go_on-clause-written : goal.returns-in_err-go_on-clause-written
returns-in_err-go_on-clause-written g c =
    let r = c.from_residual-in_err-go_on in
    answers_until r.result c.in_err-go_on.field-0.0 (g.O.Write.contents c.args.writer.now) (g.O.Write.contents c.begin.new.writer)
    (g.O.Write.contents c.go_on.new.writer) r.ensures.1 c.in_ok-outcome.ensures.written c.in_err-go_on.ensures.written

pub returns-clause-written : goal.returns-clause-written
returns-clause-written g c =
    writes_more (g.O.Write.contents c.args.writer.now) (g.O.Write.contents c.begin.new.writer) (g.O.Write.contents c.go_on.new.writer)
    c.in_ok-outcome.ensures.written c.in_ok-go_on.ensures.written

pub returns-clause-heard : goal.returns-clause-heard
returns-clause-heard g c =
    let old = c.args.session.now in
    c.in_ok-go_on.ensures.further (desk old.opening old.world old.is_traced) (g.O.Write.contents c.args.writer.now)
    c.in_ok-outcome.ensures.heard
