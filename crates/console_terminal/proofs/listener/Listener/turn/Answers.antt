-- At the end of the source, or if it fails, no byte came.
use Rattle.std.proofs.Common.{[], Some, refl, subst, sym}
use Rattle.std.specs.Io.KnownBytes.{Consumes, IsAtEnd}
use Rattle.console_terminal.proofs.Hearing.{grows_none, of_none}
use Rattle.console_terminal.specs.Commands.{Grows}
use Rattle.console_terminal.specs.declared.listener.Ending.{Ending}
use Rattle.console_terminal.proofs.listener.Listener.turn.Goals as goal

pub returns-in-End-clause-heard : goal.returns-in-End-clause-heard
returns-in-End-clause-heard g c =
    let left = g.S.KeySource.left in
    let given = g.I.Interpreter.given in
    let a = c.args.self.now in
    let e = c.end.ensures in
    of_none left given (Some Ending.EndOfInput) a c.end.new.self refl
    (subst (λ s. Consumes (left a.source) (left s) []) (sym e.source) c.in-End.ensures.heard) e.escape e.place e.first e.second
    (subst (λ i. Grows (given a.interpreter) (given i) []) (sym e.interpreter) (grows_none (given a.interpreter))) e.notes
    (subst (λ s. IsAtEnd (left s)) (sym e.source) (c.hear.ensures.ended c.in-End.is)) e.rings.0 e.rings.1 e.rings.2

pub returns-in-Failed-clause-heard : goal.returns-in-Failed-clause-heard
returns-in-Failed-clause-heard g c =
    let left = g.S.KeySource.left in
    let given = g.I.Interpreter.given in
    let a = c.args.self.now in
    let e = c.end-in-Failed.ensures in
    of_none left given (Some Ending.Failed) a c.end-in-Failed.new.self refl
    (subst (λ s. Consumes (left a.source) (left s) []) (sym e.source) c.in-Failed.ensures.heard) e.escape e.place e.first e.second
    (subst (λ i. Grows (given a.interpreter) (given i) []) (sym e.interpreter) (grows_none (given a.interpreter))) e.notes
    tt e.rings.0 e.rings.1 e.rings.2
