-- Without a line there is no answer.
use Rattle.std.proofs.Common.{◌≡◌, [], subst, sym, arith}
use Rattle.std.proofs.lemmas.Grind.{common_steps}
use Rattle.pair_shell.specs.Lines.{last_line}
use Rattle.pair_shell.specs.Running.{AnswersEach, desk}
use Rattle.pair_shell.proofs.Answering.{each_none}
use Rattle.pair_shell.proofs.Lines.{last_none}
use Rattle.pair_shell.proofs.shell.answer_last.Goals as goal

pub returns-then-is_empty-clause-heard : goal.returns-then-is_empty-clause-heard
returns-then-is_empty-clause-heard g c =
    let session = c.args.session.now in
    let here = desk session.opening session.world session.is_traced in
    let old = g.O.Write.contents c.args.writer.now in
    let none : last_line c.args.line.now ≡ [] = last_none c.args.line.now (grind (arith, common_steps)) in
    subst (λ lines. AnswersEach (λ d. d.board.guest) here lines old old here) (sym none) (each_none (λ d. d.board.guest) here old)
