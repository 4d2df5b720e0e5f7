-- The answers so far were written, and go on with that of the line.
use Rattle.pair_shell.specs.Hearing.{Writes}
use Rattle.pair_shell.specs.Running.{AnswersFurther, desk}
use Rattle.pair_shell.proofs.shell.go_on.Given as goal

abbrev pub invariant-pauses : goal.invariant-pauses
invariant-pauses g l = record {
  written : Writes (g.O.Write.contents l.fn.writer) (g.O.Write.contents l.writer);
  further : AnswersFurther (λ d. d.board.guest) l.line
      (desk l.fn.session.opening l.fn.session.world l.fn.session.is_traced) (g.O.Write.contents l.fn.writer)
      (g.O.Write.contents l.writer) (desk l.session.opening l.session.world l.session.is_traced);
}
