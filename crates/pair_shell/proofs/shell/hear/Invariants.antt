-- The answers so far were written one after another, to the lines of what was read.
use Rattle.pair_shell.specs.Running.{desk}
use Rattle.pair_shell.specs.Hearing.{Writes}
use Rattle.pair_shell.proofs.Hearing.{HasRead}
use Rattle.pair_shell.proofs.shell.hear.Given as goal

abbrev pub invariant-blocks-2 : goal.invariant-blocks-2
invariant-blocks-2 g l = record {
  written : Writes (g.O.Write.contents l.fn.writer) (g.O.Write.contents l.writer);
  heard : HasRead (λ d. d.board.guest) (desk l.fn.session.opening l.fn.session.world l.fn.session.is_traced)
      (desk l.session.opening l.session.world l.session.is_traced) (g.R.Read.remaining l.fn.reader)
      (g.R.Read.remaining l.reader) l.line.items (g.O.Write.contents l.fn.writer) (g.O.Write.contents l.writer);
}
