-- The answers so far were written one after another, and what the bytes that are left do, all of them do.
use Rattle.std.proofs.Common.{◌≡◌, length}
use Rattle.pair_shell.specs.Lines.{ends_in, heard_in, kept_in}
use Rattle.pair_shell.specs.Running.{desk}
use Rattle.pair_shell.specs.Hearing.{Writes}
use Rattle.pair_shell.proofs.Hearing.{HearsOn}
use Rattle.pair_shell.proofs.shell.take_block.Given as goal

abbrev pub invariant-bytes : goal.invariant-bytes
invariant-bytes g l = record {
  written : Writes (g.O.Write.contents l.fn.writer) (g.O.Write.contents l.writer);
  heard : HearsOn (λ d. d.board.guest) (desk l.fn.session.opening l.fn.session.world l.fn.session.is_traced)
      (desk l.session.opening l.session.world l.session.is_traced) (heard_in l.fn.line.items l.fn.block)
      (heard_in l.line.items l.rest) (g.O.Write.contents l.fn.writer) (g.O.Write.contents l.writer);
  ends : ends_in l.line.items l.rest ≡ ends_in l.fn.line.items l.fn.block;
  keeps : kept_in l.line.items l.rest ≡ kept_in l.fn.line.items l.fn.block;
}

abbrev pub decreases-bytes : goal.decreases-bytes
decreases-bytes g l = length l.rest
