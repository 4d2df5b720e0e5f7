-- The tests are what a board needs, given that each array has as many elements as its type says.
use Rattle.std.proofs.Common.{arith}
use Rattle.guest_parts.proofs.Standing.{board-parts, standing_writes}
use Rattle.guest_parts.proofs.Shown.{parts_pass}
use Rattle.guest_parts.specs.Parts.{operations_of}
use Rattle.guest_memory.specs.Pages.{zeros}
use Rattle.guest_memory.specs.declared.memory.TheConstants.{PAGES}
use Rattle.guest_parts.proofs.parts.BoardParts.stand_as_boards_do.Goals as goal

pub returns : goal.returns
returns c =
    let p = c.args.self.now in (
      λ e. (
        board-parts p c.has_all.ensures c.has_all-2.ensures c.has_all-3.ensures c.has_window.ensures
            c.has_window-2.ensures (omega arith) c.stands.ensures e,
        standing_writes p e,
      ),
      λ h. parts_pass p (operations_of p) (zeros PAGES) h.0 h.1,
    )
