-- What holds of every board holds of this one, so its parts pass each test, and a board made from them has what this
-- one has.
use Rattle.std.proofs.Common.{◌≡◌, true, subst}
use Rattle.guest_parts.specs.Board.{OnBoard, IsBoard}
use Rattle.guest_parts.specs.Parts as Parts
use Rattle.guest_parts.proofs.Shown.{shown_stands, shown_is_rebuilt}
use Rattle.guest_board.proofs.board.Board.can_be_rebuilt.Goals as goal

pub returns : goal.returns
returns g c =
    let board = subst (λ (b : OnBoard). IsBoard b.guest b.versions) c.self.view_is c.self.invariant.board in
    let stands : Parts.stands c.args.parts.now ≡ true =
    shown_stands c.args.self.now.guest c.args.parts.now c.args.self.now.versions board c.requires in
    record {
      stands = stands;
      guest = shown_is_rebuilt c.args.self.now.guest c.args.parts.now c.args.self.now.versions c.has_window.ensures
          c.has_window-2.ensures board c.requires (c.stand_as_boards_do.ensures.0 stands).0;
    }
