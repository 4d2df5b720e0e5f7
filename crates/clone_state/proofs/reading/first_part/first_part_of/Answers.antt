-- A part that is read for this many drives is one of a board.
use Rattle.std.proofs.Common.{arith, sym, ◌∙◌}
use Rattle.clone_state.specs.Reading.{first_of}
use Rattle.clone_state.proofs.First.{is_of_board}
use Rattle.clone_state.proofs.reading.first_part.first_part_of.Goals as goal

pub returns-clause-board : goal.returns-clause-board
returns-clause-board c =
    is_of_board c.args.drives c.args.payload.now (first_of c.in-Some.part) (λ i. omega (arith, c.type_inv.payload i))
    c.in-Some.ensures (sym c.attached.ensures ∙ c.if-attached-drives.false)
