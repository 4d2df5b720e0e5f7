use Rattle.guest_board.specs.Guest.{altair}
use Rattle.pair_protocol.proofs.Promises.Joining.{joining_is_given}
use Rattle.pair_protocol.proofs.Promises.Runs.{run_reaches}
use Rattle.altair_laws.specs.Copies.{image_copy}
use Rattle.altair_laws.proofs.copies.joining_altairs_are_given.Goals as goal

pub returns : goal.returns
returns c setup sectors is events replies w run =
    let copies = c.the_image_copies.ensures setup sectors is in
    joining_is_given (altair setup sectors) (image_copy setup.drives) (c.altairs_are_lawful.ensures setup sectors) copies.0
    copies.1 w (run_reaches (altair setup sectors) (image_copy setup.drives) setup.reads events replies w run)
