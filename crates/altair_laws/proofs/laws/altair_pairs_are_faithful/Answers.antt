-- The laws of any lawful machine, for the Altair.
use Rattle.guest_board.specs.Guest.{altair}
use Rattle.pair_protocol.proofs.Promises.Growth.{row_grows}
use Rattle.pair_protocol.proofs.Promises.Runs.{always_faithful, run_reaches}
use Rattle.altair_laws.proofs.laws.altair_pairs_are_faithful.Goals as goal

pub returns-clause-faithful : goal.returns-clause-faithful
returns-clause-faithful c setup sectors C copies events replies w run =
    always_faithful (altair setup sectors) C (c.altairs_are_lawful.ensures setup sectors) copies w
    (run_reaches (altair setup sectors) C setup.reads events replies w run)

pub returns-clause-grows : goal.returns-clause-grows
returns-clause-grows c setup sectors C copies events replies w new e r run row =
    row_grows (altair setup sectors) C (c.altairs_are_lawful.ensures setup sectors) copies w new e r
    (run_reaches (altair setup sectors) C setup.reads events replies w run) row
