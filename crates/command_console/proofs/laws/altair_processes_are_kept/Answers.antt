-- The law of any lawful machine, for the Altair and its image.
use Rattle.altair_laws.specs.Copies.{image_copy}
use Rattle.guest_board.specs.Guest.{altair}
use Rattle.command_console.proofs.FleetEnding.{are_kept, copied_so}
use Rattle.command_console.proofs.laws.altair_processes_are_kept.Goals as goal

pub returns : goal.returns
returns g c guest setup sectors is first last booted way =
    are_kept guest (altair setup sectors) guest (image_copy setup.drives) setup.drives
    (c.altairs_are_lawful.ensures setup sectors) (c.the_image_copies.ensures setup sectors is).0
    (copied_so guest setup.drives) first last booted way
