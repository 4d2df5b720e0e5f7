-- The laws of any lawful machine, for the Altair and its image.
use Rattle.altair_laws.specs.Copies.{image_copy}
use Rattle.guest_board.specs.Guest.{altair}
use Rattle.host_law.proofs.Interleaving.{runs-faithful, runs-kept}
use Rattle.altair_laws.proofs.hosts.altair_hosts_are_faithful.Goals as goal

pub returns-clause-faithful : goal.returns-clause-faithful
returns-clause-faithful c setup sectors is spares deeds last happened =
    runs-faithful (altair setup sectors) (image_copy setup.drives) (c.altairs_are_lawful.ensures setup sectors)
    (c.the_image_copies.ensures setup sectors is).0 setup.reads spares deeds last happened

pub returns-clause-kept : goal.returns-clause-kept
returns-clause-kept c setup sectors is spares deeds last happened =
    runs-kept (altair setup sectors) (image_copy setup.drives) (c.altairs_are_lawful.ensures setup sectors)
    (c.the_image_copies.ensures setup sectors is).0 setup.reads spares deeds last happened
