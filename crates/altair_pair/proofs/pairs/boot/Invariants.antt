-- This many hosts were added.
use Rattle.guest_board.specs.Guest.{guest_at_boot}
use Rattle.altair_laws.specs.Copies.{image_copy}
use Rattle.guest_board.specs.Inputs.{some_altair}
use Rattle.altair_pair.specs.Booting.{IsBooted}
use Rattle.altair_pair.proofs.pairs.boot.Given as goal

abbrev pub invariant-hosts : goal.invariant-hosts
invariant-hosts g l = IsBooted (λ d. d.board.guest) (λ d. d.board.guest) some_altair
    (image_copy l.setup.guest.drives) l.setup.guest.reads (guest_at_boot l.setup.guest)
    l.setup.guest.drives l.setup.failing_access l._number l.sectors l.world
