-- There are at least two hosts, so the loop ends with as many as the setup says.
use Rattle.std.proofs.Common.{◌≡◌, ap, arith, subst}
use Rattle.guest_board.specs.Guest.{guest_at_boot}
use Rattle.altair_laws.specs.Copies.{image_copy}
use Rattle.guest_board.specs.Inputs.{some_altair}
use Rattle.altair_pair.specs.Booting.{IsBooted}
use Rattle.altair_pair.proofs.Booting.{booted_host}
use Rattle.altair_pair.proofs.pairs.boot.Goals as goal

pub hosts-init : goal.hosts-init
hosts-init g c = c.in_ok-world.ensures.booted

pub hosts-preserved : goal.hosts-preserved
hosts-preserved g c =
    let setup = c.args.setup.now in
    booted_host (λ d. d.board.guest) (λ d. d.board.guest) some_altair (image_copy setup.guest.drives) setup.guest.reads
    (guest_at_boot setup.guest) setup.guest.drives setup.failing_access c.args.sectors.now c.hosts._number c.hosts.world
    c.host.new.self c.hosts.invariant c.in_default.ensures.ok (ap (λ v. v.disk) c.in_default.ensures.others)

pub returns-clause-booted : goal.returns-clause-booted
returns-clause-booted g c =
    let hosts : c.hosts._number ≡ c.args.setup.now.hosts =
    omega (arith, c.hosts.auto._number-end c.args.setup.now.pair, c.hosts-test.false) in
    subst
    (λ n. IsBooted (λ d. d.board.guest) (λ d. d.board.guest) some_altair (image_copy c.args.setup.now.guest.drives)
    c.args.setup.now.guest.reads (guest_at_boot c.args.setup.now.guest) c.args.setup.now.guest.drives
    c.args.setup.now.failing_access n c.args.sectors.now c.hosts.world)
    hosts c.hosts.invariant
