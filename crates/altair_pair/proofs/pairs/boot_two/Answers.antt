-- The pair begins over the store of its disk.
use Rattle.std.proofs.Common.{◌∙◌, ap, subst, sym}
use Rattle.guest_board.specs.Guest.{guest_at_boot}
use Rattle.altair_laws.specs.Copies.{image_copy}
use Rattle.guest_board.specs.Inputs.{some_altair}
use Rattle.shared_disk.specs.Records.{HasDrives, IsAtBoot, IsUnwritten}
use Rattle.shared_disk.specs.Failing.{Disk}
use Rattle.altair_pair.proofs.Booting.{booted_pair}
use Rattle.altair_pair.proofs.pairs.boot_two.Goals as goal

pub returns-in-Ok-clause-booted : goal.returns-in-Ok-clause-booted
returns-in-Ok-clause-booted g c =
    let drives = c.args.setup.now.guest.drives in
    let sectors = c.args.sectors.now in
    let same = sym (ap (λ (disk : Disk). disk.store) c.new-disk.ensures) in
    booted_pair (λ d. d.board.guest) (λ d. d.board.guest) some_altair (image_copy drives)
    c.args.setup.now.guest.reads (guest_at_boot c.args.setup.now.guest) drives
    c.args.setup.now.failing_access sectors
    c.new-disk.result.store c.in-Ok.world
    (subst (λ store. HasDrives store drives) same c.in_ok-records.ensures.drives)
    (subst (λ store. IsUnwritten store) same c.in_ok-records.ensures.unwritten)
    (subst (λ store. IsAtBoot store drives sectors) same c.in_ok-records.ensures.sectors)
    (ap (λ (disk : Disk). disk.left) c.in-Ok.ensures.disk ∙ ap (λ (disk : Disk). disk.left) c.new-disk.ensures)
    c.in-Ok.ensures.ok
