-- What agrees with the records at boot is what these are.
use Rattle.std.proofs.Common.{rules, ◌≡◌, true, List, refl, sym, subst}
use Rattle.shared_disk.specs.Records.{IsAtBoot, IsUnwritten}
use Rattle.shared_disk.specs.declared.store.Record.{Record}
use Rattle.disk_file.specs.Drives.{all_records}
use Rattle.command_console.proofs.store.checked.Goals as goal

pub returns-clause-at_boot : goal.returns-clause-at_boot
returns-clause-at_boot c =
    let yes : c.is_like.result ≡ true = search rules in
    subst (λ (l : List Record). IsAtBoot l c.args.input.now.script.setup.guest.drives c.args.input.now.sectors.items)
    (sym c.is_like.ensures.unchanged) (c.is_like.ensures.like yes c.args.input.now.sectors.items c.requires.at_boot).boots

pub returns-clause-unwritten : goal.returns-clause-unwritten
returns-clause-unwritten c =
    let yes : c.is_like.result ≡ true = search rules in
    subst IsUnwritten
    (sym c.is_like.ensures.unchanged) (c.is_like.ensures.like yes c.args.input.now.sectors.items c.requires.at_boot).unwritten
