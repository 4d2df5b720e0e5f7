-- Places are added, one sits, and the disks are saved.
use Rattle.std.proofs.Common.{refl, string_bytes}
use Rattle.command_console.proofs.Running.{has_run, open_later, opens_later}
use Rattle.disk_file.specs.Drives.{all_records}
use Rattle.command_console.proofs.console.run_input.Goals as goal

pub sit-requires-after_bounds : goal.sit-requires-after_bounds
sit-requires-after_bounds g c κs within = open_later c.in_ok-prepared.prepared.ends c.in_ok-prepared.prepared.session c.add_places.new.session c.in_ok-prepared.ensures.open
    c.add_places.ensures

pub returns : goal.returns
returns g c =
    has_run g.R.Read.remaining g.W.Write.contents g.N.Write.contents c.args.order.now c.args.opening.0 c.args.streams
    c.add_places.new.session (all_records c.in_ok-left.left.disk.store) c.in_ok-left.left.end c.in_ok-left.left.writer c.in_ok-left.left.notes
    (opens_later c.args.opening.0 c.in_ok-prepared.prepared.session c.add_places.new.session c.in_ok-prepared.ensures.opens
    c.add_places.ensures) c.in_ok-left.ensures (string_bytes c.args.order.now.mark) c.args.order.now.saved.items refl refl
    c.end_disks.new.writer c.in_ok-end_disks.ensures
