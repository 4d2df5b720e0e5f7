-- One event more is printed; in the end all are.
use Rattle.std.proofs.Common.{◌≡◌, ◌-◌, arith, subst}
use Rattle.shell_picture.specs.Pictures.{PrintsEvents}
use Rattle.shell_picture.proofs.Rows.{events_then}
use Rattle.shell_picture.proofs.picture.print_events.Goals as goal

pub loop-event-preserved : goal.loop-event-preserved
loop-event-preserved c = record {
  within = omega (arith, c.loop-event.invariant.within);
  most = omega (arith, c.loop-event.invariant.within, c.loop-event-test.true);
  printed = events_then c.args.moments.now c.args.columns.now.places.items c.args.waits.now c.args.first c.loop-event.event
      c.args.printed.now c.loop-event.printed c.print_event.new.printed c.loop-event.invariant.within c.loop-event.invariant.printed
      c.in_ok-print_event.ensures;
}

pub returns : goal.returns
returns c =
    let same : c.loop-event.event - c.args.first ≡ c.args.end - c.args.first
    = omega (arith, c.loop-event.invariant.within, c.loop-event.invariant.most, c.loop-event-test.false) in
    subst (λ n. PrintsEvents c.args.moments.now c.args.columns.now.places.items c.args.waits.now c.args.first n c.args.printed.now
    c.loop-event.printed) same c.loop-event.invariant.printed
