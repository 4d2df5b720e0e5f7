-- The events so far are printed.
use Rattle.std.proofs.Common.{◌-◌, ◌≤◌}
use Rattle.shell_picture.specs.Pictures.{PrintsEvents}
use Rattle.shell_picture.proofs.picture.print_events.Given as goal

abbrev pub invariant-loop-event : goal.invariant-loop-event
invariant-loop-event l = record {
  within : l.first ≤ l.event;
  most : l.event - l.first ≤ l.end - l.first;
  printed : PrintsEvents l.moments l.columns.places.items l.waits l.first (l.event - l.first) l.initial.printed l.printed;
}
