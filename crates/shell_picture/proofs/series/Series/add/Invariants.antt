-- The events of the numbers so far are on the agenda.
use Rattle.std.proofs.Common.{◌≡◌, ◌-◌, ◌≤◌, ◌++◌}
use Rattle.shell_picture.specs.Series.{event_of, run_of}
use Rattle.shell_picture.proofs.series.Series.add.Given as goal

abbrev pub invariant-loop-number : goal.invariant-loop-number
invariant-loop-number l = record {
  events : l.agenda.items ≡ l.initial.agenda.items ++ run_of (event_of l.self l.book) l.first (l.number - l.first);
  within : l.number - l.first ≤ l.end - l.first;
}
