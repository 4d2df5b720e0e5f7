-- What was met so far and what the events that are left will meet is all.
use Rattle.std.proofs.Common.{◌≡◌, None, length}
use Rattle.shell_language.specs.HeldUp.{met_by}
use Rattle.shell_language.proofs.held_up.meeting_of.Given as goal

abbrev pub invariant-events : goal.invariant-events
invariant-events l = met_by l.fault l.meeting l.rest ≡ met_by l.fault (record { times = 0; last = None }) l.initial.rest

abbrev pub decreases-events : goal.decreases-events
decreases-events l = length l.rest
