-- With the lines of the events that are left, those so far are the lines of all; each line has an event.
use Rattle.std.proofs.Common.{◌≡◌, ◌≤◌, ◌+◌, length}
use Rattle.sequence_diagram.proofs.Sharing.{Drawn}
use Rattle.sequence_diagram.proofs.lines.lines_of.Given as goal

abbrev pub invariant-lines : goal.invariant-lines
invariant-lines l = record {
  drawn : Drawn l.moments l.of.items l.count l.rest;
  counted : length l.of.items + length l.rest ≡ length l.moments;
  few : l.count ≤ length l.of.items;
}

abbrev pub decreases-lines : goal.decreases-lines
decreases-lines l = length l.rest
