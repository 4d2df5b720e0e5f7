-- What waited after each event so far.
use Rattle.sequence_diagram.specs.Waits.{WaitsAfter, standing_of}
use Rattle.sequence_diagram.proofs.waits.Tally.note_all.Given as goal

abbrev pub invariant-loop-place : goal.invariant-loop-place
invariant-loop-place l = WaitsAfter l.moments l.place (standing_of l.self) l.waits.items
