-- The bytes are those of the events so far.
use Rattle.sequence_diagram.specs.Screens.{HasAccepted}
use Rattle.sequence_diagram.proofs.screens.accepted_in.Given as goal

abbrev pub invariant-loop-place : goal.invariant-loop-place
invariant-loop-place l = HasAccepted l.moments l.port l.place l.bytes.items
