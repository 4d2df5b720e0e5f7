-- Only places were added so far.
use Rattle.command_console.specs.Places.{AddsPlaces}
use Rattle.command_console.proofs.places.add_places.Given as goal

abbrev pub invariant-loop-place : goal.invariant-loop-place
invariant-loop-place g l = AddsPlaces l.fn.session l.session
