use Rattle.std.proofs.Common.{◌≡◌, true, take}
use Rattle.guest_parts.specs.Parts as table
use Rattle.guest_parts.proofs.parts.standing.go_to.Given as goal

abbrev pub invariant-loop-index : goal.invariant-loop-index
invariant-loop-index l = table.go_to (take l.index l.writes) (take l.index l.places) ≡ true
