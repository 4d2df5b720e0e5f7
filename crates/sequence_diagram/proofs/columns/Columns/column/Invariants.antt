-- The place is none of those so far, and is where it is among those that are left.
use Rattle.std.proofs.Common.{◌≡◌, ◌+◌, length}
use Rattle.sequence_diagram.specs.Places.{column_from, column_of}
use Rattle.sequence_diagram.proofs.columns.Columns.column.Given as goal

abbrev pub invariant-places : goal.invariant-places
invariant-places l = record {
  left : column_of l.self.places.items l.place ≡ column_from l.column l.rest l.place;
  counted : l.column + length l.rest ≡ length l.self.places.items;
}

abbrev pub decreases-places : goal.decreases-places
decreases-places l = length l.rest
