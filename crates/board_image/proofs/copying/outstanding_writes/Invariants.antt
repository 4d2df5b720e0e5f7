use Rattle.std.proofs.Common.{◌≡◌, map, take}
use Rattle.disk_dcdd.specs.Sector.{place_of}
use Rattle.guest_parts.specs.Parts.{HaveWrites}
use Rattle.board_image.proofs.copying.outstanding_writes.Given as goal

abbrev pub invariant-loop-place : goal.invariant-loop-place
invariant-loop-place g l = record {
  writes : HaveWrites l.board.guest.operations l.writes.items;
  places : map place_of l.writes.items ≡ take l.place-index l.places;
}
