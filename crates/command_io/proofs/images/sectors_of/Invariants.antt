-- The sectors at the places so far.
use Rattle.std.proofs.Common.{◌≡◌, map}
use Rattle.std.specs.List.{range_with_len}
use Rattle.command_io.specs.Images.{sector_at}
use Rattle.command_io.proofs.images.sectors_of.Given as goal

abbrev pub invariant-loop-place : goal.invariant-loop-place
invariant-loop-place l = l.sectors.items ≡ map (sector_at l.drives l.images) (range_with_len 0 l.place)
