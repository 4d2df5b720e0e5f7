-- The lines so far are printed.
use Rattle.std.proofs.Common.{take}
use Rattle.std.specs.List.{flat_map}
use Rattle.shell_language.specs.Texts.{Prints}
use Rattle.shell_picture.specs.Sectors.{dump_row, sector_places}
use Rattle.shell_picture.proofs.sector.print_bytes.Given as goal

abbrev pub invariant-loop-place : goal.invariant-loop-place
invariant-loop-place l = Prints (flat_map (dump_row l.bytes) (take l.place-index sector_places)) l.initial.printed l.printed
