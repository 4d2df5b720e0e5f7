use Rattle.std.proofs.Common.{◌≡◌}
use Rattle.disk_file.proofs.attaching.image_of.Given as goal

abbrev pub invariant-loop-place : goal.invariant-loop-place
invariant-loop-place l = l.boot ≡ l.initial.boot
