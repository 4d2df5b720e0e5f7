use Rattle.std.proofs.Common.{◌≡◌}
use Rattle.disk_file.proofs.attaching.open_drives.Given as goal

abbrev pub invariant-loop-drive : goal.invariant-loop-drive
invariant-loop-drive l = l.boot ≡ l.initial.boot
