-- There are this many places, and every one is zeros.
use Rattle.std.proofs.Common.{◌≡◌, vec_len}
use Rattle.plain_single.proofs.Zeros.{AreZeros}
use Rattle.plain_single.proofs.image.DiskImage.zeros.Given as goal

abbrev pub invariant-loop : goal.invariant-loop
invariant-loop l = record { count : vec_len l.sectors ≡ l.counter; zeros : AreZeros l.sectors.items }
