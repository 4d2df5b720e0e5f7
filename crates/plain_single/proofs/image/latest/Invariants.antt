-- None of the writes left out has the number.
use Rattle.std.proofs.Common.{◌≡◌, ℕ, List, length, reverse}
use Rattle.disk_dcdd.specs.declared.address.SectorAddress.{SectorAddress}
use Rattle.guest_lockstep.specs.Reach.{bytes_after}
use Rattle.plain_single.proofs.image.latest.Given as goal

abbrev pub invariant-loop-write : goal.invariant-loop-write
invariant-loop-write l =
    (a : SectorAddress) (bytes : List ℕ)
    → bytes_after (reverse l.rest) l.number a bytes ≡ bytes_after (reverse l.fn.writes) l.number a bytes

abbrev pub decreases-loop-write : goal.decreases-loop-write
decreases-loop-write l = length l.rest
