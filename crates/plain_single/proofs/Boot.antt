-- A machine whose parts are those of a setup is at boot.
use Rattle.std.proofs.Common.{◌≡◌, ℕ, List, [], refl, sym, ap}
use Rattle.i8080_words.specs.Steps.{at_reset}
use Rattle.disk_dcdd.specs.declared.address.SectorAddress.{SectorAddress}
use Rattle.guest_board.specs.Guest.{altair, guest_at_boot}
use Rattle.guest_board.specs.declared.setup.Setup.{Setup}
use Rattle.plain_single.specs.SingleState.{SingleState}
use Rattle.plain_single.specs.Behind.{behind_at_boot}
use Rattle.plain_single.specs.Image.{IsSector, sector_at}
use Rattle.plain_single.specs.Reaching.{IsAtBoot, StandsAt}

pub at_boot : (setup : Setup) (sectors : SectorAddress → List ℕ) (a : SingleState)
    → a.processor ≡ at_reset → a.behind ≡ behind_at_boot setup → a.count ≡ 0 → a.levels ≡ setup.levels
    → ((address : SectorAddress) → IsSector address → sector_at a.disk address ≡ sectors address)
    → IsAtBoot (altair setup sectors) a
at_boot setup sectors a p b n l d = record {
  guest = rw (p, b, n, l) refl;
  first = ap (λ x. x.first.output) b;
  second = ap (λ x. x.second.output) b;
  writes = ap (λ x. x.writes) b;
  disk = d;
}

-- such a machine is at the end of the trace of no moves
pub at_first : (setup : Setup) (sectors : SectorAddress → List ℕ) (a : SingleState)
    → IsAtBoot (altair setup sectors) a → StandsAt (altair setup sectors) [] a
at_first setup sectors a x = record {
  moves = [];
  reach = record { last = guest_at_boot setup; runs = refl; owns = tt; list_is = refl; count_is = sym (ap (λ g. g.count) x.guest) };
  stands = x;
}
