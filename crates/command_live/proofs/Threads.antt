-- The Altair of every setup is a machine that the threads may run: only a sector of the selected drive is ready, and where it
-- boots and what its sectors hold does not matter to how it counts, and how operations come and go.
use Rattle.std.proofs.Common.{◌≡◌, ℕ, List, refl, Some, None}
use Rattle.std.proofs.lemmas.Bool.{and_parts}
use Rattle.disk_dcdd.specs.declared.address.SectorAddress.{SectorAddress}
use Rattle.guest_lockstep.specs.Machine.{Machine}
use Rattle.guest_lockstep.specs.Recorded.{Counts}
use Rattle.altair_laws.proofs.Drives.{selected_is}
use Rattle.guest_board.specs.Guest.{altair}
use Rattle.guest_board.specs.Inputs.{some_altair}
use Rattle.guest_board.specs.declared.setup.Setup.{Setup}
use Rattle.guest_lockstep.specs.Outstanding.{ComesAndGoes}
use Rattle.pair_protocol.specs.Copying.{IsCopying, no_copies}
use Rattle.pair_protocol.specs.Lawful.{Lawful}
use Rattle.pair_protocol.specs.OnDisk.{ReadyIsSelected}
use Rattle.pair_rule.specs.Law.{Runnable}

altair_selects : (setup : Setup) (sectors : SectorAddress → List ℕ) → ReadyIsSelected (altair setup sectors)
altair_selects setup sectors g drive sector ready = selected_is g.devices.disk drive (and_parts _ _ ready).0

pub altair_runnable : (setup : Setup) (sectors : SectorAddress → List ℕ) → Lawful (altair setup sectors) → Counts some_altair
    → ComesAndGoes some_altair → Runnable (altair setup sectors)
altair_runnable setup sectors laws counts operations = record {
  lawful = laws;
  counts = record { by_step = counts.by_step; by_input = counts.by_input; spent = counts.spent };
  operations = record { comes = operations.comes; quiet = operations.quiet; goes = operations.goes; stays = operations.stays };
  selected = altair_selects setup sectors;
}

pub without_copies : {S : Type 0} (M : Machine S) → IsCopying M no_copies
without_copies M = record {
  counted = λ moves s runs. refl;
  again = λ moves s t runs owns made. absurd (let e : None ≡ Some t = made in cc);
}
