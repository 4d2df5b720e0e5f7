-- What the threads of a generation are told of the Altair of any setup, with any sectors on its disks.
use Rattle.std.specs.Prelude.{ℕ, List}
use Rattle.disk_dcdd.specs.declared.address.SectorAddress.{SectorAddress}
use Rattle.guest_board.specs.Guest.{altair}
use Rattle.guest_board.specs.declared.setup.Setup.{Setup}
use Rattle.pair_protocol.specs.Copying.{no_copies}
use Rattle.pair_rule.specs.declared.view.Knowledge.{Knowledge}
use Rattle.pair_rule.specs.Law.{Runnable}
use Rattle.pair_rule.specs.Threads.{IsShown, ThreadRun}

-- it is a machine that the threads may run
abbrev pub AltairsAreRunnable : Type 0
AltairsAreRunnable = (setup : Setup) (sectors : SectorAddress → List ℕ) → Runnable (altair setup sectors)

-- and they keep their promises with it
abbrev pub AltairThreadsAreFaithful : Type 0
AltairThreadsAreFaithful =
    (setup : Setup) (sectors : SectorAddress → List ℕ) (typed0 typed1 : List ℕ) (k : Knowledge) →
    ThreadRun (altair setup sectors) typed0 typed1 k → IsShown (altair setup sectors) no_copies typed0 typed1 k
