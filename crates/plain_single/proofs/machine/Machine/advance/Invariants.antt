-- So far the machine is where it was at first, moved on to the count.
use Rattle.std.proofs.Common.{◌≡◌, ℕ, List}
use Rattle.disk_dcdd.specs.declared.address.SectorAddress.{SectorAddress}
use Rattle.guest_board.specs.Guest.{altair}
use Rattle.guest_board.specs.declared.setup.Setup.{Setup}
use Rattle.plain_single.specs.SingleState.{state_of}
use Rattle.plain_single.specs.Reaching.{StandsAt}
use Rattle.guest_lockstep.specs.declared.timed.Timed.{Timed}
use Rattle.plain_single.proofs.machine.Machine.advance.Given as goal

abbrev pub invariant-loop : goal.invariant-loop
invariant-loop l = record {
  count : l.self.count ≡ l.counter;
  stands : (setup : Setup) (sectors : SectorAddress → List ℕ) (list : List Timed)
      → StandsAt (altair setup sectors) list (state_of l.fn.self)
      → StandsAt (altair setup sectors) list (state_of l.self);
}
