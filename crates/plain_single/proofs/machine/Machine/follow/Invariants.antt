-- The machine is where the inputs so far lead, and those that are left do not fall below its count.
use Rattle.std.proofs.Common.{ℕ, ◌≤◌, List, [], take, drop}
use Rattle.disk_dcdd.specs.declared.address.SectorAddress.{SectorAddress}
use Rattle.guest_board.specs.Guest.{altair}
use Rattle.guest_board.specs.declared.setup.Setup.{Setup}
use Rattle.plain_single.specs.SingleState.{state_of}
use Rattle.plain_single.specs.Reaching.{StandsAt, NeverFall}
use Rattle.plain_single.proofs.machine.Machine.follow.Given as goal

abbrev pub invariant-loop-timed : goal.invariant-loop-timed
invariant-loop-timed l = record {
  within : l.self.count ≤ l.fn.last;
  rising : NeverFall l.self.count (drop l.timed-index l.fn.inputs);
  stands : (setup : Setup) (sectors : SectorAddress → List ℕ) → StandsAt (altair setup sectors) [] (state_of l.fn.self)
      → StandsAt (altair setup sectors) (take l.timed-index l.fn.inputs) (state_of l.self);
}
