-- What a world knows about the machine that its nodes run.
use Rattle.std.specs.Prelude.{ℕ, ◌≤◌, List}
use Rattle.disk_dcdd.specs.declared.address.SectorAddress.{SectorAddress}
use Rattle.disk_dcdd.specs.declared.controller.TheConstants.{DRIVES}
use Rattle.guest_lockstep.specs.Machine.{Machine}
use Rattle.pair_protocol.specs.Copying.{Copying, IsCopying, Makes}
use Rattle.pair_protocol.specs.Lawful.{Lawful}
use Rattle.pair_protocol.specs.OnDisk.{StaysOnDisk, ReadyIsSelected}
use Rattle.pair_protocol.specs.World.{World}
use Rattle.guest_lockstep.specs.Outstanding.{ComesAndGoes}

-- a world of the protocol, where its machines and its disk began, and how the machines are copied
pub record Course (S : Type 0) : Type 0 where
  pub boot : S
  pub sectors : SectorAddress → List ℕ
  pub copying : Copying S
  pub world : World S

-- the machine of a course: the one that the nodes run, begun there
abbrev pub machine_of : {S : Type 0} → Machine S → Course S → Machine S
machine_of M c = record M { boot = c.boot; boot_sector = c.sectors }

-- what a pair asks of the machine that it runs, and of its copies
pub record IsMachine {S : Type 0} (M : Machine S) (C : Copying S) (drives : ℕ) : Type 0 where
  pub lawful : Lawful M
  pub operations : ComesAndGoes M
  pub drives_within : drives ≤ DRIVES
  pub on_disk : StaysOnDisk M drives
  pub ready : ReadyIsSelected M
  pub copies : IsCopying M C
  pub makes : Makes M C
