-- The laws of a pair, for the Altair of any setup and any copy of it.
use Rattle.std.specs.Prelude.{ℕ, List}
use Rattle.disk_dcdd.specs.declared.address.SectorAddress.{SectorAddress}
use Rattle.guest_board.specs.declared.setup.Setup.{Setup}
use Rattle.guest_parts.specs.Guest.{Guest}
use Rattle.guest_board.specs.Guest.{altair}
use Rattle.pair_protocol.specs.Copying.{Copying, IsCopying}
use Rattle.pair_events.specs.declared.event.Event.{Event}
use Rattle.pair_protocol.specs.Reply.{Reply}
use Rattle.pair_protocol.specs.Faithful.{Faithful}
use Rattle.pair_protocol.specs.Grows.{Grows}
use Rattle.pair_protocol.specs.Row.{Row, Run}
use Rattle.pair_protocol.specs.World.{World, opening}

-- the events of a run of a pair of Altairs, their replies, and the world that they lead to
abbrev pub IsRun : Setup → (SectorAddress → List ℕ) → Copying Guest → List Event → List Reply → World Guest → Type 0
IsRun setup sectors C events replies w =
    Run (altair setup sectors) C (opening (altair setup sectors) setup.reads) events replies w

-- every world of every run is faithful
abbrev pub PairsAreFaithful : Type 0
PairsAreFaithful = (setup : Setup) (sectors : SectorAddress → List ℕ) (C : Copying Guest)
    → IsCopying (altair setup sectors) C → (events : List Event) (replies : List Reply) (w : World Guest)
    → IsRun setup sectors C events replies w → Faithful (altair setup sectors) w

-- and each further event lets what is settled grow
abbrev pub PairsGrow : Type 0
PairsGrow = (setup : Setup) (sectors : SectorAddress → List ℕ) (C : Copying Guest)
    → IsCopying (altair setup sectors) C → (events : List Event) (replies : List Reply) (w new : World Guest) (e : Event)
    (r : Reply) → IsRun setup sectors C events replies w → Row (altair setup sectors) C w e r new
    → Grows (altair setup sectors) w new
