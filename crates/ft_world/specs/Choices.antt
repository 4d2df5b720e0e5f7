-- What the terminals of a world accepted and what its disk keeps, as choices over everything that arrived.
use Rattle.std.specs.Prelude.{ℕ, List, ◌∷◌, map}
use Rattle.disk_dcdd.specs.declared.address.SectorAddress.{SectorAddress}
use Rattle.guest_lockstep.specs.Machine.{Machine}
use Rattle.shared_disk.specs.Arrivals.{IsGreatest, written_at}
use Rattle.shared_disk.specs.Records.{boot_record}
use Rattle.shared_disk.specs.declared.store.Record.{Record}
use Rattle.terminals.specs.Arrivals.{Arrival, IsAccepted}
use Rattle.pair_protocol.specs.World as protocol
use Rattle.pair_protocol.specs.World.{World, accepted, sector_record, terminal}

-- what arrived at a terminal, in the terminal's words
abbrev pub arrivals_of : List protocol.Arrival → List Arrival
arrivals_of arrivals = map (λ (a : protocol.Arrival). record { number = a.number; byte = a.byte }) arrivals

-- what the disk keeps for a sector, in the disk's words
abbrev pub kept_of : protocol.SectorRecord → Record
kept_of r = record { number = r.number; bytes = r.bytes }

-- a terminal of a world has accepted the longest list in order of all that arrived
abbrev pub TerminalsAcceptTheLongest : (S : Type 0) → Type 0
TerminalsAcceptTheLongest S =
    (w : World S) (port : ℕ) → IsAccepted (arrivals_of (terminal w port).arrivals) (accepted w port)

-- the disk of a world keeps for a sector the greatest of its bytes at boot, under number 0, and all writes to it that
-- arrived, and the first if several have that number
abbrev pub DisksKeepTheGreatest : (S : Type 0) → Type 0
DisksKeepTheGreatest S =
    (M : Machine S) (w : World S) (address : SectorAddress)
    → IsGreatest (boot_record (M.boot_sector address) ∷ written_at address w.puts)
    (kept_of (sector_record M w.puts address))
