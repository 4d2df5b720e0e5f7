-- What the disk's worker keeps besides its seat: a store whose sectors are as they booted, but for the writes answered.
use Rattle.std.specs.Prelude.{◌≡◌, ℕ, List, Some}
use Rattle.disk_dcdd.specs.declared.address.SectorAddress.{SectorAddress}
use Rattle.disk_dcdd.specs.declared.sector.SectorWrite.{SectorWrite}
use Rattle.pair_protocol.specs.World.{SectorRecord, latest}
use Rattle.pair_rule.specs.declared.payload.DiskAnswer.{DiskAnswer}
use Rattle.pair_rule.specs.declared.payload.DiskAnswer.TheVariants as answer
use Rattle.pair_rule.specs.declared.payload.DiskRequest.{DiskRequest}
use Rattle.pair_rule.specs.declared.view.DiskView.{DiskView}
use Rattle.shared_disk.specs.Arrivals.{read_address}
use Rattle.pair_rule.specs.Knowledge.{AllAre, put_by}
use Rattle.pair_rule.specs.Seats.{Replies}
use Rattle.shared_disk.specs.Records.{record_at}
use Rattle.shared_disk.specs.declared.store.Record.{Record}

-- a sector at boot
abbrev pub at_boot : List ℕ → SectorRecord
at_boot bytes = record { number = 0; bytes = bytes }

-- a record has this number and these bytes
abbrev pub Has : Record → SectorRecord → Type 0
Has r kept = (r.number ≡ kept.number) × (r.bytes ≡ kept.bytes)

-- each sector has what these writes left of what it booted with
abbrev pub IsDiskOf : (SectorAddress → List ℕ) → List Record → List SectorWrite → Type 0
IsDiskOf boots records puts =
    (address : SectorAddress) (r : Record) → record_at records address ≡ Some r →
    Has r (latest (at_boot (boots address)) puts address)

-- a sector that was read before any write of it has the bytes that it booted with
abbrev pub IsFirst : (SectorAddress → List ℕ) → DiskAnswer → Type 0
IsFirst boots (answer.Written number) = Unit {0}
IsFirst boots (answer.Read r) = r.number ≡ 0 → r.bytes ≡ boots (read_address r)

-- a store is as the view of its seat says, and so is what was read of it before any write
pub record IsStore (boots : SectorAddress → List ℕ) (records : List Record) (view : DiskView) : Type 0 where
  pub kept : IsDiskOf boots records view.puts
  pub firsts : AllAre view.given (IsFirst boots)

-- a store serves the request that the seat took last: its answer may be replied, and its records are right after that
abbrev pub Serves : List Record → DiskRequest → DiskAnswer → List Record → Type 0
Serves old request answer new =
    (boots : SectorAddress → List ℕ) (view : DiskView) → view.taken ≡ Some request → IsDiskOf boots old view.puts →
    Replies view answer × IsFirst boots answer × IsDiskOf boots new (put_by view.taken view.puts)
