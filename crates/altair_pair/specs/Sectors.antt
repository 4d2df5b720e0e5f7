-- What is found in the sectors of a world's disk, by the run of a single machine.
use Rattle.guest_parts.specs.Guest.{Guest}
use Rattle.std.specs.Prelude.{◌≡◌, ℕ, ◌<◌, ◌⊎◌, Bool, false, IsTrue, List}
use Rattle.disk_dcdd.specs.declared.address.SectorAddress.{SectorAddress}
use Rattle.guest_lockstep.specs.Machine.{Machine}
use Rattle.plain_single.specs.SingleState.{SingleState}
use Rattle.plain_single.specs.Image.{sector_at}
use Rattle.guest_lockstep.specs.declared.timed.Timed.{Timed}
use Rattle.pair_protocol.specs.World.{sector_record}
use Rattle.shared_disk.specs.Records.{IsThere}
use Rattle.shared_disk.specs.declared.store.Record.{Record}
use Rattle.ft_world.specs.Applies.{Shows}
use Rattle.ft_world.specs.Running.{Running}
use Rattle.ft_world.specs.Standing.{Course, machine_of}
use Rattle.altair_pair.specs.Comparing.{MayHave}

-- a sector by its address
abbrev pub address_at : ℕ → ℕ → ℕ → SectorAddress
address_at drive track sector = record { drive = drive; track = track; sector = sector }

-- a sector of the world may have the bytes that it has
abbrev pub IsGood : {B H S : Type 0} → (B → S) → (B → Guest) → Machine S → Running B H (List Record) → SingleState → List Timed
    → SectorAddress → Type 0
IsGood {S = S} state copied M v single settled address = (c : Course S) → Shows state copied M (λ records. records) v c
    → MayHave (sector_at single.disk address) single.behind.writes settled address
    (sector_record (machine_of M c) c.world.puts address).bytes

-- it may not, or the disk has no such sector
abbrev pub IsBad : {B H S : Type 0} → (B → S) → (B → Guest) → Machine S → Running B H (List Record) → SingleState → List Timed
    → SectorAddress → Type 0
IsBad {S = S} state copied M v single settled address = (IsThere v.disk address → ⊥)
    ⊎ ((c : Course S) → Shows state copied M (λ records. records) v c
    → MayHave (sector_at single.disk address) single.behind.writes settled address
    (sector_record (machine_of M c) c.world.puts address).bytes → ⊥)

-- an answer tells one or the other
pub record Tells (good bad : Type 0) (answer : Bool) : Type 0 where
  pub yes : IsTrue answer → good
  pub no : answer ≡ false → bad

-- each of this many, and some of them
abbrev pub EachOf : ℕ → (ℕ → Type 0) → Type 0
EachOf n P = (k : ℕ) → k < n → P k

abbrev pub SomeOf : ℕ → (ℕ → Type 0) → Type 0
SomeOf n P = (k : ℕ) × (k < n) × P k
