-- A device that fails once is asked once more, and then answers. What a world over it shows, one over its records shows too.
use Rattle.guest_parts.specs.Guest.{Guest}
use Rattle.std.proofs.Common.{◌≡◌, ℕ, zero, suc, List, Option, Some, None, refl, arith, ap, sym, subst, ◌∙◌}
use Rattle.std.specs.Prelude.{if◌then◌else◌, is_some, IsSome, IfOk, Result, Ok, Err}
use Rattle.std.proofs.lemmas.Option.{same_Some}
use Rattle.disk_dcdd.specs.declared.address.SectorAddress.{SectorAddress}
use Rattle.guest_lockstep.specs.Machine.{Machine}
use Rattle.i8080_words.specs.declared.refusal.Fault.{Fault}
use Rattle.i8080_words.specs.declared.refusal.Fault.TheVariants.{DeviceFault, Unknown}
use Rattle.shared_disk.specs.Records.{IsThere, record_at, refusal_at}
use Rattle.shared_disk.specs.declared.disk.SectorRead.{SectorRead}
use Rattle.shared_disk.specs.declared.store.Record.{Record}
use Rattle.ft_world.specs.Applies.{IsSectorOf, Shows}
use Rattle.ft_world.specs.Running.{Running}
use Rattle.ft_world.specs.Standing.{Course, machine_of}
use Rattle.shared_disk.specs.Failing.{Disk, before_failures, disk_may_fail, failures_of, records_in}
use Rattle.altair_pair.specs.Disks.{over_records}

-- a world over the disk shows what the world over its records shows
pub shows_records : {B H S : Type 0} (state : B → S) (copied : B → Guest) (M : Machine S) (v : Running B H Disk) (c : Course S)
    → Shows state copied M records_in v c → Shows state copied M (λ records. records) (over_records v) c
unfolding over_records
shows_records state copied M v c shows = record {
  drives = shows.drives;
  machine = shows.machine;
  copies_as = shows.copies_as;
  reached = shows.reached;
  parts = record {
    hosts = shows.parts.hosts;
    messages = shows.parts.messages;
    terminals = shows.parts.terminals;
    winners = shows.parts.winners;
    disk = shows.parts.disk;
    generation = shows.parts.generation;
    backup = shows.parts.backup;
  };
}

-- and the other way round
pub records_show : {B H S : Type 0} (state : B → S) (copied : B → Guest) (M : Machine S) (v : Running B H Disk) (c : Course S)
    → Shows state copied M (λ records. records) (over_records v) c → Shows state copied M records_in v c
unfolding over_records
records_show state copied M v c shows = record {
  drives = shows.drives;
  machine = shows.machine;
  copies_as = shows.copies_as;
  reached = shows.reached;
  parts = record {
    hosts = shows.parts.hosts;
    messages = shows.parts.messages;
    terminals = shows.parts.terminals;
    winners = shows.parts.winners;
    disk = shows.parts.disk;
    generation = shows.parts.generation;
    backup = shows.parts.backup;
  };
}

-- if nothing but the disk changes, and its records stay, the world over them stays
pub only_counts : {B H : Type 0} (old new : Running B H Disk) → new ≡ record old { disk = new.disk }
    → new.disk.store ≡ old.disk.store → over_records new ≡ over_records old
unfolding over_records
only_counts old new others same =
    ap over_records others ∙ ap (λ records. record (over_records old) { disk = records }) same

-- what a sector has is told of the world over the records, also if the device has failed in between
pub told_of : {B H S : Type 0} (state : B → S) (copied : B → Guest) (M : Machine S) (old mid : Running B H Disk) (address : SectorAddress)
    (answer : Result SectorRead Fault) → over_records mid ≡ over_records old
    → IfOk answer (λ read. (c : Course S) → Shows state copied M records_in mid c → IsSectorOf (machine_of M c) c.world address read)
    → IfOk answer (λ read. (c : Course S) → Shows state copied M (λ records. records) (over_records old) c
    → IsSectorOf (machine_of M c) c.world address read)
told_of state copied M old mid address (Ok read) same told = λ c shows.
    told c (records_show state copied M mid c (subst (λ v. Shows state copied M (λ records. records) v c) (sym same) shows))
told_of state copied M old mid address (Err fault) same told = tt

-- the disk of the world over the records
pub disk_over : {B H : Type 0} (v : Running B H Disk) → (over_records v).disk ≡ v.disk.store
unfolding over_records
disk_over v = refl

not_there-at : (found : Option Record) (fault : Fault) → fault ≡ (if is_some found then DeviceFault else Unknown)
    → (fault ≡ DeviceFault → ⊥) → IsSome found → ⊥
not_there-at None fault is other there = absurd (cc)
not_there-at (Some r) fault is other there = other is

-- a sector that is refused for another reason than a failure is not there
pub not_there : (records : List Record) (address : SectorAddress) (fault : Fault) → fault ≡ refusal_at records address
    → (fault ≡ DeviceFault → ⊥) → IsThere records address → ⊥
not_there records address fault is other there = not_there-at (record_at records address) fault is other there

is_unknown-at : (found : Option Record) (fault : Fault) → fault ≡ (if is_some found then DeviceFault else Unknown)
    → (fault ≡ DeviceFault → ⊥) → fault ≡ Unknown
is_unknown-at None fault is other = is
is_unknown-at (Some r) fault is other = absurd (other is)

-- and that it is not there is the reason
pub is_unknown : (records : List Record) (address : SectorAddress) (fault : Fault) → fault ≡ refusal_at records address
    → (fault ≡ DeviceFault → ⊥) → fault ≡ Unknown
is_unknown records address fault is other = is_unknown-at (record_at records address) fault is other

once : (first second third : ℕ)
    → before_failures (failures_of first) (Some 0) ≡ before_failures 1 (before_failures (failures_of second) (Some 0))
    → before_failures (failures_of second) (Some 0) ≡ before_failures 1 (before_failures (failures_of third) (Some 0)) → ⊥
once zero (suc n) third a b = let e : 0 ≡ 2 = same_Some 0 2 a in omega (arith, e)
once (suc m) (suc n) third a b = let e : 1 ≡ 2 = same_Some 1 2 a in omega (arith, e)
once first zero zero a b = let e : 0 ≡ 1 = same_Some 0 1 b in omega (arith, e)
once first zero (suc n) a b = let e : 0 ≡ 2 = same_Some 0 2 b in omega (arith, e)

-- the device does not fail twice
pub not_twice : (first second third : Disk) → disk_may_fail first ≡ before_failures 1 (disk_may_fail second)
    → disk_may_fail second ≡ before_failures 1 (disk_may_fail third) → ⊥
not_twice first second third a b = once first.left second.left third.left a b
