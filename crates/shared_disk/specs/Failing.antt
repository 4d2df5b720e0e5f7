-- How often a device may fail, and a store whose device fails at one access, and at no other.
use Rattle.std.specs.Prelude.{◌≡◌, ◌≢◌, ℕ, zero, suc, ◌+◌, ◌-◌, List, Option, Some}
use Rattle.std.specs.Option.{option_map}
use Rattle.shared_disk.specs.declared.store.Record.{Record}

-- How often a device may fail, so many failures before it may fail this often; None if nothing bounds it.
abbrev pub before_failures : ℕ → Option ℕ → Option ℕ
before_failures zero may_fail = may_fail
before_failures (suc failures) may_fail = option_map (λ n. n + 1) (before_failures failures may_fail)

-- the store underneath; how many accesses are left up to the one that fails, itself included, or 0 if none will fail
pub record FailsOnce (D : Type 0) : Type 0 where
  pub store : D
  pub left : ℕ

-- how often a device fails that has so many accesses left up to the one that fails
abbrev pub failures_of : ℕ → ℕ
failures_of zero = 0
failures_of (suc left) = 1

-- how often the device may fail: by itself, and as often as the store underneath may
abbrev pub may_fail_in : {D : Type 0} → (D → Option ℕ) → FailsOnce D → Option ℕ
may_fail_in below s = before_failures (failures_of s.left) (below s.store)

-- an access is made, and counted
pub record Counts {D : Type 0} (old new : FailsOnce D) : Type 0 where
  pub not_yet : old.left ≢ 1
  pub left : new.left ≡ old.left - 1

-- the device fails at its failing access
pub record Fails {D : Type 0} (old new : FailsOnce D) : Type 0 where
  pub now : old.left ≡ 1
  pub left : new.left ≡ 0

-- the store underneath refuses an access, which is not counted
abbrev pub Refuses : {D : Type 0} → FailsOnce D → FailsOnce D → Type 0
Refuses old new = new.left ≡ old.left

-- the disk of the program: in memory, on a device that may fail once
abbrev pub Disk : Type 0
Disk = FailsOnce (List Record)

-- its records
abbrev pub records_in : Disk → List Record
records_in disk = disk.store

-- how often its device may fail
abbrev pub disk_may_fail : Disk → Option ℕ
disk_may_fail disk = may_fail_in (λ (records : List Record). Some 0) disk
