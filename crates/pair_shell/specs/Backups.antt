-- Who is the backup of a pair, and of the day of a node.
use Rattle.std.specs.Prelude.{◌≡◌, ◌<◌, ◌==◌, ◌&&◌, ℕ, Bool, true, false, List, Option, Some, None, Result, Ok, Err, slice_get}
use Rattle.guest_lockstep.specs.Machine.{Machine}
use Rattle.i8080_words.specs.declared.refusal.Fault.{Fault}
use Rattle.i8080_words.specs.declared.refusal.Fault.TheVariants.{Unknown, WrongRole}
use Rattle.ft_world.specs.Shows.{IsStatusAt}
use Rattle.ft_world.specs.declared.hosts.NodeStatus.{NodeStatus}
use Rattle.pair_events.specs.declared.reply.Role.{Role}
use Rattle.pair_events.specs.declared.reply.Role.TheVariants.{Primary, Backup, Alone}
use Rattle.pair_protocol.specs.Node.{Node}

-- what a node shows of itself says that it is a backup, of this generation
abbrev pub is_backup_role : Role → Bool
is_backup_role Backup = true
is_backup_role _ = false

abbrev pub is_backup : ℕ → Option NodeStatus → Bool
is_backup generation (Some status) = is_backup_role status.role && (status.generation == generation)
is_backup generation None = false

-- the node of this number shows that it is one, or that it is not
pub record FindsBackup {S : Type 0} (M : Machine S) (nodes : List (Node S)) (generation number : ℕ) (found : Bool) : Type 0 where
  pub status : Option NodeStatus
  pub is_there : IsStatusAt M (slice_get nodes number) status
  pub told : found ≡ is_backup generation status

-- the first of so many hosts that is a backup of this generation; none if none is
abbrev pub IsFirstBackup : {S : Type 0} → Machine S → List (Node S) → ℕ → ℕ → Option ℕ → Type 0
IsFirstBackup M nodes generation hosts (Some n) =
    (n < hosts) × FindsBackup M nodes generation n true × ((m : ℕ) → m < n → FindsBackup M nodes generation m false)
IsFirstBackup M nodes generation hosts None = (m : ℕ) → m < hosts → FindsBackup M nodes generation m false

module _ {S : Type 0} (M : Machine S) (nodes : List (Node S)) (hosts : ℕ) where
  -- the backup of the day of a node in this role: that of a primary's generation, and none of a node that is alone; a node in
  -- another role has no day
  abbrev pub IsDayOf : Role → ℕ → Result (Option ℕ) Fault → Type 0
  IsDayOf Primary generation found = (backup : Option ℕ) × ((found ≡ Ok backup) × IsFirstBackup M nodes generation hosts backup)
  IsDayOf Alone generation found = found ≡ Ok None
  IsDayOf other generation found = found ≡ Err WrongRole

  abbrev pub IsDayBy : Option NodeStatus → Result (Option ℕ) Fault → Type 0
  IsDayBy (Some status) found = IsDayOf status.role status.generation found
  IsDayBy None found = found ≡ Err Unknown

  -- the same by what the node of this number shows of itself
  pub record HasDay (number : ℕ) (found : Result (Option ℕ) Fault) : Type 0 where
    pub status : Option NodeStatus
    pub is_there : IsStatusAt M (slice_get nodes number) status
    pub found_so : IsDayBy status found
