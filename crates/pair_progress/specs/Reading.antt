-- Reading: at rest, a sector that is due at a live node comes.
use Rattle.std.specs.Prelude.{◌≡◌, ℕ, ◌<◌, true, false, Some, None, List}
use Rattle.disk_dcdd.specs.declared.address.SectorAddress.{SectorAddress}
use Rattle.event_callbacks.specs.declared.operations.OpId.{OpId}
use Rattle.guest_lockstep.specs.Machine.{Machine, Move}
use Rattle.guest_lockstep.specs.declared.input.Input.TheVariants.{Sector}
use Rattle.pair_events.specs.declared.event.Event.{Event}
use Rattle.pair_events.specs.declared.event.Event.TheVariants.{Get, GetReply}
use Rattle.pair_protocol.specs.Copying.{Copying}
use Rattle.pair_protocol.specs.Lawful.{Reaches}
use Rattle.pair_protocol.specs.World.{World}
use Rattle.pair_progress.specs.Completion.{IsAtRest}
use Rattle.pair_progress.specs.Leads.{Leads}
use Rattle.pair_progress.specs.Takeover.{IsLive}

-- what is asked of the machine besides: a sector is busy only while something is outstanding, and one that is due is taken
pub record ReadsSectors {S : Type 0} (M : Machine S) : Type 0 where
  pub free : (moves : List Move) (s : S) (address : SectorAddress) → Reaches M moves s
      → ((name : OpId) → M.find s name ≡ None) → M.busy s address ≡ false
  pub takes : (moves : List Move) (s : S) (drive sector number : ℕ) (bytes : List ℕ) → Reaches M moves s
      → M.ready s (M.address s drive sector) ≡ true → M.busy s (M.address s drive sector) ≡ false
      → (t : S) × (M.take s (Sector drive sector number bytes) ≡ Some t)

-- a sector of the selected drive may come under its head
pub record IsDue {S : Type 0} (M : Machine S) (s : S) (drive sector : ℕ) : Type 0 where
  pub selected : M.selected s ≡ Some drive
  pub there : sector < 32
  pub ready : M.ready s (M.address s drive sector) ≡ true

-- the disk is asked for a sector, and the answer arrives
abbrev pub IsReading : ℕ → Event → Type 0
IsReading n (Get m sector) = m ≡ n
IsReading n (GetReply message m) = m ≡ n
IsReading n e = ⊥

-- the node has taken the sector
pub record HasTaken {S : Type 0} (M : Machine S) (w : World S) (n generation : ℕ) (s : S) (drive sector : ℕ) : Type 0 where
  pub live : IsLive w n generation
  pub number : ℕ
  pub bytes : List ℕ
  pub taken : M.take s (Sector drive sector number bytes) ≡ Some live.x.machine

-- two events are enough
abbrev pub SectorsCome : {S : Type 0} → Machine S → Copying S → World S → Type 0
SectorsCome M C w = (n generation : ℕ) (rest : IsAtRest M w n generation) (drive sector : ℕ) →
    IsDue M rest.live.x.machine drive sector →
    Leads M C w (IsReading n) 2 (λ new. HasTaken M new n generation rest.live.x.machine drive sector)
