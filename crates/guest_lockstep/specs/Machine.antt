-- A machine as a pair sees it: its state, what it does by itself, what it may be given, and what may be asked of it.
use Rattle.std.specs.Prelude.{◌≡◌, ℕ, Bool, not, ◌==◌, if◌then◌else◌, Option, Some, None, is_none, List, [], ◌∷◌}
use Rattle.i8080_words.specs.declared.refusal.Fault.{Fault}
use Rattle.i8080_words.specs.declared.refusal.Fault.TheVariants.{NotDue, StaleRead, SectorBusy}
use Rattle.disk_dcdd.specs.declared.address.SectorAddress.{SectorAddress}
use Rattle.event_callbacks.specs.declared.operations.OpId.{OpId}
use Rattle.event_callbacks.specs.declared.operations.OpId.TheVariants as id
use Rattle.event_callbacks.specs.declared.operations.Operation.{Operation}
use Rattle.guest_lockstep.specs.declared.input.Input.{Input}
use Rattle.guest_lockstep.specs.declared.input.Input.TheVariants.{Rx, Sent, Sector, Written}

pub record Machine (S : Type 0) : Type 0 where
  -- the state at boot, and what each sector of the disk holds then
  pub boot : S
  pub boot_sector : SectorAddress → List ℕ
  -- how many bytes of a port may be sent and not accepted
  pub window_size : ℕ
  -- one instruction or accepted interrupt: the state after it and the operation that it gives; none if the machine
  -- idles or is spent
  pub step : S → Option (S × Option Operation)
  -- the open move: an input if it is due, a sector with the bytes that the input carries
  pub take : S → Input → Option S
  -- how many steps it has executed, whether a number has reached its limit, and how many keys of a port it has taken
  pub count : S → ℕ
  pub is_spent : S → Bool
  pub keys : S → ℕ → ℕ
  -- the outstanding operation of this name, and the number of the next byte of a port to be accepted
  pub find : S → OpId → Option Operation
  pub due_byte : S → ℕ → Option ℕ
  -- the selected drive, and the sector of this number on the track that a drive's head is at
  pub selected : S → Option ℕ
  pub address : S → ℕ → ℕ → SectorAddress
  -- whether the sector may come under the head if no write of it is outstanding, and whether one is
  pub ready : S → SectorAddress → Bool
  pub busy : S → SectorAddress → Bool
  -- the number of the last completed write of a sector, 0 if there is none
  pub done : S → SectorAddress → ℕ

-- the machine that boots elsewhere: in this state, with these sectors
abbrev pub booted_from : {S : Type 0} → Machine S → S → (SectorAddress → List ℕ) → Machine S
booted_from M start sectors = record M { boot = start; boot_sector = sectors }

-- a move of a trace: a step with the operation that it gives, or an input
pub data Move : Type 0 where
  Do : (gives : Option Operation) → Move
  Take : (input : Input) → Move

-- the moves lead from one state to another
abbrev pub Runs : {S : Type 0} → Machine S → S → List Move → S → Type 0
Runs M s [] t = s ≡ t
Runs {S} M s (Do gives ∷ moves) t = (u : S) × (M.step s ≡ Some (u, gives)) × Runs M u moves t
Runs {S} M s (Take input ∷ moves) t = (u : S) × (M.take s input ≡ Some u) × Runs M u moves t

-- why a sector does not come: it is not due, a write of it is outstanding, or it was read before its last write
abbrev pub sector_refusal : {S : Type 0} → Machine S → S → SectorAddress → ℕ → Option Fault
sector_refusal M s address number =
    if not (M.ready s address) then Some NotDue
    else if M.busy s address then Some SectorBusy
    else if not (M.done s address == number) then Some StaleRead
    else None

-- why an input is refused; a key is taken at any time
abbrev pub refusal_of : {S : Type 0} → Machine S → S → Input → Option Fault
refusal_of M s (Rx port byte) = None
refusal_of M s (Sent port) = if is_none (M.due_byte s port) then Some NotDue else None
refusal_of M s (Sector drive sector number bytes) = sector_refusal M s (M.address s drive sector) number
refusal_of M s (Written number) = if is_none (M.find s (id.Write number)) then Some NotDue else None
