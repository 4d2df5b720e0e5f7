-- What travels between the processes of a pair, and one step of a process: frames that it takes in, and frames that it sends.
use Rattle.std.specs.Prelude.{ℕ, List, [], ◌∷◌, ◌++◌}
use Rattle.disk_dcdd.specs.declared.address.SectorAddress.{SectorAddress}
use Rattle.guest_lockstep.specs.declared.reads.Reads.{Reads}
use Rattle.guest_lockstep.specs.declared.timed.Timed.{Timed}
use Rattle.pair_protocol.specs.Lawful.{Among}
use Rattle.pair_protocol.specs.World.{Message}

-- what one process sends another
pub data Frame : Type 0 where
  -- a message of the protocol: between hosts, from a host to a device, or the disk's answer
  Carries : (message : Message) → Frame
  -- a host asks the disk for a sector, tells a terminal how many keys are covered, and asks the arbiter
  AsksSector : (address : SectorAddress) → Frame
  TellsKeys : (port keys : ℕ) → Frame
  AsksArbiter : (host generation : ℕ) → Frame
  -- the outside sends the key of an index at a terminal, how many bytes a terminal has accepted, and the arbiter's answers
  Key : (port index byte : ℕ) → Frame
  AreAccepted : (port count : ℕ) → Frame
  HasWon : (generation host : ℕ) → Frame
  HasLost : (generation host : ℕ) → Frame
  -- a generation may begin, since there is a host of its number
  MayBegin : (generation : ℕ) → Frame
  -- it begins, and that host is to be given the copy of a machine with this count; no frame spells the inputs that the copy
  -- has
  Recruits : (generation count : ℕ) (reads : Reads) (list : List Timed) → Frame

-- one step of a process, as the others see it
pub record Act : Type 0 where
  pub takes : List Frame
  pub sends : List Frame

-- it takes and sends nothing, takes one frame, sends one, or answers one with another
abbrev pub quiet : Act
quiet = record { takes = []; sends = [] }

abbrev pub taking : Frame → Act
taking frame = record { takes = frame ∷ []; sends = [] }

abbrev pub sending : Frame → Act
sending frame = record { takes = []; sends = frame ∷ [] }

abbrev pub answering : Frame → Frame → Act
answering frame answer = record { takes = frame ∷ []; sends = answer ∷ [] }

-- all frames that a list of steps took in, and all that it sent
abbrev pub taken : List Act → List Frame
taken [] = []
taken (act ∷ acts) = act.takes ++ taken acts

abbrev pub sent : List Act → List Frame
sent [] = []
sent (act ∷ acts) = act.sends ++ sent acts

-- each of these frames was sent before
abbrev pub Came : List Frame → List Frame → Type 0
Came [] before = Unit {0}
Came (frame ∷ frames) before = Among frame before × Came frames before
