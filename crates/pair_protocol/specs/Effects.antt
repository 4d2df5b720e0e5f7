-- What an event does at a node, as a relation of the node before and the node after it; what an event asks of a node,
-- which then stays as it is; and what holds of a node at which an event is out of memory.
use Rattle.std.specs.Prelude.{◌≡◌, ◌≢◌, ℕ, suc, ◌≤◌, ◌<◌, Bool, true, false, ◌==◌, if◌then◌else◌, ◌⊎◌, Option, Some, None, is_none, List, length, slice_get}
use Rattle.disk_dcdd.specs.declared.address.SectorAddress.{SectorAddress}
use Rattle.event_callbacks.specs.Operations.{id_of}
use Rattle.event_callbacks.specs.declared.operations.OpId.{OpId}
use Rattle.event_callbacks.specs.declared.operations.Operation.{Operation}
use Rattle.guest_lockstep.specs.Machine.{Machine}
use Rattle.guest_lockstep.specs.declared.input.Input.{Input}
use Rattle.guest_lockstep.specs.declared.input.Input.TheVariants as input
use Rattle.guest_lockstep.specs.declared.replay_end.ReplayEnd.{ReplayEnd}
use Rattle.guest_lockstep.specs.declared.replay_end.ReplayEnd.TheVariants.{Turns, End, Wait, Memory}
use Rattle.guest_lockstep.specs.declared.running.StopReason.{StopReason}
use Rattle.guest_lockstep.specs.declared.running.StopReason.TheVariants as reason
use Rattle.i8080_words.specs.declared.refusal.Fault.TheVariants.{Spent, Idle, OutOfMemory}
pub use Rattle.log_entry.specs.Entries.{read_at, wanted_of}
use Rattle.log_entry.specs.Entries.{count_of, input_of, bare_of}
use Rattle.log_entry.specs.declared.entry.Entry.{Entry}
use Rattle.pair_protocol.specs.Copying.{Copying}
use Rattle.pair_protocol.specs.Reply.{Reply, New, Old, Whole}
use Rattle.pair_protocol.specs.Node.{Node, Role, Primary, Backup, Joining, Draining, Alone, Spare, primary_steps, plainly_steps, primary_takes, alone_takes, holds, passes_mark, passes_input, passes_read, fetches, replay_told, hears, halts, goes_live, gets_part, joins, gathered, keys_covered}

-- ---- moves of a machine

-- a step, and an input, at a primary or alone node
abbrev pub stepped : {S : Type 0} → Machine S → Node S → Role → S → Option Operation → Node S
stepped M x Primary s gives = primary_steps M x s gives
stepped M x Alone s gives = plainly_steps x s
stepped M x Backup s gives = x
stepped M x Joining s gives = x
stepped M x Draining s gives = x
stepped M x Spare s gives = x

abbrev pub took : {S : Type 0} → Machine S → Node S → Role → S → Input → Node S
took M x Primary s i = primary_takes M x s i
took M x Alone s i = alone_takes M x s i
took M x Backup s i = x
took M x Joining s i = x
took M x Draining s i = x
took M x Spare s i = x

-- x makes at most this many steps, up to the first that gives an operation, and is then y
pub data Advances {S : Type 0} (M : Machine S) : Node S → ℕ → Node S → ℕ → StopReason → Type 0 where
  NoneLeft : {x : Node S} → Advances M x 0 x 0 reason.Turns
  Ends : {x : Node S} {turns : ℕ} → M.is_spent x.machine ≡ true → Advances M x (suc turns) x 0 (reason.Refused Spent)
  Waits : {x : Node S} {turns : ℕ} → M.is_spent x.machine ≡ false → M.step x.machine ≡ None →
      Advances M x (suc turns) x 0 (reason.Refused Idle)
  -- a step that nothing else refuses is out of memory
  Short : {x : Node S} {turns : ℕ} → M.is_spent x.machine ≡ false → is_none (M.step x.machine) ≡ false →
      Advances M x (suc turns) x 0 (reason.Refused OutOfMemory)
  Gives : {x : Node S} {turns : ℕ} (s : S) (o : Operation) → M.step x.machine ≡ Some (s, Some o) →
      Advances M x (suc turns) (stepped M x x.role s (Some o)) 1 (reason.Operation (id_of o))
  Goes : {x y : Node S} {turns made : ℕ} {why : StopReason} (s : S) → M.step x.machine ≡ Some (s, None) →
      Advances M (stepped M x x.role s None) turns y made why → Advances M x (suc turns) y (suc made) why

-- the read that a node has reached
abbrev pub next_read : {S : Type 0} → Machine S → Node S → Option (ℕ × ℕ × ℕ)
next_read M x = read_at (M.count x.machine) (slice_get x.held x.replayed)

-- the read that it waits for
abbrev pub wanted : {S : Type 0} → Machine S → Node S → Option (ℕ × ℕ × ℕ)
wanted M x = wanted_of x.fetched (next_read M x)

-- its next move is a step: the next entry is at a later count
pub record IsBehind {S : Type 0} (M : Machine S) (x : Node S) : Type 0 where
  pub next : Entry
  pub held : slice_get x.held x.replayed ≡ Some next
  pub later : M.count x.machine < count_of next

-- x makes at most this many moves from the entries that it holds, and is then y
pub data Replays {S : Type 0} (M : Machine S) : Node S → ℕ → Node S → ℕ → Type 0 where
  NoTurns : {x : Node S} → Replays M x 0 x 0
  AtEnd : {x : Node S} {turns : ℕ} → x.replayed ≡ length x.held → Replays M x (suc turns) x 0
  -- the bytes of a sector have not arrived
  AwaitsBytes : {x : Node S} {turns : ℕ} → is_none (wanted M x) ≡ false → Replays M x (suc turns) x 0
  -- a step is out of memory; no other move needs any
  NoMemory : {x : Node S} {turns : ℕ} → IsBehind M x → Replays M x (suc turns) x 0
  OneStep : {x y : Node S} {turns made : ℕ} (e : Entry) (s : S) (gives : Option Operation) →
      slice_get x.held x.replayed ≡ Some e → M.count x.machine < count_of e → M.step x.machine ≡ Some (s, gives) →
      Replays M (plainly_steps x s) turns y made → Replays M x (suc turns) y (suc made)
  OneMark : {x y : Node S} {turns made : ℕ} (e : Entry) →
      slice_get x.held x.replayed ≡ Some e → M.count x.machine ≡ count_of e → bare_of e ≡ None →
      Replays M (passes_mark x) turns y made → Replays M x (suc turns) y (suc made)
  OneInput : {x y : Node S} {turns made : ℕ} (e : Entry) (i : Input) (s : S) →
      slice_get x.held x.replayed ≡ Some e → M.count x.machine ≡ count_of e → input_of e ≡ Some i →
      M.take x.machine i ≡ Some s →
      Replays M (passes_input x s) turns y made → Replays M x (suc turns) y (suc made)
  OneRead : {x y : Node S} {turns made : ℕ} (drive sector number : ℕ) (bytes : List ℕ) (s : S) →
      next_read M x ≡ Some (drive, sector, number) → x.fetched ≡ Some bytes →
      M.take x.machine (input.Sector drive sector number bytes) ≡ Some s →
      Replays M (passes_read x s) turns y made → Replays M x (suc turns) y (suc made)

-- no move is made only if none was asked for, none was left, or the first waits for bytes
abbrev pub MovesSome : {S : Type 0} → Machine S → Node S → ℕ → ℕ → Type 0
MovesSome M x turns made =
    (1 ≤ made) ⊎ (turns ≡ 0) ⊎ (x.replayed ≡ length x.held) ⊎ (is_none (wanted M x) ≡ false)

-- why a node that was asked for `turns` moves made `made`: nothing is left, it waits for bytes, all were made, or a step
-- ran out of memory
abbrev pub replay_end : {S : Type 0} → Machine S → Node S → ℕ → ℕ → ReplayEnd
replay_end M y turns made =
    if y.replayed == length y.held then End
    else if is_none (wanted M y) then (if made == turns then Turns else Memory)
    else Wait

-- a node that won goes live once nothing is left
abbrev pub after_drain : {S : Type 0} → Node S → ReplayEnd → Node S
after_drain y Turns = y
after_drain y End = goes_live y
after_drain y Wait = y
after_drain y Memory = y

-- ---- what an event does at a node

-- the machine makes steps
pub record Stepped {S : Type 0} (M : Machine S) (turns made count : ℕ) (why : StopReason) (x y : Node S) : Type 0 where
  pub advances : Advances M x turns y made why
  pub some : (turns ≡ 0) ⊎ (1 ≤ made)
  pub counted : count ≡ M.count y.machine

-- an input is taken
pub record Took {S : Type 0} (M : Machine S) (i : Input) (x y : Node S) : Type 0 where
  pub s : S
  pub takes : M.take x.machine i ≡ Some s
  pub after : y ≡ took M x x.role s i

-- the next entry is held; a repeat, or an entry past a gap, changes nothing
abbrev pub Held : {S : Type 0} → ℕ → Entry → Bool → Node S → Node S → Type 0
Held index e true x y = (index ≡ length x.held) × (y ≡ holds x e)
Held index e false x y = (index ≢ length x.held) × (y ≡ x)

-- an acknowledgement arrives, and this many entries are covered
abbrev pub Heard : {S : Type 0} → ℕ → ℕ → ℕ → Node S → Node S → Type 0
Heard held replayed covered x y = (covered ≡ (hears x held replayed).covered) × (y ≡ hears x held replayed)

-- a node makes moves from the entries that it holds
pub record Replayed {S : Type 0} (M : Machine S) (turns made : ℕ) (why : ReplayEnd) (x y : Node S) : Type 0 where
  pub moves : Replays M x turns y made
  pub some : MovesSome M x turns made
  pub ends : why ≡ replay_end M y turns made

-- a node that won makes such moves, and is alone if nothing is left
pub record Drained {S : Type 0} (M : Machine S) (turns made : ℕ) (why : ReplayEnd) (x y : Node S) : Type 0 where
  pub z : Node S
  pub replayed : Replayed M turns made why x z
  pub after : y ≡ after_drain z why

-- the bytes of the sector that a node waits for arrive
abbrev pub Fetched : {S : Type 0} → List ℕ → Node S → Node S → Type 0
Fetched bytes x y = y ≡ fetches x bytes

-- a node halts
abbrev pub Halted : {S : Type 0} → Node S → Node S → Type 0
Halted x y = y ≡ halts x

-- a part that arrived before changes nothing; the last missing one makes the node the backup
pub data GotPart {S : Type 0} (C : Copying S) (index : ℕ) (part : List ℕ) (x : Node S) : Reply → Node S → Type 0 where
  Again : {before : List ℕ} → slice_get x.parts index ≡ Some (Some before) → GotPart C index part x Old x
  Comes : slice_get x.parts index ≡ Some None → gathered (gets_part x index part).parts ≡ None →
      GotPart C index part x New (gets_part x index part)
  Completes : (parts : List (List ℕ)) (s : S) → slice_get x.parts index ≡ Some None →
      gathered (gets_part x index part).parts ≡ Some parts → C.assemble parts ≡ Some s →
      GotPart C index part x Whole (joins (gets_part x index part) s)

-- ---- what an event asks of a node

-- the log has an entry at an index
abbrev pub HasEntry : {S : Type 0} → ℕ → Entry → Node S → Type 0
HasEntry index e x = slice_get x.log index ≡ Some e

-- how many entries a backup holds, and how many it reports as replayed
abbrev pub HasHeld : {S : Type 0} → ℕ → ℕ → Node S → Type 0
HasHeld held replayed x = (held ≡ length x.held) × (replayed ≡ replay_told x)

-- an operation is outstanding
abbrev pub HasOutstanding : {S : Type 0} → Machine S → OpId → Operation → Node S → Type 0
HasOutstanding M name o x = M.find x.machine name ≡ Some o

-- how many keys are covered
abbrev pub HasCovered : {S : Type 0} → Machine S → ℕ → ℕ → Node S → Type 0
HasCovered M port keys x = keys ≡ keys_covered M x port x.role

-- the sector with this number on the track under the head of the selected drive
pub record IsUnder {S : Type 0} (M : Machine S) (sector : ℕ) (address : SectorAddress) (x : Node S) : Type 0 where
  pub drive : ℕ
  pub selected : M.selected x.machine ≡ Some drive
  pub address_is : address ≡ M.address x.machine drive sector

-- the sector that it waits for
pub record Wants {S : Type 0} (M : Machine S) (address : SectorAddress) (x : Node S) : Type 0 where
  pub drive : ℕ
  pub sector : ℕ
  pub number : ℕ
  pub read : wanted M x ≡ Some (drive, sector, number)
  pub address_is : address ≡ M.address x.machine drive sector

-- the image has this part at an index
pub record HasPart {S : Type 0} (C : Copying S) (index : ℕ) (part : List ℕ) (x : Node S) : Type 0 where
  pub s : S
  pub image : x.image ≡ Some s
  pub is_part : slice_get (C.parts s) index ≡ Some part

-- ---- what holds of a node at which an event is out of memory

-- it is asked for moves, and the first one is a step
abbrev pub NeedsMoves : {S : Type 0} → Machine S → ℕ → Node S → Type 0
NeedsMoves M turns x = (0 < turns) × IsBehind M x

-- the index is that of the next entry to hold
abbrev pub NeedsEntry : {S : Type 0} → ℕ → Node S → Type 0
NeedsEntry index x = index ≡ length x.held

-- with the part it has all of them
abbrev pub NeedsPart : {S : Type 0} → ℕ → List ℕ → Node S → Type 0
NeedsPart index part x = (parts : List (List ℕ)) × (gathered (gets_part x index part).parts ≡ Some parts)
