-- What an event that is not refused does: the old world, the reply and the new world, one relation for each row. And which events use
-- the disk, or may need memory.
use Rattle.std.specs.Prelude.{◌≡◌, ℕ, suc, ◌<◌, Bool, true, false, nat_lt, if◌then◌else◌, ◌⊎◌, Some, None, List, length, slice_get}
use Rattle.disk_dcdd.specs.declared.address.SectorAddress.{SectorAddress}
use Rattle.disk_dcdd.specs.declared.sector.SectorWrite.{SectorWrite}
use Rattle.event_callbacks.specs.declared.operations.OpId.{OpId}
use Rattle.event_callbacks.specs.declared.operations.Operation.{Operation}
use Rattle.event_callbacks.specs.declared.operations.Operation.TheVariants.{Byte, Write}
use Rattle.guest_lockstep.specs.Machine.{Machine}
use Rattle.guest_lockstep.specs.declared.input.Input.{Input}
use Rattle.guest_lockstep.specs.declared.input.Input.TheVariants as input
use Rattle.guest_lockstep.specs.declared.replay_end.ReplayEnd.{ReplayEnd}
use Rattle.guest_lockstep.specs.declared.replay_end.ReplayEnd.TheVariants.{Turns, End, Wait, Memory}
use Rattle.guest_lockstep.specs.declared.running.StopReason.{StopReason}
use Rattle.log_entry.specs.declared.entry.Entry.{Entry}
use Rattle.pair_protocol.specs.Copying.{Copying}
use Rattle.pair_protocol.specs.Effects as effect
use Rattle.pair_protocol.specs.Effects.{Stepped, Took, Held, Heard, Replayed, Drained, Halted, GotPart, HasEntry, HasHeld, HasOutstanding, HasCovered, IsUnder, Wants, HasPart, NeedsEntry, NeedsMoves, NeedsPart}
use Rattle.pair_protocol.specs.Node.{Node}
use Rattle.pair_protocol.specs.World.{World, Message, LogEntry, Acknowledgement, ImagePart, Released, WriteDone, SectorRead, terminal, accepted, winner_in, with_node, with_message, with_key, with_arrival, with_told, with_winner, with_put, with_read, with_pair}
use Rattle.pair_events.specs.declared.event.Event.{Event}
use Rattle.pair_events.specs.declared.event.Event.TheVariants.{Step, TypeByte, TakeKey, Send, DeliverLog, Acknowledge, DeliverAcknowledgement, Replay, Release, Arrive, TellSent, Told, Stop, Suspect, Drain, Put, PutReply, Get, GetReply, BeginPair, SendPart, PartComes, Freshen, Fetch, Fetched}
use Rattle.pair_protocol.specs.Reply.{Reply, Ran, TypedAt, Taken, New, Old, Accepted, Dropped, Won, Stopped, MessageIs, HeldIs, Moved, MovedAlone, ToldIs, GenerationIs, StaleIs}

-- the node of a number becomes another one
pub record AtNode {S : Type 0} (w : World S) (n : ℕ) (does : Node S → Node S → Type 0) (new : World S) : Type 0 where
  pub x : Node S
  pub there : slice_get w.nodes n ≡ Some x
  pub y : Node S
  pub done : does x y
  pub after : new ≡ with_node w n y

-- this holds of the node of a number
pub record OfNode {S : Type 0} (w : World S) (n : ℕ) (says : Node S → Type 0) : Type 0 where
  pub x : Node S
  pub there : slice_get w.nodes n ≡ Some x
  pub said : says x

-- ---- the rows

pub record Steps {S : Type 0} (M : Machine S) (w : World S) (n turns : ℕ) (r : Reply) (new : World S) : Type 0 where
  pub made : ℕ
  pub count : ℕ
  pub why : StopReason
  pub at : AtNode w n (Stepped M turns made count why) new
  pub reply : r ≡ Ran made count why

pub record TypesByte {S : Type 0} (w : World S) (port byte : ℕ) (r : Reply) (new : World S) : Type 0 where
  pub reply : r ≡ TypedAt (length (terminal w port).typed)
  pub after : new ≡ with_key w port byte

-- an input is taken
pub record Takes {S : Type 0} (M : Machine S) (w : World S) (n : ℕ) (i : Input) (r : Reply)
    (new : World S) : Type 0 where
  pub at : AtNode w n (Took M i) new
  pub reply : r ≡ Taken

pub record TakesKey {S : Type 0} (M : Machine S) (w : World S) (n port index : ℕ) (r : Reply)
    (new : World S) : Type 0 where
  pub byte : ℕ
  pub typed : slice_get (terminal w port).typed index ≡ Some byte
  pub input : Takes M w n (input.Rx port byte) r new

-- a message is sent
pub record Says {S : Type 0} (w : World S) (message : Message) (r : Reply) (new : World S) : Type 0 where
  pub reply : r ≡ MessageIs (length w.messages)
  pub after : new ≡ with_message w message

pub record Sends {S : Type 0} (w : World S) (n index : ℕ) (r : Reply) (new : World S) : Type 0 where
  pub e : Entry
  pub node : OfNode w n (HasEntry index e)
  pub says : Says w (LogEntry node.x.generation index e) r new

pub record DeliversLog {S : Type 0} (w : World S) (m n : ℕ) (r : Reply) (new : World S) : Type 0 where
  pub generation : ℕ
  pub index : ℕ
  pub e : Entry
  pub message : slice_get w.messages m ≡ Some (LogEntry generation index e)
  pub next : Bool
  pub at : AtNode w n (Held index e next) new
  pub reply : r ≡ (if next then New else Old)

pub record Acknowledges {S : Type 0} (w : World S) (n : ℕ) (r : Reply) (new : World S) : Type 0 where
  pub held : ℕ
  pub replayed : ℕ
  pub node : OfNode w n (HasHeld held replayed)
  pub says : Says w (Acknowledgement node.x.generation held replayed) r new

pub record DeliversAcknowledgement {S : Type 0} (w : World S) (m n : ℕ) (r : Reply) (new : World S) : Type 0 where
  pub generation : ℕ
  pub held : ℕ
  pub replayed : ℕ
  pub message : slice_get w.messages m ≡ Some (Acknowledgement generation held replayed)
  pub covered : ℕ
  pub at : AtNode w n (Heard held replayed covered) new
  pub reply : r ≡ HeldIs covered

pub record ReplaysHeld {S : Type 0} (M : Machine S) (w : World S) (n turns : ℕ) (r : Reply) (new : World S) : Type 0 where
  pub made : ℕ
  pub why : ReplayEnd
  pub at : AtNode w n (Replayed M turns made why) new
  pub reply : r ≡ Moved made why

pub record Releases {S : Type 0} (M : Machine S) (w : World S) (n : ℕ) (name : OpId) (r : Reply)
    (new : World S) : Type 0 where
  pub o : Operation
  pub node : OfNode w n (HasOutstanding M name o)
  pub says : Says w (Released o) r new

-- a byte arrives: it is accepted if it is the next one, and dropped if not
pub record Arrives {S : Type 0} (w : World S) (m : ℕ) (r : Reply) (new : World S) : Type 0 where
  pub port : ℕ
  pub number : ℕ
  pub byte : ℕ
  pub message : slice_get w.messages m ≡ Some (Released (Byte port number byte))
  pub reply : r ≡ (if nat_lt (length (accepted w port)) (length (accepted new port)) then Accepted else Dropped)
  pub after : new ≡ with_arrival w port (record { number = number; byte = byte })

pub record Tells {S : Type 0} (M : Machine S) (w : World S) (n port : ℕ) (r : Reply) (new : World S) : Type 0 where
  pub keys : ℕ
  pub node : OfNode w n (HasCovered M port keys)
  pub reply : r ≡ ToldIs keys
  pub after : new ≡ with_told w port keys

pub record Stops {S : Type 0} (w : World S) (n : ℕ) (r : Reply) (new : World S) : Type 0 where
  pub at : AtNode w n Halted new
  pub reply : r ≡ Stopped

-- the first node of a generation to ask has won it; a winner that asks again changes nothing
pub record Suspects {S : Type 0} (w : World S) (n : ℕ) (r : Reply) (new : World S) : Type 0 where
  pub x : Node S
  pub there : slice_get w.nodes n ≡ Some x
  pub reply : r ≡ Won
  pub after :
      ((winner_in w.winners x.generation ≡ None) × (new ≡ with_winner w n x))
      ⊎ ((winner_in w.winners x.generation ≡ Some n) × (new ≡ w))

abbrev pub drain_reply : ℕ → ReplayEnd → Reply
drain_reply made Turns = Moved made Turns
drain_reply made End = MovedAlone made
drain_reply made Wait = Moved made Wait
drain_reply made Memory = Moved made Memory

pub record Drains {S : Type 0} (M : Machine S) (w : World S) (n turns : ℕ) (r : Reply) (new : World S) : Type 0 where
  pub made : ℕ
  pub why : ReplayEnd
  pub at : AtNode w n (Drained M turns made why) new
  pub reply : r ≡ drain_reply made why

pub record Puts {S : Type 0} (w : World S) (m : ℕ) (r : Reply) (new : World S) : Type 0 where
  pub write : SectorWrite
  pub message : slice_get w.messages m ≡ Some (Released (Write write))
  pub reply : r ≡ MessageIs (length w.messages)
  pub after : new ≡ with_put w write

pub record TakesPutReply {S : Type 0} (M : Machine S) (w : World S) (m n : ℕ) (r : Reply) (new : World S) : Type 0 where
  pub number : ℕ
  pub message : slice_get w.messages m ≡ Some (WriteDone number)
  pub input : Takes M w n (input.Written number) r new

pub record Gets {S : Type 0} (M : Machine S) (w : World S) (n sector : ℕ) (r : Reply) (new : World S) : Type 0 where
  pub address : SectorAddress
  pub node : OfNode w n (IsUnder M sector address)
  pub reply : r ≡ MessageIs (length w.messages)
  pub after : new ≡ with_read M w address

pub record TakesGetReply {S : Type 0} (M : Machine S) (w : World S) (m n : ℕ) (r : Reply) (new : World S) : Type 0 where
  pub address : SectorAddress
  pub number : ℕ
  pub bytes : List ℕ
  pub message : slice_get w.messages m ≡ Some (SectorRead address number bytes)
  pub input : Takes M w n (input.Sector address.drive address.sector number bytes) r new

pub record BeginsPair {S : Type 0} (M : Machine S) (C : Copying S) (w : World S) (n host : ℕ) (r : Reply)
    (new : World S) : Type 0 where
  pub x : Node S
  pub there : slice_get w.nodes n ≡ Some x
  pub y : Node S
  pub spare : slice_get w.nodes host ≡ Some y
  pub reply : r ≡ GenerationIs (suc x.generation)
  pub after : new ≡ with_pair M C w n host x

pub record SendsPart {S : Type 0} (C : Copying S) (w : World S) (n index : ℕ) (r : Reply) (new : World S) : Type 0 where
  pub part : List ℕ
  pub node : OfNode w n (HasPart C index part)
  pub says : Says w (ImagePart node.x.generation index part) r new

pub record GetsPart {S : Type 0} (C : Copying S) (w : World S) (m n : ℕ) (r : Reply) (new : World S) : Type 0 where
  pub generation : ℕ
  pub index : ℕ
  pub part : List ℕ
  pub message : slice_get w.messages m ≡ Some (ImagePart generation index part)
  pub at : AtNode w n (λ x y. GotPart C index part x r y) new

-- pages of a node's machine are copied early; the protocol's machine has no pages, so how many are stale is left open
pub record Freshens {S : Type 0} (w : World S) (n : ℕ) (r : Reply) (new : World S) : Type 0 where
  pub x : Node S
  pub there : slice_get w.nodes n ≡ Some x
  pub stale : ℕ
  pub reply : r ≡ StaleIs stale
  pub after : new ≡ w

-- the disk answers with the sector that a node waits for
pub record Fetches {S : Type 0} (M : Machine S) (w : World S) (n : ℕ) (r : Reply) (new : World S) : Type 0 where
  pub address : SectorAddress
  pub node : OfNode w n (Wants M address)
  pub reply : r ≡ MessageIs (length w.messages)
  pub after : new ≡ with_read M w address

-- the answer arrives
pub record TakesFetched {S : Type 0} (w : World S) (m n : ℕ) (r : Reply) (new : World S) : Type 0 where
  pub address : SectorAddress
  pub number : ℕ
  pub bytes : List ℕ
  pub message : slice_get w.messages m ≡ Some (SectorRead address number bytes)
  pub at : AtNode w n (effect.Fetched bytes) new
  pub reply : r ≡ Taken

-- what each event does
abbrev pub Does : {S : Type 0} → Machine S → Copying S → World S → Event → Reply → World S → Type 0
Does M C w (Step n turns) r new = Steps M w n turns r new
Does M C w (TypeByte port byte) r new = TypesByte w port byte r new
Does M C w (TakeKey n port index) r new = TakesKey M w n port index r new
Does M C w (Send n index) r new = Sends w n index r new
Does M C w (DeliverLog m n) r new = DeliversLog w m n r new
Does M C w (Acknowledge n) r new = Acknowledges w n r new
Does M C w (DeliverAcknowledgement m n) r new = DeliversAcknowledgement w m n r new
Does M C w (Replay n turns) r new = ReplaysHeld M w n turns r new
Does M C w (Release n name) r new = Releases M w n name r new
Does M C w (Arrive m) r new = Arrives w m r new
Does M C w (TellSent n port number) r new = Takes M w n (input.Sent port) r new
Does M C w (Told n port) r new = Tells M w n port r new
Does M C w (Stop n) r new = Stops w n r new
Does M C w (Suspect n) r new = Suspects w n r new
Does M C w (Drain n turns) r new = Drains M w n turns r new
Does M C w (Put m) r new = Puts w m r new
Does M C w (PutReply m n) r new = TakesPutReply M w m n r new
Does M C w (Get n sector) r new = Gets M w n sector r new
Does M C w (GetReply m n) r new = TakesGetReply M w m n r new
Does M C w (BeginPair n host) r new = BeginsPair M C w n host r new
Does M C w (SendPart n index) r new = SendsPart C w n index r new
Does M C w (PartComes m n) r new = GetsPart C w m n r new
Does M C w (Freshen n pages) r new = Freshens w n r new
Does M C w (Fetch n) r new = Fetches M w n r new
Does M C w (Fetched m n) r new = TakesFetched w m n r new

-- the events that use the disk
abbrev pub is_disk : Event → Bool
is_disk (Put m) = true
is_disk (Get n sector) = true
is_disk (Fetch n) = true
is_disk e = false

-- ---- which events may need memory

-- a packet brings the entry that its node holds next
pub record BringsNext {S : Type 0} (w : World S) (m n : ℕ) : Type 0 where
  pub generation : ℕ
  pub index : ℕ
  pub e : Entry
  pub message : slice_get w.messages m ≡ Some (LogEntry generation index e)
  pub next : OfNode w n (NeedsEntry index)

-- a byte arrives that its terminal accepts
pub record BringsNextByte {S : Type 0} (w : World S) (m : ℕ) : Type 0 where
  pub port : ℕ
  pub number : ℕ
  pub byte : ℕ
  pub message : slice_get w.messages m ≡ Some (Released (Byte port number byte))
  pub next : number ≡ suc (length (accepted w port))

-- a part arrives with which its node has all of them
pub record BringsLastPart {S : Type 0} (w : World S) (m n : ℕ) : Type 0 where
  pub generation : ℕ
  pub index : ℕ
  pub part : List ℕ
  pub message : slice_get w.messages m ≡ Some (ImagePart generation index part)
  pub last : OfNode w n (NeedsPart index part)

-- what holds if an event is answered with out of memory: never for no turns, for moves whose first is not a step, for a
-- repeat or a packet past a gap, for a byte that is dropped, for a part that is not the last one, or for a winner that asks
-- again
abbrev pub MayNeedMemory : {S : Type 0} → Machine S → World S → Event → Type 0
MayNeedMemory M w (Step n turns) = 0 < turns
MayNeedMemory M w (DeliverLog m n) = BringsNext w m n
MayNeedMemory M w (DeliverAcknowledgement m n) = ⊥
MayNeedMemory M w (Replay n turns) = OfNode w n (NeedsMoves M turns)
MayNeedMemory M w (Arrive m) = BringsNextByte w m
MayNeedMemory M w (Told n port) = ⊥
MayNeedMemory M w (Stop n) = ⊥
MayNeedMemory M w (Suspect n) = OfNode w n (λ x. winner_in w.winners x.generation ≡ None)
MayNeedMemory M w (Drain n turns) = OfNode w n (NeedsMoves M turns)
MayNeedMemory M w (PartComes m n) = BringsLastPart w m n
MayNeedMemory M w (Fetched m n) = ⊥
MayNeedMemory M w e = Unit {0}
