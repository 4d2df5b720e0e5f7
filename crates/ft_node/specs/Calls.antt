-- What each call of a node returns and leaves, from the node of the protocol before the call: the refusal of the event's
-- node part, or what its row says of the node.
use Rattle.std.specs.Prelude.{◌≡◌, ◌≢◌, ℕ, suc, ◌<◌, ◌^◌, Bool, true, Option, Some, None, is_none, List, [], ◌∷◌, length, replicate, slice_index_or, unwrap_or, ◌==◌, nat_le, if◌then◌else◌, Result, Ok, Err}
use Rattle.std.specs.Global.{Vec}
use Rattle.disk_dcdd.specs.declared.address.SectorAddress.{SectorAddress}
use Rattle.event_callbacks.specs.declared.devices.TheConstants.{PORTS}
use Rattle.event_callbacks.specs.declared.operations.OpId.{OpId}
use Rattle.event_callbacks.specs.declared.operations.Operation.{Operation}
use Rattle.guest_lockstep.specs.Machine.{Machine}
use Rattle.guest_lockstep.specs.declared.input.Input.{Input}
use Rattle.guest_lockstep.specs.declared.reads.Reads.{Reads}
use Rattle.guest_lockstep.specs.declared.reads.Reads.TheVariants.{Logged, Shared}
use Rattle.i8080_words.specs.declared.refusal.Fault.{Fault}
use Rattle.i8080_words.specs.declared.refusal.Fault.TheVariants.{OutOfMemory, Malformed, Lost, Spent}
use Rattle.log_entry.specs.declared.entry.Entry.{Entry}
use Rattle.log_channel.specs.Packet.{packet_bytes, IsPacket}
use Rattle.log_channel.specs.declared.packet.Packet.{Packet}
use Rattle.log_channel.specs.declared.packet.Packet.TheVariants.{Log, Ack}
use Rattle.arbiter_core.specs.Winners.{winner_of, after_asking}
use Rattle.arbiter_core.specs.declared.arbiter.Asking.{Asking}
use Rattle.arbiter_core.specs.declared.arbiter.Won.{Won}
use Rattle.clone_state.specs.Image.{part_bytes}
use Rattle.clone_state.specs.Parts.{PartMessage}
use Rattle.guest_lockstep.specs.Reach.{keys}
use Rattle.pair_protocol.specs.Copying.{Copying}
use Rattle.pair_protocol.specs.Effects as effect
use Rattle.pair_protocol.specs.Effects.{Stepped, Took, Held, Heard, Replayed, Drained, Halted, GotPart, HasEntry, HasOutstanding, HasCovered, HasPart, IsUnder, Wants, NeedsMoves, NeedsEntry}
use Rattle.pair_protocol.specs.Reply as event
use Rattle.pair_protocol.specs.Node.{Node, Role, Primary, Backup, Joining, begun, gathered, gets_part, halts, holds, wins}
use Rattle.pair_protocol.specs.Refusals as refusals
use Rattle.ft_node.specs.declared.ran.Ran.{Ran}
use Rattle.ft_node.specs.declared.ran.Drained as ran
use Rattle.ft_node.specs.declared.ran.NextGeneration.{NextGeneration}
use Rattle.ft_node.specs.declared.ran.PartCame.{PartCame}
use Rattle.ft_node.specs.declared.ran.PartCame.TheVariants as came
use Rattle.replayer.specs.declared.replayer.Replayed as replayer

-- if something refuses a call, that is the result and the node stays; if not, this is what the call does
abbrev pub Unless : {A : Type 0} → Option Fault → Result A Fault → Type 0 → Type 0 → Type 0
Unless (Some fault) result stays does = (result ≡ Err fault) × stays
Unless None result stays does = does

-- what a call gives if there is memory; if not, it is out of memory, and this holds
abbrev pub Gives : {A : Type 0} → Result A Fault → Type 0 → (A → Type 0) → Type 0
Gives (Ok value) needs does = does value
Gives (Err fault) needs does = (fault ≡ OutOfMemory) × needs

-- a node becomes another one
pub record Makes {S : Type 0} (x : Node S) (does : Node S → Node S → Type 0) (Is : Node S → Type 0) : Type 0 where
  pub y : Node S
  pub done : does x y
  pub after : Is y

-- a call of a node: it is refused, or is out of memory at a node for which this holds, and the node stays; or it gives a
-- value, and the node becomes another one
abbrev pub Call : {A S : Type 0} → Option Fault → (Node S → Type 0) → (A → Node S → Node S → Type 0) → Node S
    → Result A Fault → (Node S → Type 0) → Type 0
Call refusal needs does x result Is =
    Unless refusal result (Is x) (Gives result (needs x × Is x) (λ value. Makes x (does value) Is))

-- a call that only asks: it is refused, or is out of memory at a node for which this holds, or gives a value
abbrev pub Ask : {A S : Type 0} → Option Fault → (Node S → Type 0) → (A → Node S → Type 0) → Node S → Result A Fault
    → Type 0
Ask refusal needs says x result = Unless refusal result (Unit {0}) (Gives result (needs x) (λ value. says value x))

-- no node at which a call is out of memory, and any node
abbrev pub Never : {S : Type 0} → Node S → Type 0
Never x = ⊥

abbrev pub Ever : {S : Type 0} → Node S → Type 0
Ever x = Unit {0}

-- ---- the calls; `Is` says which node of the protocol the node is after the call

-- a node that begins: nothing of its generation is logged, held, acknowledged or noted, no key is covered, and there is
-- no image
pub record Begins {S : Type 0} (M : Machine S) (role : Role) (generation : ℕ) (reads : Reads) (s : S)
    (x : Node S) : Type 0 where
  pub role_is : x.role ≡ role
  pub up : x.running ≡ true
  pub generation_is : x.generation ≡ generation
  pub reads_are : x.reads ≡ reads
  pub machine : x.machine ≡ s
  pub no_log : x.log ≡ []
  pub covered : x.covered ≡ 0
  pub reported : x.reported ≡ 0
  pub notes : x.notes ≡ []
  pub no_held : x.held ≡ []
  pub replayed : x.replayed ≡ 0
  pub no_fetched : x.fetched ≡ None
  pub no_copy : x.copy ≡ []
  pub no_image : x.image ≡ None

-- a node that joins, to be given the copy of a machine that has made this many steps: no part has arrived
pub record Joins {S : Type 0} (C : Copying S) (generation count : ℕ) (reads : Reads) (x : Node S) : Type 0 where
  pub role_is : x.role ≡ Joining
  pub up : x.running ≡ true
  pub generation_is : x.generation ≡ generation
  pub reads_are : x.reads ≡ reads
  pub start_is : x.start ≡ count
  pub no_parts : x.parts ≡ replicate C.part_count None
  pub no_held : x.held ≡ []
  pub replayed : x.replayed ≡ 0
  pub no_fetched : x.fetched ≡ None

-- steps of the machine
abbrev pub SteppedBy : {S : Type 0} → Machine S → ℕ → Ran → Node S → Node S → Type 0
SteppedBy M turns ran x y = Stepped M turns ran.steps ran.count ran.why x y

abbrev pub Steps : {S : Type 0} → Machine S → ℕ → Node S → Result Ran Fault → (Node S → Type 0) → Type 0
Steps M turns x result Is =
    Call (refusals.step_refusal M turns x) (λ x. 0 < turns) (SteppedBy M turns) x result Is

-- an input that is taken; it needs no memory
abbrev pub Takes : {S : Type 0} → Machine S → Input → Option Fault → Node S → Result (Unit {0}) Fault
    → (Node S → Type 0) → Type 0
Takes M i refusal x result Is = Call refusal Never (λ done. Took M i) x result Is

-- bytes that spell a packet
abbrev pub IsSpelled : Packet → Vec ℕ → Type 0
IsSpelled packet bytes = IsPacket packet × (bytes.items ≡ packet_bytes packet)

-- the packet of a log entry
pub record SendsEntry {S : Type 0} (index : ℕ) (x : Node S) (bytes : Vec ℕ) : Type 0 where
  pub e : Entry
  pub entry : HasEntry index e x
  pub spelled : IsSpelled (Log x.generation index e) bytes

abbrev pub Sends : {S : Type 0} → ℕ → Node S → Result (Vec ℕ) Fault → Type 0
Sends index x result =
    Ask (refusals.send_refusal index x) Ever (λ bytes x. SendsEntry index x bytes) x result

-- a packet of the log arrives; it is out of memory only if this holds of the index and the node
abbrev pub DeliversLog : {S : Type 0} → (ℕ → Node S → Type 0) → Option Packet → Node S → Result Bool Fault
    → (Node S → Type 0) → Type 0
DeliversLog needs (Some (Log generation index e)) x result Is =
    Call (refusals.deliver_log_refusal generation x) (needs index) (Held index e) x result Is
DeliversLog needs _ x result Is =
    Unless (refusals.first_of (refusals.role_refusal (Backup ∷ []) x ∷ Some Malformed ∷ [])) result (Is x) ⊥

-- the next entry may need memory if another is held and not replayed
abbrev pub NeedsRoom : {S : Type 0} → ℕ → Node S → Type 0
NeedsRoom index x = NeedsEntry index x × (x.replayed < length x.held)

-- the entry of a packet that would be held
abbrev pub Expects : {S : Type 0} → Option Packet → Node S → Result (Option Entry) Fault → Type 0
Expects (Some (Log generation index e)) x result =
    Ask (refusals.deliver_log_refusal generation x) Never (λ next x. next ≡ (if index == length x.held then Some e else None)) x
    result
Expects _ x result =
    Unless (refusals.first_of (refusals.role_refusal (Backup ∷ []) x ∷ Some Malformed ∷ [])) result (Unit {0}) ⊥

-- the next entry is held, or memory ran out, which is needed only if another entry is held and not replayed
abbrev pub Holds : {S : Type 0} → Entry → Node S → Result (Unit {0}) Fault → (Node S → Type 0) → Type 0
Holds e x result Is = Call None (λ x. x.replayed < length x.held) (λ done x y. y ≡ holds x e) x result Is

-- how many entries a backup's packet reports as replayed: only if its log leaves sectors to the shared disk
abbrev pub reported_by : Reads → ℕ → Option ℕ
reported_by Logged replayed = None
reported_by Shared replayed = Some replayed

-- the packet that acknowledges all that is held
abbrev pub Acknowledges : {S : Type 0} → Node S → Result (Vec ℕ) Fault → Type 0
Acknowledges x result =
    Ask (refusals.acknowledge_refusal x) Ever (λ bytes x. IsSpelled (Ack x.generation (length x.held) (reported_by x.reads x.replayed)) bytes) x result

-- an acknowledgement arrives; one without a report reports 0 as replayed
abbrev pub DeliversAcknowledgement : {S : Type 0} → Option Packet → Node S → Result ℕ Fault → (Node S → Type 0) → Type 0
DeliversAcknowledgement (Some (Ack generation held replayed)) x result Is =
    Call (refusals.deliver_acknowledgement_refusal generation held x) Never (Heard held (unwrap_or replayed 0)) x result Is
DeliversAcknowledgement _ x result Is =
    Unless (refusals.first_of (refusals.role_refusal (Primary ∷ []) x ∷ Some Malformed ∷ [])) result (Is x) ⊥

-- moves of a backup, from the entries that it holds
abbrev pub ReplayedBy : {S : Type 0} → Machine S → ℕ → replayer.Replayed → Node S → Node S → Type 0
ReplayedBy M turns r x y = Replayed M turns r.moves r.why x y

abbrev pub Replays : {S : Type 0} → Machine S → ℕ → Node S → Result replayer.Replayed Fault → (Node S → Type 0)
    → Type 0
Replays M turns x result Is = Call (refusals.replay_refusal x) (NeedsMoves M turns) (ReplayedBy M turns) x result Is

-- moves of a draining node; with nothing left to replay it is alone
abbrev pub DrainedBy : {S : Type 0} → Machine S → ℕ → ran.Drained → Node S → Node S → Type 0
DrainedBy M turns d x y = Drained M turns d.moves d.why x y

abbrev pub Drains : {S : Type 0} → Machine S → ℕ → Node S → Result ran.Drained Fault → (Node S → Type 0) → Type 0
Drains M turns x result Is = Call (refusals.drain_refusal x) (NeedsMoves M turns) (DrainedBy M turns) x result Is

-- the sector for whose bytes a replaying node waits, and those bytes
abbrev pub Wanted : {S : Type 0} → Machine S → Node S → Result SectorAddress Fault → Type 0
Wanted M x result = Ask (refusals.fetch_refusal M x) Never (Wants M) x result

abbrev pub Fetches : {S : Type 0} → Machine S → SectorAddress → ℕ → List ℕ → Node S → Result (Unit {0}) Fault
    → (Node S → Type 0) → Type 0
Fetches M address number bytes x result Is =
    Call (refusals.fetched_refusal M address number x) Never (λ done. effect.Fetched bytes) x result Is

-- an outstanding operation is released
abbrev pub Releases : {S : Type 0} → Machine S → OpId → Node S → Result Operation Fault → Type 0
Releases M name x result = Ask (refusals.release_refusal M name x) Never (HasOutstanding M name) x result

-- how many keys are covered
abbrev pub Tells : {S : Type 0} → Machine S → ℕ → Node S → Result ℕ Fault → Type 0
Tells M port x result = Ask (refusals.told_refusal x) Never (HasCovered M port) x result

-- the sector with a number, at the selected drive
abbrev pub Gets : {S : Type 0} → Machine S → ℕ → Node S → Result SectorAddress Fault → Type 0
Gets M sector x result = Ask (refusals.get_refusal M x) Never (IsUnder M sector) x result

-- a node halts
abbrev pub Stops : {S : Type 0} → Node S → Result (Unit {0}) Fault → (Node S → Type 0) → Type 0
Stops x result Is = Call (refusals.stop_refusal x) Never (λ done. Halted) x result Is

-- a node asks for its generation: the first has won, a winner that asks again has won, and any other is halted
abbrev pub SuspectsOf : {S : Type 0} → Option ℕ → List Asking → ℕ → Node S → Result Won Fault → List Asking
    → (Node S → Type 0) → Type 0
SuspectsOf None old n x (Ok won) new Is = (new ≡ after_asking old x.generation n) × Is (wins x)
SuspectsOf None old n x (Err fault) new Is = (fault ≡ OutOfMemory) × (new ≡ old) × Is x
SuspectsOf (Some winner) old n x (Ok won) new Is = (winner ≡ n) × (new ≡ old) × Is x
SuspectsOf (Some winner) old n x (Err fault) new Is = (winner ≢ n) × (fault ≡ Lost) × (new ≡ old) × Is (halts x)

abbrev pub Suspects : {S : Type 0} → List Asking → ℕ → Node S → Result Won Fault → List Asking → (Node S → Type 0)
    → Type 0
Suspects old n x result new Is =
    Unless (refusals.suspect_refusal x) result (Is x × (new ≡ old))
    (SuspectsOf (winner_of old x.generation) old n x result new Is)

-- ---- a generation that begins with a copied machine

-- the machine has taken the keys of the node's list, at each port
abbrev pub HasTakenKeys : {S : Type 0} → Machine S → Node S → Type 0
HasTakenKeys M x = (port : ℕ) → port < PORTS → M.keys x.machine port ≡ length (keys port x.list)

-- the next generation, for a machine of this many drives
pub record IsNext {S : Type 0} (drives : ℕ) (next : NextGeneration) (x : Node S) : Type 0 where
  pub generation : next.generation ≡ suc x.generation
  pub drives_are : next.drives ≡ drives
  pub reads_are : next.reads ≡ x.reads

-- the generation after this one, unless this is the greatest
abbrev pub next_after : ℕ → ℕ → Reads → Result NextGeneration Fault
next_after generation drives reads =
    if nat_le refusals.last_generation generation then Err Spent
    else Ok (record { generation = suc generation; drives = drives; reads = reads })

abbrev pub MayBegin : {S : Type 0} → ℕ → Node S → Result NextGeneration Fault → Type 0
MayBegin drives x result = Ask (refusals.begin_pair_refusal x) Never (IsNext drives) x result

-- an alone node is the primary of the next generation, with an image of its machine and an empty log
abbrev pub Begun : {S : Type 0} → Machine S → ℕ → Node S → Node S → Type 0
Begun M generation x y = (generation ≡ suc x.generation) × (y ≡ begun M x)

abbrev pub BeginsPair : {S : Type 0} → Machine S → Node S → Result ℕ Fault → (Node S → Type 0) → Type 0
BeginsPair M x result Is = Call (refusals.begin_pair_refusal x) Ever (Begun M) x result Is

-- pages are copied early: the node of the protocol stays as it was
abbrev pub Freshens : {S : Type 0} → Node S → Result ℕ Fault → (Node S → Type 0) → Type 0
Freshens x result Is = Call (refusals.freshen_refusal x) Ever (λ left x y. y ≡ x) x result Is

-- a part of a primary's image, as the bytes of a message, in a generation that a message has room for
pub record SpellsPart {S : Type 0} (C : Copying S) (index : ℕ) (x : Node S) (bytes : Vec ℕ) : Type 0 where
  pub part : List ℕ
  pub has : HasPart C index part x
  pub first : 0 < x.generation
  pub within : x.generation < 2 ^ 32
  pub spelled : bytes.items ≡ part_bytes x.generation index part

abbrev pub SendsPart : {S : Type 0} → Copying S → ℕ → Node S → Result (Vec ℕ) Fault → Type 0
SendsPart C index x result =
    Ask (refusals.send_part_refusal C index x) Ever (λ bytes x. SpellsPart C index x bytes) x result

-- the reply to a part
abbrev pub part_reply : PartCame → event.Reply
part_reply came.New = event.New
part_reply came.Old = event.Old
part_reply came.Whole = event.Whole

-- all parts that arrived, with this one
abbrev pub parts_with : {S : Type 0} → PartMessage → Node S → Option (List (List ℕ))
parts_with m x = gathered (gets_part x m.index m.payload).parts

-- parts that make no machine together are refused at the last one; no pair is given such parts
abbrev pub unfit : {S : Type 0} → Copying S → Option (List (List ℕ)) → Option Fault
unfit C None = None
unfit C (Some parts) = refusals.fault_if (is_none (C.assemble parts)) Malformed

abbrev pub last_refusal : {S : Type 0} → Copying S → PartMessage → Node S → Option (List ℕ) → Option Fault
last_refusal C m x None = unfit C (parts_with m x)
last_refusal C m x (Some before) = None

abbrev pub part_refusal : {S : Type 0} → Copying S → PartMessage → Node S → Option Fault
part_refusal C m x =
    refusals.first_of
    (refusals.part_comes_refusal m.generation x ∷ last_refusal C m x (slice_index_or x.parts m.index None) ∷ [])

-- only the last part needs memory, for the machine
abbrev pub IsLast : {S : Type 0} → PartMessage → Node S → Type 0
IsLast m x = (parts : List (List ℕ)) × (parts_with m x ≡ Some parts)

abbrev pub GetsPart : {S : Type 0} → Copying S → Option PartMessage → Node S → Result PartCame Fault
    → (Node S → Type 0) → Type 0
GetsPart C None x result Is =
    Unless (refusals.first_of (refusals.role_refusal (Joining ∷ []) x ∷ Some Malformed ∷ [])) result (Is x) ⊥
GetsPart C (Some m) x result Is =
    Call (part_refusal C m x) (IsLast m) (λ part x y. GotPart C m.index m.payload x (part_reply part) y) x result Is
