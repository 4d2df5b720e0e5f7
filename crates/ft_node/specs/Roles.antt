-- What the fields of a node in each role say of its node of the protocol.
use Rattle.std.specs.Option.{option_map}
use Rattle.std.specs.Prelude.{◌≡◌, ℕ, ◌<◌, ◌≤◌, true, false, Option, Some, None, All, List, [], length, drop, slice_index}
use Rattle.ft_node.specs.Kept.{ImageParts}
use Rattle.event_callbacks.specs.declared.devices.TheConstants.{PORTS}
use Rattle.event_callbacks.specs.declared.operations.OpId.{OpId}
use Rattle.event_callbacks.specs.declared.operations.Operation.{Operation}
use Rattle.guest_lockstep.specs.Machine.{Machine}
use Rattle.log_entry.specs.Spelling.{IsEntry}
use Rattle.log_buffer.specs.Log.{Log, log}
use Rattle.log_channel.specs.Channel.{Receiving, Sending}
use Rattle.output_rule.specs.Covering.{Covering}
use Rattle.guest_lockstep.specs.declared.reads.Reads.{Reads}
use Rattle.output_rule.specs.Notes.{note_in}
use Rattle.output_rule.specs.declared.notes.Note as notes
use Rattle.pair_protocol.specs.Copying.{Copying}
use Rattle.pair_protocol.specs.Node.{Node, Note, Role, Primary, Backup, Joining, Draining, Alone, Spare, note_of, keys_covered}
use Rattle.pair_protocol.specs.Waiting.{reads_in}
use Rattle.ft_node.specs.Joined.{Joined}

-- only outstanding operations have notes
abbrev pub AreOfOutstanding : {S : Type 0} → Machine S → S → Covering → Type 0
AreOfOutstanding M s c =
    (name : OpId) (note : notes.Note) → note_in c.notes name ≡ Some note → (o : Operation) × (M.find s name ≡ Some o)

-- what an operation waits for, by its note: the index of its mark, and how many entries must be replayed
abbrev pub waits_in : Option Note → Option (ℕ × ℕ)
waits_in note = option_map (λ (n : Note). (n.index, n.after)) note

abbrev pub waits_of : List notes.Note → OpId → Option (ℕ × ℕ)
waits_of list name = option_map (λ (n : notes.Note). (n.index, n.after)) (note_in list name)

-- what a coverage knows of a primary: how far its log is acknowledged and replayed, where the last read is in the log,
-- which keys are covered by that, and the notes of exactly those outstanding operations that have one
pub record Covers {S : Type 0} (M : Machine S) (c : Covering) (x : Node S) : Type 0 where
  pub acknowledged : c.acknowledged ≡ x.covered
  pub reported : c.reported ≡ x.reported
  pub last_read : c.last_read ≡ reads_in x.log
  pub waits : c.all ≡ false
  pub keys : (port : ℕ) → port < PORTS → slice_index c.keys port ≡ keys_covered M x port Primary
  pub noted : (name : OpId) (o : Operation) → M.find x.machine name ≡ Some o
      → waits_of c.notes name ≡ waits_in (note_of x.notes name)
  pub outstanding : AreOfOutstanding M x.machine c

-- a kept image is of this machine: it has the machine's parts, for the generation that it begins
pub record IsImageOf {S : Type 0} (C : Copying S) (generation : ℕ) (kept : ImageParts) (image : Option S)
    : Type 0 where
  pub s : S
  pub there : image ≡ Some s
  pub begins : kept.generation ≡ generation
  pub parts : kept.parts ≡ C.parts s

-- the image that a primary keeps, if it keeps one
abbrev pub HasImage : {S : Type 0} → Copying S → ℕ → Option ImageParts → Option S → Type 0
HasImage C generation None image = image ≡ None
HasImage C generation (Some kept) image = IsImageOf C generation kept image

-- a primary with this guest, this log, its end of the channel and its coverage, whose log carries sectors as `reads`
-- says, and of whose image `Keeps` holds; the log keeps the entries that are not acknowledged
pub record IsPrimary {S : Type 0} (M : Machine S) (Keeps : Option S → Type 0) (reads : Reads) (s : S) (l : Log)
    (sending : Sending) (c : Covering) (x : Node S) : Type 0 where
  pub role : x.role ≡ Primary
  pub up : x.running ≡ true
  pub generation : x.generation ≡ sending.generation
  pub reads_are : x.reads ≡ reads
  pub machine : x.machine ≡ s
  pub kept : l ≡ log x.covered (drop x.covered x.log)
  pub within : x.covered ≤ length x.log
  pub entries : All IsEntry l.entries
  pub acknowledged : sending.held ≡ x.covered
  pub told : sending.replayed ≡ x.reported
  pub covers : Covers M c x
  pub image : Keeps x.image

-- a backup or a draining node with this guest, the bytes that have arrived for its next entry, and its end of the
-- channel; its log carries sectors as `reads` says, and what it has not replayed is still held
pub record IsFollower {S : Type 0} (role : Role) (reads : Reads) (s : S) (fetched : Option (List ℕ)) (r : Receiving)
    (x : Node S) : Type 0 where
  pub role_is : x.role ≡ role
  pub up : x.running ≡ true
  pub generation : x.generation ≡ r.generation
  pub reads_are : x.reads ≡ reads
  pub machine : x.machine ≡ s
  pub come : x.fetched ≡ fetched
  pub held : length x.held ≡ r.held
  pub left : r.entries ≡ drop x.replayed x.held
  pub within : x.replayed ≤ length x.held

-- an alone node with this guest, whose next generation's log carries sectors as `reads` says
pub record IsAlone {S : Type 0} (reads : Reads) (s : S) (generation : ℕ) (x : Node S) : Type 0 where
  pub role : x.role ≡ Alone
  pub up : x.running ≡ true
  pub generation_is : x.generation ≡ generation
  pub reads_are : x.reads ≡ reads
  pub machine : x.machine ≡ s

-- a joining node, with the parts that arrived of an image for this many drives; it holds nothing yet
pub record IsJoining {S : Type 0} (C : Copying S) (drives : ℕ) (j : Joined) (x : Node S) : Type 0 where
  pub role : x.role ≡ Joining
  pub up : x.running ≡ true
  pub generation_is : x.generation ≡ j.gathering.generation
  pub reads_are : x.reads ≡ j.reads
  pub drives_are : j.gathering.drives ≡ drives
  pub parts_are : x.parts ≡ j.gathering.slots
  pub many : length j.gathering.slots ≡ C.part_count
  pub start : x.start ≡ j.count
  pub no_held : x.held ≡ []
  pub none_replayed : x.replayed ≡ 0
  pub none_come : x.fetched ≡ None

-- how many steps a node's machine has made; of a joining node, the machine that is copied
abbrev pub node_count : {S : Type 0} → Machine S → Node S → Role → ℕ
node_count M x Primary = M.count x.machine
node_count M x Backup = M.count x.machine
node_count M x Joining = x.start
node_count M x Draining = M.count x.machine
node_count M x Alone = M.count x.machine
node_count M x Spare = M.count x.machine

-- a node that halted at this count, in whatever role
pub record IsHalted {S : Type 0} (M : Machine S) (generation count : ℕ) (x : Node S) : Type 0 where
  pub down : x.running ≡ false
  pub generation_is : x.generation ≡ generation
  pub count_is : node_count M x x.role ≡ count
