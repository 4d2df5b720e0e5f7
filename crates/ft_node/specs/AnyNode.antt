-- Which node of the protocol a node is, in whatever role, and what its calls require.
use Rattle.std.specs.Prelude.{◌≡◌, ℕ, ◌-◌, Bool, true, false, Option, Some, None, is_some, List, [], Result, Ok, Err}
use Rattle.clone_state.specs.Assembly.{after_forgetting, gathered, machine_in}
use Rattle.clone_state.specs.Copies.{refused_as}
use Rattle.clone_state.specs.Parts.{guest_in}
use Rattle.clone_state.specs.Stale.{AreCopied, stale_count}
use Rattle.guest_parts.specs.Guest.{Guest}
use Rattle.guest_lockstep.specs.Machine.{Machine}
use Rattle.guest_lockstep.specs.Outstanding.{IsFrugal}
use Rattle.guest_lockstep.specs.Pages.{every_page}
use Rattle.guest_lockstep.specs.declared.input.Input.{Input}
use Rattle.i8080_words.specs.declared.refusal.Fault.{Fault}
use Rattle.log_buffer.specs.Log.{kept}
use Rattle.log_buffer.specs.Logs.{room_answer}
use Rattle.log_channel.specs.Channel as channel
use Rattle.log_entry.specs.Standing.{IsOnTrace}
use Rattle.log_entry.specs.declared.entry.Entry.{Entry}
use Rattle.pair_protocol.specs.Copying.{Copying}
use Rattle.pair_protocol.specs.Node.{Node, Primary, Backup, Joining, Draining, Alone}
use Rattle.recorder.specs.Recording.{IsDue}
use Rattle.ft_node.specs.Joined.{Joined}
use Rattle.ft_node.specs.Pages.{PagesGoOn, SamePages}
use Rattle.ft_node.specs.Roles.{HasImage, IsPrimary, IsFollower, IsJoining, IsAlone, IsHalted}
use Rattle.ft_node.specs.declared.ran.PartCame.{PartCame}
use Rattle.ft_node.specs.declared.ran.PartCame.TheVariants as came
use Rattle.ft_node.specs.declared.node.Node as code
use Rattle.ft_node.specs.declared.node.Node.TheVariants as node
use Rattle.pair_events.specs.declared.reply.Role as shown
use Rattle.pair_events.specs.declared.reply.Role.TheVariants as role

-- the node of the protocol that a node is, for this copying of its machine and this many drives
abbrev pub IsNode : {B S : Type 0} {H : Type 0} → (B → S) → Machine S → Copying S → ℕ → code.Node B H → Node S → Type 0
IsNode state M C drives (node.Primary p) x =
    IsPrimary M (HasImage C p.sender.generation p.image) p.recorder.reads (state p.recorder.board) p.recorder.log p.sender
    p.coverage x
IsNode state M C drives (node.Backup b) x =
    IsFollower Backup b.reads (state b.replayer.board) b.replayer.fetched b.receiver x
IsNode state M C drives (node.Joining j) x = IsJoining C drives j x
IsNode state M C drives (node.Draining d) x =
    IsFollower Draining d.reads (state d.draining.replayer.board) d.draining.replayer.fetched d.draining.receiver x
IsNode state M C drives (node.Alone a) x = IsAlone a.recorder.reads (state a.recorder.board) a.generation x
IsNode state M C drives (node.Halted h) x = IsHalted M h.generation h.count x

-- ---- a node that takes input

-- its guest
abbrev pub board_of : {B : Type 0} {H : Type 0} → code.Node B H → Option B
board_of (node.Primary p) = Some p.recorder.board
board_of (node.Backup b) = None
board_of (node.Joining j) = None
board_of (node.Draining d) = None
board_of (node.Alone a) = Some a.recorder.board
board_of (node.Halted h) = None

-- what its log answers to one more entry; only a primary has a log
abbrev pub room_of : {B : Type 0} {H : Type 0} → code.Node B H → Result (Unit {0}) Fault
room_of (node.Primary p) = room_answer kept p.recorder.log
room_of (node.Backup b) = Ok tt
room_of (node.Joining j) = Ok tt
room_of (node.Draining d) = Ok tt
room_of (node.Alone a) = Ok tt
room_of (node.Halted h) = Ok tt

-- ---- a node that is alone

-- its guest
abbrev pub alone_board : {B : Type 0} {H : Type 0} → code.Node B H → Option B
alone_board (node.Primary p) = None
alone_board (node.Backup b) = None
alone_board (node.Joining j) = None
alone_board (node.Draining d) = None
alone_board (node.Alone a) = Some a.recorder.board
alone_board (node.Halted h) = None

-- this many pages of its guest are stale, once the lowest of them, at most `pages`, were copied
pub record AreFreshened {B : Type 0} {H : Type 0} (stale : B → ℕ → Bool) (pages left : ℕ)
    (old new : code.Node B H) : Type 0 where
  pub before : B
  pub was : alone_board old ≡ Some before
  pub after : B
  pub is : alone_board new ≡ Some after
  pub fewer : left ≡ stale_count (stale before) - pages
  pub left_are : left ≡ stale_count (stale after)
  pub lowest : AreCopied pages (stale before) (stale after)

-- only a draft that begins needs memory
abbrev pub NoneCopied : {B : Type 0} {H : Type 0} → (B → ℕ → Bool) → code.Node B H → Type 0
NoneCopied {B} stale node = (board : B) → alone_board node ≡ Some board → stale board ≡ every_page

-- its stale pages are the same
abbrev pub PagesStay : {B : Type 0} {H : Type 0} → (B → ℕ → Bool) → code.Node B H → code.Node B H → Type 0
PagesStay stale old new = PagesGoOn stale (SamePages stale) (alone_board old) (alone_board new)

-- ---- what the calls of a node require, or are exact with

-- nothing refuses an input: the guest awaits it, and a log has room for its entry
pub record MayAccept {B S : Type 0} {H : Type 0} (state : B → S) (M : Machine S) (node : code.Node B H) (i : Input) : Type 0 where
  pub board : B
  pub takes : board_of node ≡ Some board
  pub due : IsDue M (state board) i
  pub room : room_of node ≡ Ok tt

-- an entry is the next one of a backup's log, and an index is left for it
abbrev pub MayHold : {B : Type 0} {H : Type 0} → code.Node B H → Entry → Type 0
MayHold (node.Primary p) e = ⊥
MayHold (node.Backup b) e = channel.MayHold b.receiver e
MayHold (node.Joining j) e = ⊥
MayHold (node.Draining d) e = ⊥
MayHold (node.Alone a) e = ⊥
MayHold (node.Halted h) e = ⊥

-- a primary's coverage has room for the note of each operation, wherever the guest goes, since few operations are
-- outstanding
abbrev pub MayRun : {B S : Type 0} {H : Type 0} → (B → S) → Machine S → code.Node B H → Type 0
MayRun state M (node.Primary p) = IsFrugal M (state p.recorder.board)
MayRun state M (node.Backup b) = Unit {0}
MayRun state M (node.Joining j) = Unit {0}
MayRun state M (node.Draining d) = Unit {0}
MayRun state M (node.Alone a) = Unit {0}
MayRun state M (node.Halted h) = Unit {0}

-- what a backup or a draining node holds are the next entries of a recorded run
abbrev pub MayReplay : {B S : Type 0} {H : Type 0} → (B → S) → Machine S → code.Node B H → Type 0
MayReplay state M (node.Primary p) = Unit {0}
MayReplay state M (node.Backup b) = IsOnTrace M (state b.replayer.board) b.receiver.entries b.replayer.fetched
MayReplay state M (node.Joining j) = Unit {0}
MayReplay state M (node.Draining d) =
    IsOnTrace M (state d.draining.replayer.board) d.draining.receiver.entries d.draining.replayer.fetched
MayReplay state M (node.Alone a) = Unit {0}
MayReplay state M (node.Halted h) = Unit {0}

-- ---- what a node becomes

-- what a joining node becomes with the last part: a backup of this generation with the guest that the parts make, which
-- holds nothing yet; if they make none, it is as it was without the part
abbrev pub Becomes : {B H : Type 0} → (B → Guest) → List ℕ → Joined → Result PartCame Fault → code.Node B H → Type 0
Becomes copied bytes j (Ok part) (node.Backup b) =
    (part ≡ came.Whole) × (machine_in j.gathering ≡ Some (copied b.replayer.board))
    × (b.receiver ≡ record { generation = j.gathering.generation; held = 0; entries = [] })
    × (b.replayer.fetched ≡ None) × (b.reads ≡ j.reads)
Becomes copied bytes j (Err fault) (node.Joining k) =
    (k ≡ record j { gathering = after_forgetting j.gathering bytes })
    × (fault ≡ refused_as (λ parts. is_some (guest_in j.gathering.drives parts)) (gathered j.gathering.slots))
Becomes copied bytes j _ _ = ⊥

-- ---- what a node shows

-- the role of a node of the protocol, as a node shows it
abbrev pub IsRole : {S : Type 0} → Node S → shown.Role → Type 0
IsRole x role.Primary = (x.running ≡ true) × (x.role ≡ Primary)
IsRole x role.Backup = (x.running ≡ true) × (x.role ≡ Backup)
IsRole x role.Joining = (x.running ≡ true) × (x.role ≡ Joining)
IsRole x role.Draining = (x.running ≡ true) × (x.role ≡ Draining)
IsRole x role.Alone = (x.running ≡ true) × (x.role ≡ Alone)
IsRole x role.Halted = x.running ≡ false
