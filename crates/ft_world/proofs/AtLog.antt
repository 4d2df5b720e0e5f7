-- A log entry arrives at a backup, and an acknowledgement at a primary. The bytes of a message spell one packet, so the
-- node does with it what the row says of the entry or the acknowledgement that was sent; a message of another kind brings
-- neither, and is unknown.
use Rattle.ft_world.proofs.Words.{Agree, Applies, Call, Course, DeliversAcknowledgement, DeliversLog, Entry, Fault, Guest, Heard, Held, Host, IsMessage, Machine, Message, NeedsEntry, Never, Node, Record, Reply, Running, Shows, Unknown, ack_of, at_acknowledgement, at_log_entry, deliver_acknowledgement_refusal, deliver_log_refusal, log_of, reply_of, same_some}
use Rattle.std.proofs.Common.{◌≡◌, ◌∙◌, Bool, Err, List, None, Ok, Some, ap, cond, false, refl, subst, true, ℕ}
use Rattle.std.specs.Option.{option_and_then}
use Rattle.std.specs.Prelude.{Option, Result, slice_get, unwrap_or}
use Rattle.log_channel.specs.Packet.{packet_at}
use Rattle.log_channel.specs.declared.packet.Packet.TheVariants as packet
use Rattle.pair_protocol.specs.Reply as protocol
use Rattle.pair_protocol.specs.World as world
use Rattle.ft_world.proofs.AtHosts.{AtHost}
use Rattle.pair_events.specs.declared.event.Event.TheVariants as event
use Rattle.pair_events.specs.declared.reply.Reply.TheVariants as reply
use Rattle.ft_world.specs.declared.message.Message.TheVariants as message
use Rattle.ft_world.proofs.Applying.{refuses}
use Rattle.ft_world.proofs.AtOneNode.{node_applies, node_refused}
use Rattle.ft_world.proofs.Keeping.{heard_kept, held_stays, kept_stays}

-- ---- a log entry

-- the message is a log entry, which these bytes spell
pub record BringsEntry (q : Option world.Message) (bytes : List ℕ) : Type 0 where
  pub generation : ℕ
  pub index : ℕ
  pub e : Entry
  pub message : q ≡ Some (world.LogEntry generation index e)
  pub spelled : packet_at bytes ≡ Some (packet.Log generation index e)

brings_entry : (o : Option Message) (q : Option world.Message) (bytes : List ℕ) → Agree IsMessage o q →
    option_and_then log_of o ≡ Some bytes → BringsEntry q bytes
brings_entry (Some (message.Log b)) (Some (world.LogEntry g i x)) bytes a e = record {
  generation = g;
  index = i;
  e = x;
  message = refl;
  spelled = subst (λ l. packet_at l ≡ Some (packet.Log g i x)) (same_some b.items bytes (Some b.items) refl e) a;
}
brings_entry (Some (message.Log b)) q bytes a e = absurd a
brings_entry (Some (message.Ack b)) q bytes a e = (cc)
brings_entry (Some (message.Part b)) q bytes a e = (cc)
brings_entry (Some (message.Byte p n b)) q bytes a e = (cc)
brings_entry (Some (message.Write write)) q bytes a e = (cc)
brings_entry (Some (message.Written n)) q bytes a e = (cc)
brings_entry (Some (message.Sector r)) q bytes a e = (cc)
brings_entry None q bytes a e = (cc)

no_entry : {S : Type 0} (o : Option Message) (q : Option world.Message) (here : Option (Node S)) → Agree IsMessage o q →
    option_and_then log_of o ≡ None → at_log_entry here q ≡ Some Unknown
no_entry None None here a e = refl
no_entry None (Some y) here a e = absurd a
no_entry (Some (message.Log b)) q here a e = (cc)
no_entry (Some (message.Ack b)) (Some (world.Acknowledgement g h r)) here a e = refl
no_entry (Some (message.Part b)) (Some (world.ImagePart g i k)) here a e = refl
no_entry (Some (message.Ack b)) q here a e = absurd a
no_entry (Some (message.Part b)) q here a e = absurd a
no_entry (Some (message.Byte p n b)) (Some (world.Released x)) here a e = refl
no_entry (Some (message.Byte p n b)) q here a e = absurd a
no_entry (Some (message.Write write)) (Some (world.Released x)) here a e = refl
no_entry (Some (message.Write write)) q here a e = absurd a
no_entry (Some (message.Written n)) (Some (world.WriteDone d)) here a e = refl
no_entry (Some (message.Written n)) q here a e = absurd a
no_entry (Some (message.Sector r)) (Some (world.SectorRead ad n bs)) here a e = refl
no_entry (Some (message.Sector r)) q here a e = absurd a

pub delivers_unknown : {B H D S : Type 0} (state : B → S) (copied : B → Guest) (M : Machine S) (records : D → List Record)
    (old : Running B H D) (c : Course S) (m n : ℕ) → option_and_then log_of (slice_get old.messages m) ≡ None →
    Shows state copied M records old c → Applies state copied M records c (event.DeliverLog m n) (Err Unknown) old
delivers_unknown state copied M records old c m n brings h =
    refuses state copied M records old old c (event.DeliverLog m n) Unknown h refl
    (no_entry (slice_get old.messages m) (slice_get c.world.messages m) (slice_get c.world.nodes n)
    (h.parts.messages.each m) brings) refl

-- what a node does with the bytes is what it does with their packet
pub spelled_log : {S : Type 0} {generation index : ℕ} {e : Entry} (bytes : List ℕ) (x : Node S)
    (r : Result Bool Fault) (Is : Node S → Type 0) → packet_at bytes ≡ Some (packet.Log generation index e) →
    DeliversLog NeedsEntry (packet_at bytes) x r Is → Call (deliver_log_refusal generation x) (NeedsEntry index) (Held index e) x r Is
spelled_log bytes x r Is spelled d = subst (λ p. DeliversLog NeedsEntry p x r Is) spelled d

new_or_old : (new : Bool) → reply_of (cond new reply.New reply.Old) ≡ cond new protocol.New protocol.Old
new_or_old true = refl
new_or_old false = refl

pub delivers_refused : {B H D S : Type 0} (state : B → S) (copied : B → Guest) (M : Machine S) (records : D → List Record)
    (old : Running B H D) (c : Course S) (m n : ℕ) (bytes : List ℕ) (fault : Fault) (hosts : List (Host B H)) →
    option_and_then log_of (slice_get old.messages m) ≡ Some bytes → (h : Shows state copied M records old c) →
    ((generation index : ℕ) (e : Entry) → packet_at bytes ≡ Some (packet.Log generation index e) →
    AtHost state M c.copying h.drives c.world n (deliver_log_refusal generation) (NeedsEntry index) (Held index e) (Err fault) hosts) →
    Applies state copied M records c (event.DeliverLog m n) (Err fault) (record old { hosts = hosts })
delivers_refused state copied M records old c m n bytes fault hosts brings h at =
    let b = brings_entry (slice_get old.messages m) (slice_get c.world.messages m) bytes
    (h.parts.messages.each m) brings in
    node_refused h (event.DeliverLog m n) fault hosts (ap (λ q. at_log_entry (slice_get c.world.nodes n) q) b.message)
    (λ s. record { generation = b.generation; index = b.index; e = b.e; message = b.message; next = s }) refl
    (at b.generation b.index b.e b.spelled)

pub delivers_applies : {B H D S : Type 0} (state : B → S) (copied : B → Guest) (M : Machine S) (records : D → List Record)
    (old : Running B H D) (c : Course S) (m n : ℕ) (bytes : List ℕ) (new : Bool) (r : Reply) (hosts : List (Host B H)) →
    r ≡ cond new reply.New reply.Old → option_and_then log_of (slice_get old.messages m) ≡ Some bytes →
    (h : Shows state copied M records old c) →
    ((generation index : ℕ) (e : Entry) → packet_at bytes ≡ Some (packet.Log generation index e) →
    AtHost state M c.copying h.drives c.world n (deliver_log_refusal generation) (NeedsEntry index) (Held index e) (Ok new) hosts) →
    Applies state copied M records c (event.DeliverLog m n) (Ok r) (record old { hosts = hosts })
delivers_applies state copied M records old c m n bytes new r hosts says brings h at =
    let b = brings_entry (slice_get old.messages m) (slice_get c.world.messages m) bytes
    (h.parts.messages.each m) brings in
    node_applies h (event.DeliverLog m n) r hosts
    (ap (λ q. at_log_entry (slice_get c.world.nodes n) q) b.message)
    (λ x y free s. held_stays b.index b.e new x y s)
    (λ world at. record {
      generation = b.generation;
      index = b.index;
      e = b.e;
      message = b.message;
      next = new;
      at = at;
      reply = ap reply_of says ∙ new_or_old new;
    })
    (at b.generation b.index b.e b.spelled)

-- ---- an acknowledgement

-- the message is an acknowledgement, which these bytes spell
pub record BringsAcknowledgement (q : Option world.Message) (bytes : List ℕ) : Type 0 where
  pub generation : ℕ
  pub held : ℕ
  pub reports : Option ℕ
  pub message : q ≡ Some (world.Acknowledgement generation held (unwrap_or reports 0))
  pub spelled : packet_at bytes ≡ Some (packet.Ack generation held reports)

brings_acknowledgement : (o : Option Message) (q : Option world.Message) (bytes : List ℕ) → Agree IsMessage o q →
    option_and_then ack_of o ≡ Some bytes → BringsAcknowledgement q bytes
brings_acknowledgement (Some (message.Ack b)) (Some (world.Acknowledgement g k r)) bytes a e = record {
  generation = g;
  held = k;
  reports = a.0;
  message = ap (λ n. Some (world.Acknowledgement g k n)) a.2;
  spelled = subst (λ l. packet_at l ≡ Some (packet.Ack g k a.0)) (same_some b.items bytes (Some b.items) refl e) a.1;
}
brings_acknowledgement (Some (message.Ack b)) q bytes a e = absurd a
brings_acknowledgement (Some (message.Part b)) q bytes a e = (cc)
brings_acknowledgement (Some (message.Log b)) q bytes a e = (cc)
brings_acknowledgement (Some (message.Byte p n b)) q bytes a e = (cc)
brings_acknowledgement (Some (message.Write write)) q bytes a e = (cc)
brings_acknowledgement (Some (message.Written n)) q bytes a e = (cc)
brings_acknowledgement (Some (message.Sector r)) q bytes a e = (cc)
brings_acknowledgement None q bytes a e = (cc)

no_acknowledgement : {S : Type 0} (o : Option Message) (q : Option world.Message) (here : Option (Node S)) →
    Agree IsMessage o q → option_and_then ack_of o ≡ None → at_acknowledgement here q ≡ Some Unknown
no_acknowledgement None None here a e = refl
no_acknowledgement None (Some y) here a e = absurd a
no_acknowledgement (Some (message.Ack b)) q here a e = (cc)
no_acknowledgement (Some (message.Part b)) (Some (world.ImagePart g i k)) here a e = refl
no_acknowledgement (Some (message.Part b)) q here a e = absurd a
no_acknowledgement (Some (message.Log b)) (Some (world.LogEntry g i x)) here a e = refl
no_acknowledgement (Some (message.Log b)) q here a e = absurd a
no_acknowledgement (Some (message.Byte p n b)) (Some (world.Released x)) here a e = refl
no_acknowledgement (Some (message.Byte p n b)) q here a e = absurd a
no_acknowledgement (Some (message.Write write)) (Some (world.Released x)) here a e = refl
no_acknowledgement (Some (message.Write write)) q here a e = absurd a
no_acknowledgement (Some (message.Written n)) (Some (world.WriteDone d)) here a e = refl
no_acknowledgement (Some (message.Written n)) q here a e = absurd a
no_acknowledgement (Some (message.Sector r)) (Some (world.SectorRead ad n bs)) here a e = refl
no_acknowledgement (Some (message.Sector r)) q here a e = absurd a

pub hears_unknown : {B H D S : Type 0} (state : B → S) (copied : B → Guest) (M : Machine S) (records : D → List Record)
    (old : Running B H D) (c : Course S) (m n : ℕ) → option_and_then ack_of (slice_get old.messages m) ≡ None →
    Shows state copied M records old c → Applies state copied M records c (event.DeliverAcknowledgement m n) (Err Unknown) old
hears_unknown state copied M records old c m n brings h =
    refuses state copied M records old old c (event.DeliverAcknowledgement m n) Unknown h refl
    (no_acknowledgement (slice_get old.messages m) (slice_get c.world.messages m) (slice_get c.world.nodes n)
    (h.parts.messages.each m) brings) refl

pub spelled_ack : {S : Type 0} {generation held : ℕ} {reports : Option ℕ} (bytes : List ℕ) (x : Node S) (r : Result ℕ Fault)
    (Is : Node S → Type 0) → packet_at bytes ≡ Some (packet.Ack generation held reports) →
    DeliversAcknowledgement (packet_at bytes) x r Is →
    Call (deliver_acknowledgement_refusal generation held x) Never (Heard held (unwrap_or reports 0)) x r Is
spelled_ack bytes x r Is spelled d = subst (λ p. DeliversAcknowledgement p x r Is) spelled d

pub hears_refused : {B H D S : Type 0} (state : B → S) (copied : B → Guest) (M : Machine S) (records : D → List Record)
    (old : Running B H D) (c : Course S) (m n : ℕ) (bytes : List ℕ) (fault : Fault) (hosts : List (Host B H)) →
    option_and_then ack_of (slice_get old.messages m) ≡ Some bytes → (h : Shows state copied M records old c) →
    ((generation held : ℕ) (reports : Option ℕ) → packet_at bytes ≡ Some (packet.Ack generation held reports) →
    AtHost state M c.copying h.drives c.world n (deliver_acknowledgement_refusal generation held) Never
    (Heard held (unwrap_or reports 0)) (Err fault) hosts) →
    Applies state copied M records c (event.DeliverAcknowledgement m n) (Err fault) (record old { hosts = hosts })
hears_refused state copied M records old c m n bytes fault hosts brings h at =
    let b = brings_acknowledgement (slice_get old.messages m) (slice_get c.world.messages m) bytes
    (h.parts.messages.each m) brings in
    node_refused h (event.DeliverAcknowledgement m n) fault hosts
    (ap (λ q. at_acknowledgement (slice_get c.world.nodes n) q) b.message) (λ never. absurd never.said) refl
    (at b.generation b.held b.reports b.spelled)

pub hears_applies : {B H D S : Type 0} (state : B → S) (copied : B → Guest) (M : Machine S) (records : D → List Record)
    (old : Running B H D) (c : Course S) (m n : ℕ) (bytes : List ℕ) (covered : ℕ) (hosts : List (Host B H)) →
    option_and_then ack_of (slice_get old.messages m) ≡ Some bytes → (h : Shows state copied M records old c) →
    ((generation held : ℕ) (reports : Option ℕ) → packet_at bytes ≡ Some (packet.Ack generation held reports) →
    AtHost state M c.copying h.drives c.world n (deliver_acknowledgement_refusal generation held) Never
    (Heard held (unwrap_or reports 0)) (Ok covered) hosts) →
    Applies state copied M records c (event.DeliverAcknowledgement m n) (Ok (reply.Held covered))
    (record old { hosts = hosts })
hears_applies state copied M records old c m n bytes covered hosts brings h at =
    let b = brings_acknowledgement (slice_get old.messages m) (slice_get c.world.messages m) bytes
    (h.parts.messages.each m) brings in
    node_applies h (event.DeliverAcknowledgement m n) (reply.Held covered) hosts
    (ap (λ q. at_acknowledgement (slice_get c.world.nodes n) q) b.message)
    (λ x y free s. kept_stays (heard_kept x y b.held (unwrap_or b.reports 0) covered s))
    (λ world at. record {
      generation = b.generation;
      held = b.held;
      replayed = unwrap_or b.reports 0;
      message = b.message;
      covered = covered;
      at = at;
      reply = refl;
    })
    (at b.generation b.held b.reports b.spelled)
