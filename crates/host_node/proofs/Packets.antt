-- How a host goes on by each call of its node that takes a packet.
use Rattle.std.proofs.Common.{ℕ, ◌≡◌, ◌≢◌, Bool, Option, Some, None, List, refl, sym, ap, subst}
use Rattle.std.specs.Prelude.{Ok, [], ◌∷◌, unwrap_or}
use Rattle.clone_state.specs.Copies.{CopiesAs}
use Rattle.clone_state.specs.Parts.{PartMessage, message_at}
use Rattle.ft_node.specs.AnyNode.{IsNode}
use Rattle.ft_node.specs.Calls as calls
use Rattle.ft_node.specs.declared.node.Node as code
use Rattle.ft_node.specs.declared.ran.PartCame.{PartCame}
use Rattle.guest_lockstep.specs.Machine.{Machine}
use Rattle.guest_parts.specs.Guest.{Guest}
use Rattle.host_calls.proofs.Stepping.{are-steps}
use Rattle.host_calls.specs.Made.{Made}
use Rattle.host_frames.specs.Frames.{Packet}
use Rattle.host_frames.specs.Meaning as meaning
use Rattle.host_frames.specs.Meaning.{IsPart, IsTold, Means}
use Rattle.host_law.specs.Frame as law
use Rattle.host_law.specs.Frame.{taking}
use Rattle.host_node.proofs.Calling.{taking_it}
use Rattle.host_node.specs.Goes.{Goes}
use Rattle.host_node.specs.Hosts.{SameHost}
use Rattle.host_node.specs.Mail.{IsFrom}
use Rattle.host_node.specs.declared.host.HostNode.{HostNode}
use Rattle.host_node.specs.declared.host.Hosted.TheVariants as hosted
use Rattle.clone_state.proofs.Messages.{message_written}
use Rattle.ft_node.specs.Calls.{Unless}
use Rattle.host_node.proofs.Indexes.{index_small}
use Rattle.i8080_words.specs.declared.refusal.Fault.{Fault}
use Rattle.i8080_words.specs.declared.refusal.Fault.TheVariants.{Malformed}
use Rattle.log_channel.proofs.PacketLaws.{packet_takes}
use Rattle.log_entry.specs.Numbers.{IsBytes}
use Rattle.log_channel.specs.Packet.{packet_at}
use Rattle.log_channel.specs.declared.packet.Packet as channel
use Rattle.log_channel.specs.declared.packet.Packet.TheVariants.{Log, Ack}
use Rattle.pair_protocol.specs.Copying.{Copying}
use Rattle.pair_protocol.specs.Lawful.{Among}
use Rattle.pair_protocol.specs.Node.{Node, Spare}
use Rattle.pair_protocol.specs.Refusals.{first_of}
use Rattle.pair_protocol.specs.World as message

-- what is no such packet is refused
not_ok : {A : Type 0} (o : Option Fault) (v : A) (stays : Type 0) → Unless (first_of (o ∷ Some Malformed ∷ [])) (Ok v) stays ⊥ → ⊥
not_ok None v stays c = (let e = c.0 in absurd (cc))
not_ok (Some fault) v stays c = (let e = c.0 in absurd (cc))

module _ {B S : Type 0} {H : Type 0} (state : B → S) (M : Machine S) (copied : B → Guest) where
  -- a frame that was sent, and the step with it
  abbrev IsMade : Copying S → (drives me : ℕ) → code.Node B H → Node S → List law.Frame → Type 0
  IsMade C drives me m y frames =
      (frame : law.Frame) × Among frame frames × Made M C me y (taking frame) (IsNode state M C drives m)

  log_made : (C : Copying S) (drives me place : ℕ) (m : code.Node B H) (y : Node S) → y.role ≢ Spare → (bytes : List ℕ)
      → IsBytes bytes → (p : Option channel.Packet) (next : Bool) → packet_at bytes ≡ p
      → calls.DeliversLog calls.NeedsRoom p y (Ok next) (IsNode state M C drives m) → (frames : List law.Frame)
      → IsTold drives me (Packet place bytes) frames → IsMade C drives me m y frames
  log_made C drives me place m y other bytes all None next at call frames told = absurd (not_ok _ next _ call)
  log_made C drives me place m y other bytes all (Some (Ack generation held replayed)) next at call frames told =
      absurd (not_ok _ next _ call)
  log_made C drives me place m y other bytes all (Some (Log generation index e)) next at call frames told =
      (let s = packet_takes bytes (Log generation index e) all at in (
        law.Carries (message.LogEntry generation index e),
        told (law.Carries (message.LogEntry generation index e))
            (subst (λ l. Means drives me (Packet place l) (law.Carries (message.LogEntry generation index e))) (sym s.1)
            (meaning.OfEntry place generation index e s.0)),
        (are-steps M C me y other (IsNode state M C drives m)).on_log generation index e next call,
      ))

  pub on_log : (old new : HostNode B H) (n m : code.Node B H) (place : ℕ) (bytes : List ℕ) (next : Bool)
      → old.node ≡ hosted.Node n → new.node ≡ hosted.Node m → SameHost old new → new.mail ≡ old.mail
      → IsFrom old.mail.came (Packet place bytes) → IsBytes bytes
      → ((C : Copying S) (drives : ℕ) (x : Node S) → IsNode state M C drives n x
      → calls.DeliversLog calls.NeedsRoom (packet_at bytes) x (Ok next) (IsNode state M C drives m))
      → Goes state M copied old new
  on_log old new n m place bytes next was is number mail from all call =
      taking_it state M copied old new n m (Packet place bytes) was is number (ap (λ p. p.came) mail) (ap (λ p. p.gone) mail) from
      (λ C drives me copies y other node frames told.
      log_made C drives me place m y other bytes all (packet_at bytes) next refl (call C drives y node) frames told)

  ack_made : (C : Copying S) (drives me place : ℕ) (m : code.Node B H) (y : Node S) → y.role ≢ Spare → (bytes : List ℕ)
      → IsBytes bytes → (p : Option channel.Packet) (covered : ℕ) → packet_at bytes ≡ p
      → calls.DeliversAcknowledgement p y (Ok covered) (IsNode state M C drives m) → (frames : List law.Frame)
      → IsTold drives me (Packet place bytes) frames → IsMade C drives me m y frames
  ack_made C drives me place m y other bytes all None covered at call frames told = absurd (not_ok _ covered _ call)
  ack_made C drives me place m y other bytes all (Some (Log generation index e)) covered at call frames told =
      absurd (not_ok _ covered _ call)
  ack_made C drives me place m y other bytes all (Some (Ack generation held replayed)) covered at call frames told =
      (let s = packet_takes bytes (Ack generation held replayed) all at in (
        law.Carries (message.Acknowledgement generation held (unwrap_or replayed 0)),
        told (law.Carries (message.Acknowledgement generation held (unwrap_or replayed 0)))
            (subst (λ l. Means drives me (Packet place l) (law.Carries (message.Acknowledgement generation held (unwrap_or replayed 0))))
            (sym s.1) (meaning.OfAcknowledgement place generation held replayed s.0)),
        (are-steps M C me y other (IsNode state M C drives m)).on_ack generation held replayed covered call,
      ))

  pub on_ack : (old new : HostNode B H) (n m : code.Node B H) (place : ℕ) (bytes : List ℕ) (covered : ℕ)
      → old.node ≡ hosted.Node n → new.node ≡ hosted.Node m → SameHost old new → new.mail ≡ old.mail
      → IsFrom old.mail.came (Packet place bytes) → IsBytes bytes
      → ((C : Copying S) (drives : ℕ) (x : Node S) → IsNode state M C drives n x
      → calls.DeliversAcknowledgement (packet_at bytes) x (Ok covered) (IsNode state M C drives m))
      → Goes state M copied old new
  on_ack old new n m place bytes covered was is number mail from all call =
      taking_it state M copied old new n m (Packet place bytes) was is number (ap (λ p. p.came) mail) (ap (λ p. p.gone) mail) from
      (λ C drives me copies y other node frames told.
      ack_made C drives me place m y other bytes all (packet_at bytes) covered refl (call C drives y node) frames told)

  part_made : (C : Copying S) (drives me place : ℕ) (m : code.Node B H) (y : Node S) → y.role ≢ Spare → (bytes : List ℕ)
      → IsBytes bytes → (p : Option PartMessage) (came : PartCame) → message_at drives bytes ≡ p
      → calls.GetsPart C p y (Ok came) (IsNode state M C drives m) → (frames : List law.Frame)
      → IsTold drives me (Packet place bytes) frames → IsMade C drives me m y frames
  part_made C drives me place m y other bytes all None came at call frames told = absurd (not_ok _ came _ call)
  part_made C drives me place m y other bytes all (Some p) came at call frames told =
      (let s = message_written drives bytes p all at in (
        law.Carries (message.ImagePart p.generation p.index p.payload),
        told (law.Carries (message.ImagePart p.generation p.index p.payload))
            (subst (λ l. Means drives me (Packet place l) (law.Carries (message.ImagePart p.generation p.index p.payload)))
            (sym s.1) (meaning.OfPart place p
            (record { some = s.0.some; generation = s.0.few; index = index_small drives bytes p all at }))),
        (are-steps M C me y other (IsNode state M C drives m)).part p came call,
      ))

  pub on_part : (old new : HostNode B H) (n m : code.Node B H) (place : ℕ) (bytes : List ℕ) (came : PartCame)
      → old.node ≡ hosted.Node n → new.node ≡ hosted.Node m → SameHost old new → new.mail ≡ old.mail
      → IsFrom old.mail.came (Packet place bytes) → IsBytes bytes
      → ((C : Copying S) (drives : ℕ) (x : Node S) → CopiesAs state copied drives C.parts C.part_count C.assemble
      → IsNode state M C drives n x → calls.GetsPart C (message_at drives bytes) x (Ok came) (IsNode state M C drives m))
      → Goes state M copied old new
  on_part old new n m place bytes came was is number mail from all call =
      taking_it state M copied old new n m (Packet place bytes) was is number (ap (λ p. p.came) mail) (ap (λ p. p.gone) mail) from
      (λ C drives me copies y other node frames told.
      part_made C drives me place m y other bytes all (message_at drives bytes) came refl (call C drives y copies node) frames told)
