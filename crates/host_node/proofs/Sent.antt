-- How a host goes on by each call of its node whose answer is sent.
use Rattle.guest_lockstep.specs.declared.reads.Reads.TheVariants.{Logged, Shared}
use Rattle.guest_lockstep.specs.declared.reads.Reads.{Reads}
use Rattle.std.proofs.Common.{ℕ, ◌≡◌, ◌≢◌, ◌<◌, ◌^◌, refl, sym, subst}
use Rattle.std.specs.Prelude.{Ok, length, unwrap_or}
use Rattle.std.specs.Global.{Vec}
use Rattle.disk_dcdd.specs.declared.address.SectorAddress.{SectorAddress}
use Rattle.disk_dcdd.specs.declared.sector.SectorWrite.{SectorWrite}
use Rattle.event_callbacks.specs.declared.operations.OpId.{OpId}
use Rattle.event_callbacks.specs.declared.operations.Operation.TheVariants as operation
use Rattle.ft_node.specs.AnyNode.{IsNode}
use Rattle.ft_node.specs.Calls as calls
use Rattle.ft_node.specs.Calls.{Ever, reported_by}
use Rattle.ft_node.specs.declared.node.Node as code
use Rattle.guest_lockstep.specs.Machine.{Machine}
use Rattle.guest_parts.specs.Guest.{Guest}
use Rattle.host_calls.proofs.Stepping.{are-steps, passes, said}
use Rattle.host_frames.specs.Frames.{Packet, Said, Transfers}
use Rattle.host_frames.specs.Meaning as meaning
use Rattle.host_frames.specs.Meaning.{Means}
use Rattle.host_frames.specs.declared.frame.Transfer.TheVariants.{Byte, Get, Write}
use Rattle.host_law.specs.Frame as law
use Rattle.host_law.specs.Frame.{sending}
use Rattle.host_law.specs.Host as host
use Rattle.host_law.specs.Host.{HostStep, Passes}
use Rattle.host_node.proofs.Calling.{sending_it}
use Rattle.host_node.specs.Goes.{Goes}
use Rattle.host_node.specs.Hosts.{SameHost}
use Rattle.host_node.specs.Mail.{HasSaid}
use Rattle.host_node.specs.declared.host.HostNode.{HostNode}
use Rattle.host_node.specs.declared.host.Hosted.TheVariants as hosted
use Rattle.log_channel.specs.declared.packet.Packet.TheVariants.{Ack}
use Rattle.pair_protocol.specs.Copying.{Copying}
use Rattle.pair_protocol.specs.Node.{Node, Spare, told_by}
use Rattle.pair_protocol.specs.Refusals as refusals
use Rattle.pair_protocol.specs.World as message

-- ---- what the law's host sends

module _ {S : Type 0} (M : Machine S) (C : Copying S) (drives me : ℕ) (y : Node S) (other : y.role ≢ Spare) where
  -- a frame of the law that a frame means, sent at a step that leaves the node
  abbrev pub Sends : Said → Type 0
  Sends frame = (means : law.Frame) × Means drives me frame means × HostStep M C me y (sending means) y

  sends_entry : (place index : ℕ) (bytes : Vec ℕ) → calls.Sends index y (Ok bytes) → Sends (Packet place bytes.items)
  sends_entry place index bytes call =
      (let c = said (refusals.send_refusal index y) Ever (λ bytes x. calls.SendsEntry index x bytes) y bytes call in (
        law.Carries (message.LogEntry y.generation index c.1.e),
        subst (λ l. Means drives me (Packet place l) (law.Carries (message.LogEntry y.generation index c.1.e)))
            (sym c.1.spelled.1) (meaning.OfEntry place y.generation index c.1.e c.1.spelled.0),
        host.SendsEntry index c.1.e (passes M C me y other (λ z. Unit {0}) (refusals.send_refusal index) c.0) c.1.entry,
      ))

  told_so : (reads : Reads) (replayed : ℕ)
      → unwrap_or (reported_by reads replayed) 0 ≡ told_by reads replayed
  told_so Logged replayed = refl
  told_so Shared replayed = refl

  sends_ack : (place : ℕ) (bytes : Vec ℕ) → calls.Acknowledges y (Ok bytes) → Sends (Packet place bytes.items)
  sends_ack place bytes call =
      (let c = said (refusals.acknowledge_refusal y) Ever
      (λ bytes x. calls.IsSpelled (Ack x.generation (length x.held) (reported_by x.reads x.replayed)) bytes)
      y bytes call in (
        law.Carries (message.Acknowledgement y.generation (length y.held) (told_by y.reads y.replayed)),
        subst (λ k. Means drives me (Packet place bytes.items)
            (law.Carries (message.Acknowledgement y.generation (length y.held) k))) (told_so y.reads y.replayed)
            (subst (λ l. Means drives me (Packet place l) (law.Carries
            (message.Acknowledgement y.generation (length y.held) (unwrap_or (reported_by y.reads y.replayed) 0))))
            (sym c.1.1) (meaning.OfAcknowledgement place y.generation (length y.held)
            (reported_by y.reads y.replayed) c.1.0)),
        host.Acknowledges (length y.held) (told_by y.reads y.replayed)
            (passes M C me y other (λ z. Unit {0}) refusals.acknowledge_refusal c.0) (refl, refl),
      ))

  sends_part : (place index : ℕ) (bytes : Vec ℕ) → index < 2 ^ 16 → calls.SendsPart C index y (Ok bytes)
      → Sends (Packet place bytes.items)
  sends_part place index bytes few call =
      (let c = said (refusals.send_part_refusal C index y) Ever (λ bytes x. calls.SpellsPart C index x bytes) y bytes call in (
        law.Carries (message.ImagePart y.generation index c.1.part),
        subst (λ l. Means drives me (Packet place l) (law.Carries (message.ImagePart y.generation index c.1.part)))
            (sym c.1.spelled) (meaning.OfPart place (record { generation = y.generation; index = index; payload = c.1.part })
            (record { some = c.1.first; generation = c.1.within; index = few })),
        host.SendsPart index c.1.part (passes M C me y other (λ z. Unit {0}) (refusals.send_part_refusal C index) c.0) c.1.has,
      ))

  sends_byte : (id : OpId) (port number byte : ℕ) → host.HasPort id → calls.Releases M id y (Ok (operation.Byte port number byte))
      → Sends (Transfers (Byte port number byte))
  sends_byte id port number byte has call = (
    law.Carries (message.Released (operation.Byte port number byte)),
    meaning.OfByte port number byte,
    (are-steps M C me y other (λ z. Unit {0})).release id (operation.Byte port number byte) has call,
  )

  sends_write : (id : OpId) (write : SectorWrite) → host.HasPort id → calls.Releases M id y (Ok (operation.Write write))
      → Sends (Transfers (Write write))
  sends_write id write has call = (
    law.Carries (message.Released (operation.Write write)),
    meaning.OfWrite write,
    (are-steps M C me y other (λ z. Unit {0})).release id (operation.Write write) has call,
  )

  sends_place : (sector : ℕ) (address : SectorAddress) → calls.Gets M sector y (Ok address) → Sends (Transfers (Get address))
  sends_place sector address call =
      (law.AsksSector address, meaning.OfGet address, (are-steps M C me y other (λ z. Unit {0})).place sector address call)

  sends_wanted : (address : SectorAddress) → calls.Wanted M y (Ok address) → Sends (Transfers (Get address))
  sends_wanted address call =
      (law.AsksSector address, meaning.OfGet address, (are-steps M C me y other (λ z. Unit {0})).wanted address call)

module _ {B S : Type 0} {H : Type 0} (state : B → S) (M : Machine S) (copied : B → Guest) where
  pub entry : (old new : HostNode B H) (n : code.Node B H) (place index : ℕ) (bytes : Vec ℕ) → old.node ≡ hosted.Node n
      → new.node ≡ old.node → SameHost old new → new.mail.came ≡ old.mail.came
      → HasSaid (Packet place bytes.items) old.mail.gone new.mail.gone
      → ((C : Copying S) (drives : ℕ) (x : Node S) → IsNode state M C drives n x → calls.Sends index x (Ok bytes))
      → Goes state M copied old new
  entry old new n place index bytes was same number came went call =
      sending_it state M copied old new n (Packet place bytes.items) was same number came went refl
      (λ C drives me copies y other node. sends_entry M C drives me y other place index bytes (call C drives y node))

  pub ack : (old new : HostNode B H) (n : code.Node B H) (place : ℕ) (bytes : Vec ℕ) → old.node ≡ hosted.Node n
      → new.node ≡ old.node → SameHost old new → new.mail.came ≡ old.mail.came
      → HasSaid (Packet place bytes.items) old.mail.gone new.mail.gone
      → ((C : Copying S) (drives : ℕ) (x : Node S) → IsNode state M C drives n x → calls.Acknowledges x (Ok bytes))
      → Goes state M copied old new
  ack old new n place bytes was same number came went call =
      sending_it state M copied old new n (Packet place bytes.items) was same number came went refl
      (λ C drives me copies y other node. sends_ack M C drives me y other place bytes (call C drives y node))

  pub part : (old new : HostNode B H) (n : code.Node B H) (place index : ℕ) (bytes : Vec ℕ) → index < 2 ^ 16
      → old.node ≡ hosted.Node n → new.node ≡ old.node → SameHost old new → new.mail.came ≡ old.mail.came
      → HasSaid (Packet place bytes.items) old.mail.gone new.mail.gone
      → ((C : Copying S) (drives : ℕ) (x : Node S) → IsNode state M C drives n x → calls.SendsPart C index x (Ok bytes))
      → Goes state M copied old new
  part old new n place index bytes few was same number came went call =
      sending_it state M copied old new n (Packet place bytes.items) was same number came went refl
      (λ C drives me copies y other node. sends_part M C drives me y other place index bytes few (call C drives y node))

  pub byte_out : (old new : HostNode B H) (n : code.Node B H) (id : OpId) (port number byte : ℕ) → host.HasPort id
      → old.node ≡ hosted.Node n → new.node ≡ old.node → SameHost old new → new.mail.came ≡ old.mail.came
      → HasSaid (Transfers (Byte port number byte)) old.mail.gone new.mail.gone
      → ((C : Copying S) (drives : ℕ) (x : Node S) → IsNode state M C drives n x
      → calls.Releases M id x (Ok (operation.Byte port number byte))) → Goes state M copied old new
  byte_out old new n id port number byte has was same numbered came went call =
      sending_it state M copied old new n (Transfers (Byte port number byte)) was same numbered came went refl
      (λ C drives me copies y other node. sends_byte M C drives me y other id port number byte has (call C drives y node))

  pub write_out : (old new : HostNode B H) (n : code.Node B H) (id : OpId) (w : SectorWrite) → host.HasPort id
      → old.node ≡ hosted.Node n → new.node ≡ old.node → SameHost old new → new.mail.came ≡ old.mail.came
      → HasSaid (Transfers (Write w)) old.mail.gone new.mail.gone
      → ((C : Copying S) (drives : ℕ) (x : Node S) → IsNode state M C drives n x
      → calls.Releases M id x (Ok (operation.Write w))) → Goes state M copied old new
  write_out old new n id w has was same numbered came went call =
      sending_it state M copied old new n (Transfers (Write w)) was same numbered came went refl
      (λ C drives me copies y other node. sends_write M C drives me y other id w has (call C drives y node))

  pub place : (old new : HostNode B H) (n : code.Node B H) (sector : ℕ) (address : SectorAddress) → old.node ≡ hosted.Node n
      → new.node ≡ old.node → SameHost old new → new.mail.came ≡ old.mail.came
      → HasSaid (Transfers (Get address)) old.mail.gone new.mail.gone
      → ((C : Copying S) (drives : ℕ) (x : Node S) → IsNode state M C drives n x → calls.Gets M sector x (Ok address))
      → Goes state M copied old new
  place old new n sector address was same numbered came went call =
      sending_it state M copied old new n (Transfers (Get address)) was same numbered came went refl
      (λ C drives me copies y other node. sends_place M C drives me y other sector address (call C drives y node))

  pub wanted : (old new : HostNode B H) (n : code.Node B H) (address : SectorAddress) → old.node ≡ hosted.Node n
      → new.node ≡ old.node → SameHost old new → new.mail.came ≡ old.mail.came
      → HasSaid (Transfers (Get address)) old.mail.gone new.mail.gone
      → ((C : Copying S) (drives : ℕ) (x : Node S) → IsNode state M C drives n x → calls.Wanted M x (Ok address))
      → Goes state M copied old new
  wanted old new n address was same numbered came went call =
      sending_it state M copied old new n (Transfers (Get address)) was same numbered came went refl
      (λ C drives me copies y other node. sends_wanted M C drives me y other address (call C drives y node))
