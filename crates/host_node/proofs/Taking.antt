-- How a host goes on by each call of its node that takes a frame which came.
use Rattle.std.proofs.Common.{ℕ, ◌≡◌, ◌≤◌}
use Rattle.std.specs.Prelude.{Ok}
use Rattle.ft_node.specs.AnyNode.{IsNode}
use Rattle.ft_node.specs.Calls as calls
use Rattle.ft_node.specs.declared.node.Node as code
use Rattle.guest_lockstep.specs.Machine.{Machine}
use Rattle.guest_lockstep.specs.declared.input.Input.TheVariants as input
use Rattle.guest_parts.specs.Guest.{Guest}
use Rattle.host_calls.proofs.Stepping.{are-steps}
use Rattle.host_frames.specs.Frames.{Transfers}
use Rattle.host_frames.specs.Meaning as meaning
use Rattle.host_frames.specs.Meaning.{IsPart, address_of_read}
use Rattle.host_frames.specs.declared.frame.Transfer.TheVariants.{Accepted, Key, Sector, Written}
use Rattle.host_law.specs.Frame as law
use Rattle.host_node.proofs.Calling.{taking_it}
use Rattle.host_node.specs.Goes.{Goes}
use Rattle.host_node.specs.Hosts.{SameHost}
use Rattle.host_node.specs.Mail.{IsFrom}
use Rattle.host_node.specs.declared.host.HostNode.{HostNode}
use Rattle.host_node.specs.declared.host.Hosted.TheVariants as hosted
use Rattle.pair_protocol.specs.Copying.{Copying}
use Rattle.pair_protocol.specs.Node.{Node}
use Rattle.pair_protocol.specs.Refusals as refusals
use Rattle.pair_protocol.specs.World as message
use Rattle.shared_disk.specs.declared.disk.SectorRead.{SectorRead}

module _ {B S : Type 0} {H : Type 0} (state : B → S) (M : Machine S) (copied : B → Guest) where
  -- a key, the acceptance of a byte, the completion of a write
  pub key : (old new : HostNode B H) (n m : code.Node B H) (port index byte : ℕ) → old.node ≡ hosted.Node n
      → new.node ≡ hosted.Node m → SameHost old new → new.mail.came ≡ old.mail.came → new.mail.gone ≡ old.mail.gone
      → IsFrom old.mail.came (Transfers (Key port index byte))
      → ((C : Copying S) (drives : ℕ) (x : Node S) → IsNode state M C drives n x
      → calls.Takes M (input.Rx port byte) (refusals.take_key_refusal M port index x) x (Ok tt) (IsNode state M C drives m))
      → Goes state M copied old new
  key old new n m port index byte was is number came gone from call =
      taking_it state M copied old new n m (Transfers (Key port index byte)) was is number came gone from
      (λ C drives me copies y other node frames told. (
        law.Key port index byte,
        told (law.Key port index byte)
            (meaning.OfKey port index byte),
        (are-steps M C me y other (IsNode state M C drives m)).key port index byte (call C drives y node),
      ))

  pub acceptance : (old new : HostNode B H) (n m : code.Node B H) (port number count : ℕ) → old.node ≡ hosted.Node n
      → new.node ≡ hosted.Node m → SameHost old new → new.mail.came ≡ old.mail.came → new.mail.gone ≡ old.mail.gone
      → IsFrom old.mail.came (Transfers (Accepted port count)) → 1 ≤ number → number ≤ count
      → ((C : Copying S) (drives : ℕ) (x : Node S) → IsNode state M C drives n x
      → calls.Takes M (input.Sent port) (refusals.tell_sent_refusal M port number x) x (Ok tt) (IsNode state M C drives m))
      → Goes state M copied old new
  acceptance old new n m port number count was is numbered came gone from low few call =
      taking_it state M copied old new n m (Transfers (Accepted port count)) was is numbered came gone from
      (λ C drives me copies y other node frames told. (
        law.AreAccepted port count,
        told (law.AreAccepted port count)
            (meaning.OfAccepted port count),
        (are-steps M C me y other (IsNode state M C drives m)).sent port number count low few (call C drives y node),
      ))

  pub done : (old new : HostNode B H) (n m : code.Node B H) (write : ℕ) → old.node ≡ hosted.Node n
      → new.node ≡ hosted.Node m → SameHost old new → new.mail.came ≡ old.mail.came → new.mail.gone ≡ old.mail.gone
      → IsFrom old.mail.came (Transfers (Written write))
      → ((C : Copying S) (drives : ℕ) (x : Node S) → IsNode state M C drives n x
      → calls.Takes M (input.Written write) (refusals.put_reply_refusal M write x) x (Ok tt) (IsNode state M C drives m))
      → Goes state M copied old new
  done old new n m write was is numbered came gone from call =
      taking_it state M copied old new n m (Transfers (Written write)) was is numbered came gone from
      (λ C drives me copies y other node frames told. (
        law.Carries (message.WriteDone write),
        told (law.Carries (message.WriteDone write)) (meaning.OfWritten write),
        (are-steps M C me y other (IsNode state M C drives m)).done write (call C drives y node),
      ))

  -- a sector: an input, or what a replaying node waits for
  pub under : (old new : HostNode B H) (n m : code.Node B H) (read : SectorRead) → old.node ≡ hosted.Node n
      → new.node ≡ hosted.Node m → SameHost old new → new.mail.came ≡ old.mail.came → new.mail.gone ≡ old.mail.gone
      → IsFrom old.mail.came (Transfers (Sector read))
      → ((C : Copying S) (drives : ℕ) (x : Node S) → IsNode state M C drives n x
      → calls.Takes M (input.Sector read.drive read.sector read.number read.bytes)
      (refusals.get_reply_refusal M (address_of_read read) read.number read.bytes x) x (Ok tt) (IsNode state M C drives m))
      → Goes state M copied old new
  under old new n m read was is numbered came gone from call =
      taking_it state M copied old new n m (Transfers (Sector read)) was is numbered came gone from
      (λ C drives me copies y other node frames told. (
        law.Carries (message.SectorRead (address_of_read read) read.number read.bytes),
        told (law.Carries (message.SectorRead (address_of_read read) read.number read.bytes)) (meaning.OfSector read),
        (are-steps M C me y other (IsNode state M C drives m)).under (address_of_read read) read.number read.bytes
            (call C drives y node),
      ))

  pub fetched : (old new : HostNode B H) (n m : code.Node B H) (read : SectorRead) → old.node ≡ hosted.Node n
      → new.node ≡ hosted.Node m → SameHost old new → new.mail.came ≡ old.mail.came → new.mail.gone ≡ old.mail.gone
      → IsFrom old.mail.came (Transfers (Sector read))
      → ((C : Copying S) (drives : ℕ) (x : Node S) → IsNode state M C drives n x
      → calls.Fetches M (address_of_read read) read.number read.bytes x (Ok tt) (IsNode state M C drives m))
      → Goes state M copied old new
  fetched old new n m read was is numbered came gone from call =
      taking_it state M copied old new n m (Transfers (Sector read)) was is numbered came gone from
      (λ C drives me copies y other node frames told. (
        law.Carries (message.SectorRead (address_of_read read) read.number read.bytes),
        told (law.Carries (message.SectorRead (address_of_read read) read.number read.bytes)) (meaning.OfSector read),
        (are-steps M C me y other (IsNode state M C drives m)).fetched (address_of_read read) read.number read.bytes
            (call C drives y node),
      ))
