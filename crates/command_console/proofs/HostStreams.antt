-- A host's loop leaves its mail at the rings of the two threads of its streams.
use Rattle.std.proofs.Common.{ℕ, ◌≡◌, Option, Some, None, List, refl, sym, ap, ◌∙◌, subst}
use Rattle.std.specs.Global.{Global, Vec}
use Rattle.std.specs.Prelude.{IfSome}
use Rattle.host_frames.specs.Threads.{HasHeard, IsWritten, ReadsInto, WritesFrom}
use Rattle.host_frames.specs.declared.reader.FrameReader.{FrameReader}
use Rattle.host_frames.specs.declared.read_thread.ReadStream.{ReadStream}
use Rattle.host_frames.specs.declared.write_thread.WrittenStream.{WrittenStream}
use Rattle.host_frames.specs.declared.writer.FrameWriter.{FrameWriter}
use Rattle.guest_lockstep.specs.Machine.{Machine}
use Rattle.guest_parts.specs.Guest.{Guest}
use Rattle.host_node.proofs.Staying.{rings_stay}
use Rattle.host_node.specs.Goes.{Goes}
use Rattle.host_node.specs.Mail.{Post}
use Rattle.host_node.specs.MailRings.{rings_of}
use Rattle.host_node.specs.declared.host.HostNode.{HostNode}
use Rattle.rtrb.specs.declared.AnyItems.{AnyItems}
use Rattle.rtrb.specs.declared.consumer.Consumer.{Consumer}
use Rattle.rtrb.specs.declared.producer.Producer.{Producer}

module _ {B S : Type 0} {H : Type 0} (state : B → S) (M : Machine S) (copied : B → Guest) (first last : HostNode B H)
    (mail given : Post) (bodies bodies' : Consumer (Vec ℕ) Global AnyItems) (frames frames' : Producer (Vec ℕ) Global AnyItems)
    (had : first.mail ≡ mail) (made : mail.rings ≡ rings_of bodies frames) (went : Goes state M copied first last)
    (gives : given ≡ last.mail) (parted : rings_of bodies' frames' ≡ given.rings) where
  -- the rings that the mail gives back are those that it was made of
  rings_are : rings_of bodies' frames' ≡ rings_of bodies frames
  rings_are =
      parted ∙ ap (λ (p : Post). p.rings) gives ∙ rings_stay state M copied first last went
      ∙ ap (λ (p : Post). p.rings) had ∙ made

  pub reads_still : {I : Type 0} (source : I) (reader : FrameReader I) → ReadsInto source bodies reader
      → ReadsInto reader.source bodies' reader
  reads_still source reader into = record {
    source_is = refl;
    none_pending = into.none_pending;
    none_kept = into.none_kept;
    none_handed = into.none_handed;
    ring = ap (λ r. r.inbox) rings_are ∙ into.ring;
  }

  pub writes_still : {O : Type 0} (sink : O) (writer : FrameWriter O) → WritesFrom sink frames writer
      → WritesFrom writer.sink frames' writer
  writes_still sink writer from = record {
    sink_is = refl;
    none_came = from.none_came;
    none_kept = from.none_kept;
    ring = from.ring ∙ sym (ap (λ r. r.outbox) rings_are);
  }

-- what came to a host is what was read, and what went from it is what was written
pub heard_so : {I : Type 0} (left : I → Option (List ℕ)) (from source : I) (bodies came : List (List ℕ))
    (o : Option (ReadStream I)) → from ≡ source → bodies ≡ came → IfSome o (HasHeard left from bodies)
    → IfSome o (HasHeard left source came)
heard_so left from source bodies came o is are read =
    subst (λ s. IfSome o (HasHeard left s came)) is (subst (λ l. IfSome o (HasHeard left from l)) are read)

pub said_so : {O : Type 0} (contents : O → Option (List ℕ)) (from sink : O) (frames gone : List (List ℕ)) (w : WrittenStream O)
    → from ≡ sink → frames ≡ gone → IsWritten contents from frames w → IsWritten contents sink gone w
said_so contents from sink frames gone w is are written =
    subst (λ s. IsWritten contents s gone w) is (subst (λ l. IsWritten contents from l w) are written)
