-- A host's mail stays at its rings: in one call, and from one state of the host to a later one.
use Rattle.std.proofs.Common.{ℕ, ◌≡◌, refl, ◌∙◌}
use Rattle.std.specs.Global.{Global, Vec}
use Rattle.host_frames.proofs.Rings.{put_into_same, taken_from_same}
use Rattle.host_frames.specs.Rings.{put_into, taken_from}
use Rattle.guest_lockstep.specs.Machine.{Machine}
use Rattle.guest_parts.specs.Guest.{Guest}
use Rattle.host_node.specs.Goes as goes
use Rattle.host_node.specs.Goes.{Goes}
use Rattle.host_node.specs.MailRings.{rings_of}
use Rattle.host_node.specs.declared.host.HostNode.{HostNode}
use Rattle.rtrb.specs.Ring.{SameConsumer, SameProducer}
use Rattle.rtrb.specs.declared.AnyItems.{AnyItems}
use Rattle.rtrb.specs.declared.consumer.Consumer.{Consumer}
use Rattle.rtrb.specs.declared.producer.Producer.{Producer}

pub inbox_stays : (a b : Consumer (Vec ℕ) Global AnyItems) (p : Producer (Vec ℕ) Global AnyItems) → SameConsumer a b
    → rings_of b p ≡ rings_of a p
inbox_stays a b p same = λ i. record { inbox = taken_from_same a b same i; outbox = put_into p }

pub inbox_stays_still : (a b c : Consumer (Vec ℕ) Global AnyItems) (p : Producer (Vec ℕ) Global AnyItems) → SameConsumer a b
    → SameConsumer b c → rings_of c p ≡ rings_of a p
inbox_stays_still a b c p first second = inbox_stays b c p second ∙ inbox_stays a b p first

pub outbox_stays : (a b : Producer (Vec ℕ) Global AnyItems) (c : Consumer (Vec ℕ) Global AnyItems) → SameProducer a b
    → rings_of c b ≡ rings_of c a
outbox_stays a b c same = λ i. record { inbox = taken_from c; outbox = put_into_same a b same i }

module _ {B S : Type 0} {H : Type 0} (state : B → S) (M : Machine S) (copied : B → Guest) where
  pub rings_stay : (first last : HostNode B H) → Goes state M copied first last → last.mail.rings ≡ first.mail.rings
  rings_stay first last goes.Rests = refl
  rings_stay first last (goes.Next {mid = mid} new way move) = move.rings ∙ rings_stay first mid way
