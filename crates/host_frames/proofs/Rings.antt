-- An end stays at its ring, and two ends of one ring are a pair.
use Rattle.std.proofs.Common.{◌≡◌, ℕ, ap, sym, ◌∙◌}
use Rattle.std.specs.Global.{Global, Vec}
use Rattle.host_frames.specs.Rings.{put_into, taken_from}
use Rattle.rtrb.specs.Ring.{Finishes, IsFinishedOf, IsPair, SameConsumer, SameProducer}
use Rattle.rtrb.specs.declared.AnyItems.{AnyItems}
use Rattle.rtrb.specs.declared.consumer.Consumer.{Consumer}
use Rattle.rtrb.specs.declared.finished.Finished.{Finished}
use Rattle.rtrb.specs.declared.producer.Producer.{Producer}

pub taken_from_same : (a b : Consumer (Vec ℕ) Global AnyItems) → SameConsumer a b → taken_from b ≡ taken_from a
taken_from_same a b p = λ i. record { words = p.0.0 i; slots = p.0.1 i; names = p.0.2 i; heap = p.0.3 i }

pub put_into_same : (a b : Producer (Vec ℕ) Global AnyItems) → SameProducer a b → put_into b ≡ put_into a
put_into_same a b p = λ i. record { words = p.0.0 i; slots = p.0.1 i; names = p.0.2 i; heap = p.0.3 i }

-- the ends of a new ring
pub one_ring : (p : Producer (Vec ℕ) Global AnyItems) (c : Consumer (Vec ℕ) Global AnyItems) → IsPair p c
    → taken_from c ≡ put_into p
one_ring p c s = λ i. record { words = s.0 i; slots = s.1 i; names = s.2 i; heap = s.3 i }

-- what a producer has finished is of the ring of a consumer
pub finished_of : (p : Producer (Vec ℕ) Global AnyItems) (f : Finished (Vec ℕ) Global AnyItems)
    (c : Consumer (Vec ℕ) Global AnyItems) → taken_from c ≡ put_into p → Finishes p f → IsFinishedOf f c
finished_of p f c same s = (
  ap (λ r. r.words) same ∙ sym s.0.0,
  ap (λ r. r.slots) same ∙ sym s.0.1,
  ap (λ r. r.names) same ∙ sym s.0.2,
  ap (λ r. r.heap) same ∙ sym s.0.3,
)
