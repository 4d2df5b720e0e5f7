-- Which ring an end belongs to, and what is left in a ring.
use denote.RawPtr.{Ptr}
use Rattle.std.specs.Prelude.{◌≡◌, ◌++◌, ℕ, List, length}
use Rattle.std.specs.Global.{Global, Vec}
use Rattle.rtrb.specs.Ring.{all_sent, received}
use Rattle.rtrb.specs.declared.AnyItems.{AnyItems}
use Rattle.rtrb.specs.declared.consumer.Consumer.{Consumer}
use Rattle.rtrb.specs.declared.end.End.{End}
use Rattle.rtrb.specs.declared.finished.Finished.{Finished}
use Rattle.rtrb.specs.declared.producer.Producer.{Producer}

-- where a ring lies, and its names: no two rings have the same
pub record Ring : Type 0 where
  pub words : Ptr
  pub slots : Ptr
  pub names : ℕ × (ℕ × ℕ)
  pub heap : Global

abbrev pub ring_of : End (Vec ℕ) Global AnyItems → Ring
ring_of e = record { words = e.words; slots = e.slots; names = e.names; heap = e.heap }

-- the ring out of which an end takes, and the one into which an end puts
abbrev pub taken_from : Consumer (Vec ℕ) Global AnyItems → Ring
taken_from c = ring_of c.end

abbrev pub put_into : Producer (Vec ℕ) Global AnyItems → Ring
put_into p = ring_of p.end

-- so many items were put into a ring and not taken out
pub record Leaves (finished : Finished (Vec ℕ) Global AnyItems) (from : Consumer (Vec ℕ) Global AnyItems) (count : ℕ) : Type 0 where
  pub rest : List (Vec ℕ)
  pub counted : length rest ≡ count
  pub all : received from ++ rest ≡ all_sent finished
