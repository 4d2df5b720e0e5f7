-- What the reading thread has taken from its stream, and handed on.
use Rattle.std.specs.Prelude.{◌≡◌, ◌⊎◌, ℕ, Bool, true, false, List, [], ◌∷◌, ◌++◌, map, Option, None, Some, Result, Ok, Err}
use Rattle.std.specs.Global.{Vec}
use Rattle.std.specs.Io.KnownBytes.{Consumes, IsAtEnd}
use Rattle.std.specs.List.{AllByRecursion}
use Rattle.i8080_words.specs.declared.refusal.Fault.{Fault}
use Rattle.i8080_words.specs.declared.refusal.Fault.TheVariants.{OutOfMemory}
use Rattle.rtrb.specs.Ring.{SameProducer, sent}
use Rattle.host_frames.specs.Frames.{framed}
use Rattle.host_frames.specs.Stream.{BeginsNone, BeginsWhole, IsBody, IsPartial, stream_of}
use Rattle.host_frames.specs.Blocks.{Blocks, Expands, expanded, kept}
use Rattle.host_frames.specs.Slots.{blocks_in}
use Rattle.host_frames.specs.declared.reader.FrameReader.{FrameReader}
use Rattle.host_frames.specs.declared.reader.StreamEnd.{StreamEnd}

-- the bytes begin with a whole frame that names a block which is not kept
pub record BeginsUnknown (blocks : Blocks) (bytes : List ℕ) : Type 0 where
  pub body : List ℕ
  pub more : List ℕ
  pub same : bytes ≡ framed body ++ more
  pub unknown : expanded blocks body ≡ None

-- of a stream that was closed no whole frame is left; of one that is malformed the rest begins none, or one that names a block
-- which is not kept; and there was no memory for a frame that is whole
abbrev pub EndsWith : Option StreamEnd → Option (List ℕ) → Blocks → List ℕ → Type 0
EndsWith (Some StreamEnd.Closed) left blocks rest = IsAtEnd left × IsPartial rest
EndsWith (Some StreamEnd.Malformed) left blocks rest = BeginsNone rest ⊎ BeginsUnknown blocks rest
EndsWith (Some StreamEnd.OutOfMemory) left blocks rest = BeginsWhole rest
EndsWith _ left blocks rest = Unit {0}

-- this holds unless a frame is the reason to end
abbrev pub Stays : Option StreamEnd → Type 0 → Type 0
Stays (Some StreamEnd.Malformed) P = Unit {0}
Stays (Some StreamEnd.OutOfMemory) P = Unit {0}
Stays _ P = P

-- how a stream ends whose next frame is refused so
abbrev pub end_of : Fault → StreamEnd
end_of OutOfMemory = StreamEnd.OutOfMemory
end_of _ = StreamEnd.Malformed

-- the bodies of frames, as bytes
abbrev pub contents_of : List (Vec ℕ) → List (List ℕ)
contents_of bodies = map (λ (b : Vec ℕ). b.items) bodies

-- Some bytes were taken. With what was pending they are frames, each once and in order, of which the bodies were handed on, with
-- the blocks that some of them name; and a rest, which is pending now, unless a frame is the reason to end.
pub record Reads {S : Type 0} (left : S → Option (List ℕ)) (end : Option StreamEnd) (old new : FrameReader S)
    : Type 0 where
  pub taken : List ℕ
  pub bodies : List (Vec ℕ)
  pub wires : List (List ℕ)
  pub blocks : Blocks
  pub rest : List ℕ
  pub consumed : Consumes (left old.source) (left new.source) taken
  pub handed : sent new.bodies ≡ sent old.bodies ++ bodies
  pub whole : AllByRecursion IsBody (contents_of bodies)
  pub stream : old.pending ++ taken ≡ stream_of wires ++ rest
  pub expands : Expands (blocks_in old.carried) wires (contents_of bodies) blocks
  pub over : EndsWith end (left new.source) blocks rest
  pub stays : Stays end ((rest ≡ new.pending) × (blocks ≡ blocks_in new.carried))
  pub same : SameProducer old.bodies new.bodies

-- the next frame was handed on, or none is whole, or there is a reason to end
abbrev pub HandsNext : {S : Type 0} → (S → Option (List ℕ)) → Result Bool StreamEnd → FrameReader S → FrameReader S → Type 0
HandsNext left (Ok true) old new = Reads left None old new
HandsNext left (Ok false) old new = Reads left None old new × IsPartial new.pending
HandsNext left (Err end) old new = Reads left (Some end) old new

-- a body that has crossed the stream was handed on, with the block that it names; or why not
pub record Handed {S : Type 0} (old : FrameReader S) (wire : List ℕ) (new : FrameReader S) : Type 0 where
  pub body : Vec ℕ
  pub expands : expanded (blocks_in old.carried) wire ≡ Some body.items
  pub keeps : blocks_in new.carried ≡ kept (blocks_in old.carried) wire
  pub handed : sent new.bodies ≡ sent old.bodies ++ body ∷ []
  pub source : new.source ≡ old.source
  pub pending : new.pending ≡ old.pending
  pub same : SameProducer old.bodies new.bodies

pub record NotHanded {S : Type 0} (old : FrameReader S) (wire : List ℕ) (end : StreamEnd) (new : FrameReader S) : Type 0 where
  pub why : ((end ≡ StreamEnd.Malformed) × (expanded (blocks_in old.carried) wire ≡ None)) ⊎ (end ≡ StreamEnd.OutOfMemory)
  pub handed : new.bodies ≡ old.bodies
  pub source : new.source ≡ old.source

abbrev pub HandsBody : {S : Type 0} → FrameReader S → List ℕ → Result Bool StreamEnd → FrameReader S → Type 0
HandsBody old wire (Ok true) new = Handed old wire new
HandsBody old wire (Ok false) new = ⊥
HandsBody old wire (Err end) new = NotHanded old wire end new
