-- What the threads at the two ends of a stream have done when they have ended.
use Rattle.std.specs.Prelude.{◌≡◌, ℕ, List, [], ◌++◌, length, IfOk, OnOk, Option, Some}
use Rattle.std.specs.Global.{Global, Vec}
use Rattle.std.specs.Io.KnownBytes.{Appends, Consumes}
use Rattle.std.specs.List.{AllByRecursion}
use Rattle.host_frames.specs.Stream.{IsBody, stream_of}
use Rattle.host_frames.specs.Blocks.{Blocks, Expands, Shortens, no_blocks}
use Rattle.host_frames.specs.StreamReading.{EndsWith, Reads}
use Rattle.host_frames.specs.Rings.{put_into, taken_from}
use Rattle.host_frames.specs.Writing.{Wrote, joined}
use Rattle.host_frames.specs.declared.reader.FrameReader.{FrameReader}
use Rattle.host_frames.specs.declared.reader.StreamEnd.{StreamEnd}
use Rattle.host_frames.specs.declared.read_thread.ReadEnd.{ReadEnd}
use Rattle.host_frames.specs.declared.read_thread.ReadStream.{ReadStream}
use Rattle.host_frames.specs.declared.write_thread.WrittenStream.{WrittenStream}
use Rattle.host_frames.specs.declared.writer.FrameWriter.{FrameWriter}
use Rattle.rtrb.specs.Ring.{Finishes, known_items, received, sent}
use Rattle.rtrb.specs.declared.AnyItems.{AnyItems}
use Rattle.rtrb.specs.declared.consumer.Consumer.{Consumer}
use Rattle.rtrb.specs.declared.producer.Producer.{Producer}

-- ---- reading

-- a thread began to read this stream, of which nothing has come, and hands bodies on into the ring of this end
pub record ReadsInto {S : Type 0} (source : S) (bodies : Consumer (Vec ℕ) Global AnyItems) (reader : FrameReader S)
    : Type 0 where
  pub source_is : reader.source ≡ source
  pub none_pending : reader.pending ≡ []
  pub none_kept : reader.carried ≡ []
  pub none_handed : sent reader.bodies ≡ []
  pub ring : taken_from bodies ≡ put_into reader.bodies

-- it read up to an end, and hands on nothing more
pub record HasRead {S : Type 0} (left : S → Option (List ℕ)) (old : FrameReader S) (read : ReadEnd S) : Type 0 where
  pub new : FrameReader S
  pub reads : Reads left (Some read.end) old new
  pub source_is : read.source ≡ new.source
  pub finishes : IfOk read.finished (Finishes new.bodies)

-- A stream was read up to an end, and these are the bodies of its frames, with the blocks that some of them name: the bytes that
-- were taken are their frames, each once and in order, and what is left of them begins no whole frame if the stream was closed.
-- It ended so.
pub record WasRead {S : Type 0} (left : S → Option (List ℕ)) (from : S) (bodies : List (List ℕ)) (to : S) (end : StreamEnd)
    : Type 0 where
  pub taken : List ℕ
  pub wires : List (List ℕ)
  pub blocks : Blocks
  pub rest : List ℕ
  pub consumed : Consumes (left from) (left to) taken
  pub whole : AllByRecursion IsBody bodies
  pub stream : taken ≡ stream_of wires ++ rest
  pub expands : Expands no_blocks wires bodies blocks
  pub over : EndsWith (Some end) (left to) blocks rest

-- so it was, and these are the bodies of its first frames: all but so many
pub record WasReadBut {S : Type 0} (left : S → Option (List ℕ)) (from : S) (bodies : List (List ℕ)) (to : S) (end : StreamEnd)
    (count : ℕ) : Type 0 where
  pub rest : List (List ℕ)
  pub counted : length rest ≡ count
  pub read : WasRead left from (bodies ++ rest) to end

-- these bodies came of a stream: all but those that it says are left
abbrev pub HasHeard : {S : Type 0} → (S → Option (List ℕ)) → S → List (List ℕ) → ReadStream S → Type 0
HasHeard left from bodies read = IfOk read.left (WasReadBut left from bodies read.source read.end)

-- ---- writing

-- a thread began to write to this stream what goes into the ring of this end, of which nothing has come
pub record WritesFrom {W : Type 0} (sink : W) (frames : Producer (Vec ℕ) Global AnyItems) (writer : FrameWriter W)
    : Type 0 where
  pub sink_is : writer.sink ≡ sink
  pub none_came : received writer.frames ≡ []
  pub none_kept : writer.carried ≡ []
  pub ring : taken_from writer.frames ≡ put_into frames

-- what came to it was written, and nothing more is known to have come
pub record HasWritten {W : Type 0} (contents : W → Option (List ℕ)) (old new : FrameWriter W) : Type 0 where
  pub wrote : Wrote contents old new
  pub rest : known_items new.frames ≡ []

-- these frames were written to a stream, each once and in order, without the blocks that had crossed, and nothing else was
pub record WasWritten {W : Type 0} (contents : W → Option (List ℕ)) (from : W) (frames : List (List ℕ)) (to : W) : Type 0 where
  pub wires : List (List ℕ)
  pub blocks : Blocks
  pub shortens : Shortens no_blocks frames wires blocks
  pub written : Appends (contents from) (contents to) (joined wires)

-- so they were, if it says so
abbrev pub IsWritten : {W : Type 0} → (W → Option (List ℕ)) → W → List (List ℕ) → WrittenStream W → Type 0
IsWritten contents from frames written = OnOk written.end (WasWritten contents from frames written.sink)
