-- What the writing thread has written of the frames that it was given.
use Rattle.std.specs.Prelude.{◌≡◌, ◌⊎◌, ℕ, List, ◌++◌, flat_map, OnOk, Option}
use Rattle.std.specs.Global.{Global, Vec}
use Rattle.std.specs.Io.KnownBytes.{Appends}
use Rattle.rtrb.specs.Ring.{SameConsumer, all_sent, received}
use Rattle.rtrb.specs.declared.AnyItems.{AnyItems}
use Rattle.rtrb.specs.declared.finished.Finished.{Finished}
use Rattle.host_frames.specs.Blocks.{Shortens, body_in, forgotten, kept, shortened}
use Rattle.host_frames.specs.StreamReading.{contents_of}
use Rattle.host_frames.specs.Slots.{blocks_in}
use Rattle.host_frames.specs.declared.write_thread.WrittenStream.{WrittenStream}
use Rattle.host_frames.specs.declared.writer.FrameWriter.{FrameWriter}

-- frames one after another
abbrev pub joined : List (List ℕ) → List ℕ
joined frames = flat_map (λ f. f) frames

-- this frame was written, without its block if that is kept, and nothing else was
pub record WroteFrame {W : Type 0} (contents : W → Option (List ℕ)) (old new : FrameWriter W) (frame : List ℕ) : Type 0 where
  pub wire : List ℕ
  pub short : wire ≡ shortened (blocks_in old.carried) frame
  pub keeps : (blocks_in new.carried ≡ kept (blocks_in old.carried) (body_in wire))
      ⊎ (blocks_in new.carried ≡ forgotten (blocks_in old.carried) (body_in wire))
  pub written : Appends (contents old.sink) (contents new.sink) wire
  pub same : new.frames ≡ old.frames

-- the frames that came were written, each once and in order, without the blocks that are kept, and nothing else was
pub record Wrote {W : Type 0} (contents : W → Option (List ℕ)) (old new : FrameWriter W) : Type 0 where
  pub frames : List (Vec ℕ)
  pub wires : List (List ℕ)
  pub came : received new.frames ≡ received old.frames ++ frames
  pub written : Appends (contents old.sink) (contents new.sink) (joined wires)
  pub shortens : Shortens (blocks_in old.carried) (contents_of frames) wires (blocks_in new.carried)
  pub same : SameConsumer old.frames new.frames

-- all frames that are left in a ring were written after those that came, unless a write failed
pub record WroteRest {W : Type 0} (contents : W → Option (List ℕ)) (old : FrameWriter W)
    (finished : Finished (Vec ℕ) Global AnyItems) (sink : W) : Type 0 where
  pub new : FrameWriter W
  pub wrote : Wrote contents old new
  pub all : received new.frames ≡ all_sent finished
  pub sink_is : sink ≡ new.sink

abbrev pub WritesRest : {W : Type 0} → (W → Option (List ℕ)) → FrameWriter W → Finished (Vec ℕ) Global AnyItems → WrittenStream W → Type 0
WritesRest contents old finished written = OnOk written.end (WroteRest contents old finished written.sink)
