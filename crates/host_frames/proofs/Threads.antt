-- When the threads at the two ends of a stream have ended.
use Rattle.std.proofs.Common.{ℕ, suc, ◌≡◌, Option, Some, Ok, Err, List, [], ◌∷◌, ◌++◌, length, refl, sym, ap, ◌∙◌, subst}
use Rattle.std.proofs.lemmas.Bool.{false≢true}
use Rattle.std.specs.Global.{Global, Vec}
use Rattle.std.specs.Prelude.{IfOk, IsOk, OnOk, Result}
use Rattle.std.specs.Io.KnownBytes.{Consumes}
use Rattle.std.specs.List.{AllByRecursion}
use Rattle.host_frames.proofs.StreamReading.{contents_both}
use Rattle.host_frames.proofs.Rings.{finished_of, one_ring, put_into_same, taken_from_same}
use Rattle.host_frames.proofs.Writing.{and_then}
use Rattle.host_frames.specs.Blocks.{Expands, Shortens}
use Rattle.host_frames.specs.StreamReading.{EndsWith, contents_of}
use Rattle.host_frames.specs.Rings.{Leaves}
use Rattle.host_frames.specs.Threads.{HasRead, HasWritten, ReadsInto, WasReadBut, WasWritten, WritesFrom}
use Rattle.host_frames.specs.Slots.{blocks_in}
use Rattle.host_frames.specs.Writing.{WroteRest}
use Rattle.host_frames.specs.declared.reader.FrameReader.{FrameReader}
use Rattle.host_frames.specs.declared.read_thread.ReadEnd.{ReadEnd}
use Rattle.host_frames.specs.declared.writer.FrameWriter.{FrameWriter}
use Rattle.host_frames.specs.Stream.{IsBody}
use Rattle.rtrb.specs.Ring.{Finishes, IsFinishedOf, IsPair, received, sent}
use Rattle.rtrb.specs.declared.AnyItems.{AnyItems}
use Rattle.rtrb.specs.declared.consumer.Consumer.{Consumer}
use Rattle.rtrb.specs.declared.finished.Finished.{Finished}
use Rattle.rtrb.specs.declared.producer.Producer.{Producer}

-- ---- reading

contents_length : (xs : List (Vec ℕ)) → length (contents_of xs) ≡ length xs
contents_length [] = refl
contents_length (x ∷ xs) = ap suc (contents_length xs)

-- a reader over a new ring
pub reads_into : {S : Type 0} (source : S) (pending : List ℕ) (carried : List (Option (List ℕ)))
    (to : Producer (Vec ℕ) Global AnyItems)
    (from : Consumer (Vec ℕ) Global AnyItems) (reader : FrameReader S)
    → reader ≡ record { source = source; pending = pending; carried = carried; bodies = to } → pending ≡ []
    → carried ≡ [] → sent to ≡ [] → IsPair to from → ReadsInto source from reader
reads_into source pending carried to from reader is none unkept unsent pair =
    subst (λ (r : FrameReader _). ReadsInto source from r) (sym is)
    (record {
      source_is = refl;
      none_pending = none;
      none_kept = unkept;
      none_handed = unsent;
      ring = one_ring to from pair;
    })

module _ {S : Type 0} (left : S → Option (List ℕ)) where
  -- the ring is the one that the reader has left
  pub is_finished : (old : FrameReader S) (read : ReadEnd S) (bodies : Consumer (Vec ℕ) Global AnyItems)
      (finished : Finished (Vec ℕ) Global AnyItems) → ReadsInto old.source bodies old → HasRead left old read
      → read.finished ≡ Ok finished → IsFinishedOf finished bodies
  is_finished old read bodies finished into has is =
      finished_of has.new.bodies finished bodies
      (into.ring ∙ sym (put_into_same old.bodies has.new.bodies has.reads.same))
      (subst (λ o. IfOk o (Finishes has.new.bodies)) is has.finishes)

  -- what was taken out, and then what is left, is all that was handed on
  pub was_read : (old : FrameReader S) (read : ReadEnd S) (bodies : Consumer (Vec ℕ) Global AnyItems)
      (finished : Finished (Vec ℕ) Global AnyItems) (count : ℕ) → ReadsInto old.source bodies old → HasRead left old read
      → read.finished ≡ Ok finished → Leaves finished bodies count
      → WasReadBut left old.source (contents_of (received bodies)) read.source read.end count
  was_read old read bodies finished count into has is leaves =
      let finishes : Finishes has.new.bodies finished = subst (λ o. IfOk o (Finishes has.new.bodies)) is has.finishes in
      let handed : contents_of has.reads.bodies ≡ contents_of (received bodies) ++ contents_of leaves.rest =
      ap contents_of (sym (leaves.all ∙ finishes.1 ∙ has.reads.handed ∙ ap (λ l. l ++ has.reads.bodies) into.none_handed))
      ∙ contents_both (received bodies) leaves.rest in
      record {
        rest = contents_of leaves.rest;
        counted = contents_length leaves.rest ∙ leaves.counted;
        read = record {
          taken = has.reads.taken;
          wires = has.reads.wires;
          blocks = has.reads.blocks;
          rest = has.reads.rest;
          consumed = subst (λ s. Consumes (left old.source) (left s) has.reads.taken) (sym has.source_is) has.reads.consumed;
          whole = subst (λ l. AllByRecursion IsBody l) handed has.reads.whole;
          stream = sym (ap (λ l. l ++ has.reads.taken) into.none_pending) ∙ has.reads.stream;
          expands =
              subst (λ o. Expands (blocks_in o) has.reads.wires (contents_of (received bodies) ++ contents_of leaves.rest) has.reads.blocks)
              into.none_kept (subst (λ l. Expands (blocks_in old.carried) has.reads.wires l has.reads.blocks) handed has.reads.expands);
          over = subst (λ s. EndsWith (Some read.end) (left s) has.reads.blocks has.reads.rest) (sym has.source_is) has.reads.over;
        };
      }

-- ---- writing

-- a writer over a new ring
pub writes_from : {W : Type 0} (sink : W) (carried : List (Option (List ℕ))) (to : Producer (Vec ℕ) Global AnyItems)
    (from : Consumer (Vec ℕ) Global AnyItems) (writer : FrameWriter W)
    → writer ≡ record { sink = sink; carried = carried; frames = from } → carried ≡ [] → received from ≡ []
    → IsPair to from → WritesFrom sink to writer
writes_from sink carried to from writer is unkept none pair = subst (λ (w : FrameWriter _). WritesFrom sink to w) (sym is)
    (record { sink_is = refl; none_came = none; none_kept = unkept; ring = one_ring to from pair })

-- what holds of a call that went well
pub when_ok : {T E P : Type 0} (r : Result T E) → IsOk r → OnOk r P → P
when_ok (Ok x) is p = p
when_ok (Err e) is p = absurd (false≢true is)

module _ {W : Type 0} (contents : W → Option (List ℕ)) where
  -- the ring is the one into which nothing more is put
  pub is_finished_too : (old new : FrameWriter W) (frames : Producer (Vec ℕ) Global AnyItems)
      (finished : Finished (Vec ℕ) Global AnyItems) → WritesFrom old.sink frames old → HasWritten contents old new
      → Finishes frames finished → IsFinishedOf finished new.frames
  is_finished_too old new frames finished from has finishes =
      finished_of frames finished new.frames (taken_from_same old.frames new.frames has.wrote.same ∙ from.ring) finishes

  -- what it took out was written, and then all that was left
  pub was_written : (old left : FrameWriter W) (frames : Producer (Vec ℕ) Global AnyItems)
      (finished : Finished (Vec ℕ) Global AnyItems) (sink : W) → WritesFrom old.sink frames old → HasWritten contents old left
      → Finishes frames finished → WroteRest contents left finished sink
      → WasWritten contents old.sink (contents_of (sent frames)) sink
  was_written old left frames finished sink from has finishes rest =
      let wrote = and_then contents old left rest.new has.wrote rest.wrote in
      let came : wrote.frames ≡ sent frames =
      sym (ap (λ l. l ++ wrote.frames) from.none_came) ∙ sym wrote.came ∙ rest.all ∙ finishes.1 in
      subst (λ s. WasWritten contents old.sink (contents_of (sent frames)) s) (sym rest.sink_is)
      (record {
        wires = wrote.wires;
        blocks = blocks_in rest.new.carried;
        shortens =
            subst (λ o. Shortens (blocks_in o) (contents_of (sent frames)) wrote.wires (blocks_in rest.new.carried)) from.none_kept
            (subst (λ l. Shortens (blocks_in old.carried) (contents_of l) wrote.wires (blocks_in rest.new.carried)) came wrote.shortens);
        written = wrote.written;
      })
