-- Why a stream delivers only what was written to it: the thread that writes it and the thread that reads it alter nothing, if the
-- bytes that one took are the first ones that the other has written, and neither had kept a block before.
use Rattle.std.specs.Prelude.{◌≡◌, ℕ, List, [], map, Option}
use Rattle.std.specs.Global.{Vec}
use Rattle.std.specs.List.{AllByRecursion}
use Rattle.host_frames.specs.StreamReading.{Reads, contents_of}
use Rattle.host_frames.specs.Writing.{Wrote, joined}
use Rattle.host_frames.specs.declared.reader.FrameReader.{FrameReader}
use Rattle.host_frames.specs.declared.reader.StreamEnd.{StreamEnd}
use Rattle.host_frames.specs.declared.writer.FrameWriter.{FrameWriter}
use Rattle.host_frames.specs.Frames.{IsSpelling, Said, framed}
use Rattle.pair_protocol.specs.Faithful.{IsPrefix}
use Rattle.command_console.specs.Processes.{Delivered}

-- the frame spells something
abbrev pub IsFrame : Vec ℕ → Type 0
IsFrame bytes = (said : Said) × IsSpelling said bytes.items

-- the bodies that were handed on are those of the first frames that were written, each once and in order
abbrev pub StreamsDeliver : (R W : Type 0) → Type 0
StreamsDeliver R W =
    (left : R → Option (List ℕ)) (contents : W → Option (List ℕ)) (end : Option StreamEnd) (a b : FrameReader R)
    (c d : FrameWriter W) (reads : Reads left end a b) (wrote : Wrote contents c d) → a.pending ≡ [] → a.carried ≡ [] →
    c.carried ≡ [] → AllByRecursion IsFrame wrote.frames → IsPrefix reads.taken (joined wrote.wires) →
    IsPrefix (map framed (contents_of reads.bodies)) (contents_of wrote.frames)
    × Delivered (contents_of reads.bodies) (contents_of wrote.frames)
