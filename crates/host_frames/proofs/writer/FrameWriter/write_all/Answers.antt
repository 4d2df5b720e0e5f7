-- What came so far, and then what came in this turn.
use Rattle.std.proofs.Common.{refl}
use Rattle.host_frames.specs.declared.writer.FrameWriter.{FrameWriter}
use Rattle.host_frames.proofs.Writing.{looked_then}
use Rattle.host_frames.proofs.writer.FrameWriter.write_all.Goals as goal

pub loop-preserved-then-branch : goal.loop-preserved-then-branch
loop-preserved-then-branch g c =
    let m : FrameWriter g.row.W.Denot = record c.loop.self { frames = c.is_abandoned-is_over.new.self } in
    looked_then g.W.Write.contents c.args.self.now c.loop.self m c.write_some.new.self c.loop.invariant refl refl
    c.is_abandoned-is_over.ensures c.in_ok-write_some.ensures.wrote

pub returns-then-is_over-clause-wrote : goal.returns-then-is_over-clause-wrote
returns-then-is_over-clause-wrote g c =
    let m : FrameWriter g.row.W.Denot = record c.loop.self { frames = c.is_abandoned-is_over.new.self } in
    looked_then g.W.Write.contents c.args.self.now c.loop.self m c.write_some.new.self c.loop.invariant refl refl
    c.is_abandoned-is_over.ensures c.in_ok-write_some.ensures.wrote

pub loop-preserved : goal.loop-preserved
loop-preserved g c =
    let m : FrameWriter g.row.W.Denot = record c.loop.self { frames = c.is_abandoned-is_over.new.self } in
    looked_then g.W.Write.contents c.args.self.now c.loop.self m c.write_some.new.self c.loop.invariant refl refl
    c.is_abandoned-is_over.ensures c.in_ok-write_some.ensures.wrote
