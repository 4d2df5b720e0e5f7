-- One more frame came out of the ring and was written.
use Rattle.std.proofs.Common.{◌≡◌, ◌+◌, ◌∷◌, ◌++◌, [], length, append_assoc, refl, sym, ap, ◌∙◌, subst, arith}
use Rattle.rtrb.specs.Ring.{all_sent, known_items, received}
use Rattle.host_frames.specs.Writing.{WroteFrame}
use Rattle.host_frames.specs.declared.writer.FrameWriter.{FrameWriter}
use Rattle.host_frames.proofs.Writing.{and_then, of_one}
use Rattle.host_frames.proofs.writer.FrameWriter.write_rest.Goals as goal

pub loop-done-preserved : goal.loop-done-preserved
loop-done-preserved g c =
    let old = c.loop-done.self in
    let new = c.write_frame.new.self in
    let left = c.pop_known-left.new.self in
    let m : FrameWriter g.row.W.Denot = record c.loop-done.self { frames = c.pop_known-left.new.self } in
    let came = c.pop_known-left.ensures in
    let wrote : WroteFrame g.W.Write.contents m c.write_frame.new.self c.pop_known-left.result.items =
    subst (λ l. WroteFrame g.W.Write.contents m c.write_frame.new.self l) c.deref.ensures.value c.in_ok-write_frame.ensures in
    let counted = ap length came.received.1 in (
      and_then g.W.Write.contents c.args.self.now old new c.loop-done.invariant.0
          (of_one g.W.Write.contents old m new c.pop_known-left.result refl refl came.received.0 came.ring wrote),
      subst (λ f. received f ++ known_items f ≡ all_sent c.args.finished) (sym wrote.same)
          (ap (λ l. l ++ known_items left) came.received.0
          ∙ append_assoc (received old.frames) (c.pop_known-left.result ∷ []) (known_items left)
          ∙ ap (λ l. received old.frames ++ l) (sym came.received.1)
          ∙ c.loop-done.invariant.1),
      subst (λ f. length (known_items f) + (c.loop-done._done + 1) ≡ c.slots_after-count.result) (sym wrote.same)
          (omega (arith, counted, c.loop-done.invariant.2)),
    )
