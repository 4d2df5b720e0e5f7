-- What was written: nothing, one frame, and some after others.
use Rattle.std.proofs.Common.{ℕ, ◌≡◌, ◌⊎◌, Option, Some, None, List, [], ◌∷◌, ◌++◌, append-nil, append_assoc, refl, sym, ap, ◌∙◌, subst}
use Rattle.std.specs.Global.{Vec}
use Rattle.std.specs.Io.KnownBytes.{Appends, Keeps}
use Rattle.rtrb.specs.Ring.{ConsumerLooked, SameConsumer, received}
use Rattle.host_frames.proofs.Blocks.{shortens_both}
use Rattle.host_frames.proofs.StreamReading.{contents_both}
use Rattle.host_frames.specs.Blocks.{Shortens, body_in, forgotten, kept, shortened}
use Rattle.host_frames.specs.StreamReading.{contents_of}
use Rattle.host_frames.specs.Writing.{Wrote, WroteFrame, joined}
use Rattle.host_frames.specs.Slots.{blocks_in}
use Rattle.host_frames.specs.declared.writer.FrameWriter.{FrameWriter}

joined_both : (xs ys : List (List ℕ)) → joined (xs ++ ys) ≡ joined xs ++ joined ys
joined_both [] ys = refl
joined_both (x ∷ xs) ys = ap (λ l. x ++ l) (joined_both xs ys) ∙ sym (append_assoc x (joined xs) (joined ys))

appends_none : (a : Option (List ℕ)) → Appends a a []
appends_none None = tt
appends_none (Some xs) = sym (append-nil xs)

pub appends_both : (a b c : Option (List ℕ)) (xs ys : List ℕ) → Appends a b xs → Appends b c ys → Appends a c (xs ++ ys)
appends_both None b c xs ys p q = tt
appends_both (Some a) None c xs ys p q = absurd p
appends_both (Some a) (Some b) None xs ys p q = absurd q
appends_both (Some a) (Some b) (Some c) xs ys p q = q ∙ ap (λ l. l ++ ys) p ∙ append_assoc a xs ys

keeps_appended : (a b c : Option (List ℕ)) (xs : List ℕ) → Appends a b xs → Keeps b c → Appends a c xs
keeps_appended None b c xs p q = tt
keeps_appended (Some a) None c xs p q = absurd p
keeps_appended (Some a) (Some b) None xs p q = absurd q
keeps_appended (Some a) (Some b) (Some c) xs p q = q ∙ p

module _ {W : Type 0} (contents : W → Option (List ℕ)) where
  same_on : (a b c : FrameWriter W) → SameConsumer a.frames b.frames → SameConsumer b.frames c.frames
      → SameConsumer a.frames c.frames
  same_on a b c p q = ((q.0.0 ∙ p.0.0, q.0.1 ∙ p.0.1, q.0.2 ∙ p.0.2, q.0.3 ∙ p.0.3), q.1 ∙ p.1)

  pub nothing_yet : (a b : FrameWriter W) → b.sink ≡ a.sink → b.carried ≡ a.carried → received b.frames ≡ received a.frames
      → SameConsumer a.frames b.frames → Wrote contents a b
  nothing_yet a b sink carried frames same = record {
    frames = [];
    wires = [];
    came = frames ∙ sym (append-nil (received a.frames));
    written = subst (λ s. Appends (contents a.sink) (contents s) []) (sym sink) (appends_none (contents a.sink));
    shortens = ap blocks_in carried;
    same = same;
  }

  -- a frame came, and then it was written
  pub of_one : (a m b : FrameWriter W) (frame : Vec ℕ) → m.sink ≡ a.sink → m.carried ≡ a.carried
      → received m.frames ≡ received a.frames ++ frame ∷ [] → SameConsumer a.frames m.frames
      → WroteFrame contents m b frame.items → Wrote contents a b
  of_one a m b frame sink carried came same w = record {
    frames = frame ∷ [];
    wires = w.wire ∷ [];
    came = ap received w.same ∙ came;
    written = subst (λ s. Appends (contents s) (contents b.sink) (w.wire ++ [])) sink
        (subst (λ l. Appends (contents m.sink) (contents b.sink) l) (sym (append-nil w.wire)) w.written);
    shortens = (
      w.short ∙ ap (λ o. shortened (blocks_in o) frame.items) carried,
      (
        blocks_in b.carried,
        subst (λ o. (blocks_in b.carried ≡ kept (blocks_in o) (body_in w.wire))
            ⊎ (blocks_in b.carried ≡ forgotten (blocks_in o) (body_in w.wire))) carried w.keeps,
        refl,
      ),
    );
    same = subst (λ r. SameConsumer a.frames r) (sym w.same) same;
  }

  pub and_then : (a b c : FrameWriter W) → Wrote contents a b → Wrote contents b c → Wrote contents a c
  and_then a b c p q = record {
    frames = p.frames ++ q.frames;
    wires = p.wires ++ q.wires;
    came = q.came ∙ ap (λ l. l ++ q.frames) p.came ∙ append_assoc (received a.frames) p.frames q.frames;
    written = subst (λ l. Appends (contents a.sink) (contents c.sink) l) (sym (joined_both p.wires q.wires))
        (appends_both (contents a.sink) (contents b.sink) (contents c.sink) (joined p.wires) (joined q.wires)
        p.written q.written);
    shortens =
        subst (λ l. Shortens (blocks_in a.carried) l (p.wires ++ q.wires) (blocks_in c.carried)) (sym (contents_both p.frames q.frames))
        (shortens_both (blocks_in a.carried) (blocks_in b.carried) (blocks_in c.carried) (contents_of p.frames) (contents_of q.frames) p.wires q.wires
        p.shortens q.shortens);
    same = same_on a b c p.same q.same;
  }

  -- a flush changes nothing
  pub flushed : (a b c : FrameWriter W) → Wrote contents a b → Keeps (contents b.sink) (contents c.sink)
      → c.carried ≡ b.carried → c.frames ≡ b.frames → Wrote contents a c
  flushed a b c p kept carried same = record {
    frames = p.frames;
    wires = p.wires;
    came = ap received same ∙ p.came;
    written = keeps_appended (contents a.sink) (contents b.sink) (contents c.sink) (joined p.wires) p.written kept;
    shortens = subst (λ o. Shortens (blocks_in a.carried) (contents_of p.frames) p.wires (blocks_in o)) (sym carried) p.shortens;
    same = subst (λ r. SameConsumer a.frames r) (sym same) p.same;
  }

  -- whether more can come was looked up, and then some were written
  pub looked_then : (a b m c : FrameWriter W) → Wrote contents a b → m.sink ≡ b.sink → m.carried ≡ b.carried
      → ConsumerLooked b.frames m.frames → Wrote contents m c → Wrote contents a c
  looked_then a b m c p sink carried looked q =
      and_then a b c p (and_then b m c (nothing_yet b m sink carried looked.1 looked.0) q)
