-- What was read and handed on: nothing, one frame, a piece, and some after others.
use Rattle.std.proofs.Common.{ℕ, ◌≡◌, ◌⊎◌, ◌-◌, ◌<◌, ◌≤◌, min, length, take, arith, Option, Some, None, List, [], ◌∷◌, ◌++◌, append-nil, append_assoc, refl, sym, ap, ◌∙◌, subst, inl, inr}
use Rattle.std.specs.Global.{Vec}
use Rattle.std.specs.Io.KnownBytes.{Consumes, IsAtEnd, Keeps, ReadConsumes}
use Rattle.std.specs.List.{AllByRecursion}
use Rattle.std.proofs.KnownBytes.{Consumes-nil, Consumes-trans}
use Rattle.std.proofs.lemmas.List.{take_all}
use Rattle.rtrb.specs.Ring.{SameProducer, sent}
use Rattle.host_frames.specs.Frames.{framed}
use Rattle.host_frames.specs.Stream.{IsBody, Refuses, stream_of}
use Rattle.std.specs.Prelude.{Bool, true, false, Result, Ok, Err}
use Rattle.host_frames.specs.Blocks.{Blocks, Expands, expanded, kept}
use Rattle.i8080_words.specs.declared.refusal.Fault.{Fault}
use Rattle.host_frames.specs.StreamReading.{EndsWith, Handed, HandsBody, HandsNext, NotHanded, Reads, Stays, contents_of, end_of}
use Rattle.host_frames.proofs.Blocks.{expanded_body, expands_both}
use Rattle.host_frames.specs.Slots.{blocks_in}
use Rattle.host_frames.specs.declared.reader.FrameReader.{FrameReader}
use Rattle.host_frames.specs.declared.reader.StreamEnd.{StreamEnd}

streams_both : (xs ys : List (List ℕ)) → stream_of (xs ++ ys) ≡ stream_of xs ++ stream_of ys
streams_both [] ys = refl
streams_both (x ∷ xs) ys =
    ap (λ l. framed x ++ l) (streams_both xs ys) ∙ sym (append_assoc (framed x) (stream_of xs) (stream_of ys))

pub contents_both : (xs ys : List (Vec ℕ)) → contents_of (xs ++ ys) ≡ contents_of xs ++ contents_of ys
contents_both [] ys = refl
contents_both (x ∷ xs) ys = ap (λ l. x.items ∷ l) (contents_both xs ys)

all_both : (xs ys : List (Vec ℕ)) → AllByRecursion IsBody (contents_of xs) → AllByRecursion IsBody (contents_of ys)
    → AllByRecursion IsBody (contents_of (xs ++ ys))
all_both [] ys p q = q
all_both (x ∷ xs) ys p q = (p.0, all_both xs ys p.1 q)

-- a read that kept the bytes took none
pub keeps_consumed : (a b : Option (List ℕ)) → Keeps a b → Consumes a b []
keeps_consumed None b p = tt
keeps_consumed (Some xs) None p = absurd p
keeps_consumed (Some xs) (Some ys) p = sym p

-- a frame that is refused is the reason to end
pub refused_so : (fault : Fault) (left : Option (List ℕ)) (blocks : Blocks) (pending : List ℕ) → Refuses fault pending
    → EndsWith (Some (end_of fault)) left blocks pending
refused_so fault left blocks pending why = elim why [
  | inl p ↦ subst (λ f. EndsWith (Some (end_of f)) left blocks pending) (sym p.0) (inl p.1)
  | inr p ↦ subst (λ f. EndsWith (Some (end_of f)) left blocks pending) (sym p.0) p.1
]

-- and so is a body that is not handed on
not_handed : (end : StreamEnd) (left : Option (List ℕ)) (blocks : Blocks) (wire more pending : List ℕ) → IsBody wire
    → pending ≡ framed wire ++ more
    → ((end ≡ StreamEnd.Malformed) × (expanded blocks wire ≡ None)) ⊎ (end ≡ StreamEnd.OutOfMemory)
    → EndsWith (Some end) left blocks pending
not_handed end left blocks wire more pending is same why = elim why [
  | inl p ↦ subst (λ e. EndsWith (Some e) left blocks pending) (sym p.0)
      (inr (record { body = wire; more = more; same = same; unknown = p.1 }))
  | inr p ↦ subst (λ e. EndsWith (Some e) left blocks pending) (sym p)
      (record { body = wire; rest = more; is_body = is; same = same })
]

-- a read of no bytes took none, and nothing is left
pub ended : {E : Type 0} (a b : Option (List ℕ)) (r : Result ℕ E) (n : ℕ) (piece : List ℕ) → r ≡ Ok n → n ≡ 0
    → ReadConsumes a b r piece → 0 < length piece → Consumes a b [] × IsAtEnd b
ended a b r n piece is none reads some =
    let p = subst (λ o. ReadConsumes a b o piece) is reads in
    (subst (λ k. Consumes a b (take k piece)) none p.0, p.1 none some)

-- a buffer with less than a whole frame takes all of a piece
pub fed : (old new piece : List ℕ) (count : ℕ) → new ≡ old ++ take count piece → count ≡ min (length piece) (8192 - length old)
    → length old < 4096 → length piece ≤ 4096 → new ≡ old ++ piece
fed old new piece count is counted few most =
    let all : length piece ≤ count = omega (arith, counted, few, most) in
    is ∙ ap (λ l. old ++ l) (take_all count piece all)

-- what is pending is the rest, whatever end there is
stays_so : (end : Option StreamEnd) (P : Type 0) → P → Stays end P
stays_so None P p = p
stays_so (Some StreamEnd.Closed) P p = p
stays_so (Some (StreamEnd.Failed failed)) P p = p
stays_so (Some StreamEnd.Malformed) P p = tt
stays_so (Some StreamEnd.OutOfMemory) P p = tt
stays_so (Some (StreamEnd.Deserted deserted)) P p = p

-- or a frame is the reason to end
refused_stays : (end : StreamEnd) (Q P : Type 0) → ((end ≡ StreamEnd.Malformed) × Q) ⊎ (end ≡ StreamEnd.OutOfMemory)
    → Stays (Some end) P
refused_stays end Q P why = elim why [
  | inl p ↦ subst (λ e. Stays (Some e) P) (sym p.0) tt
  | inr p ↦ subst (λ e. Stays (Some e) P) (sym p) tt
]

module _ {S : Type 0} (left : S → Option (List ℕ)) where
  pub same_on : (a b c : FrameReader S) → SameProducer a.bodies b.bodies → SameProducer b.bodies c.bodies
      → SameProducer a.bodies c.bodies
  same_on a b c p q = ((q.0.0 ∙ p.0.0, q.0.1 ∙ p.0.1, q.0.2 ∙ p.0.2, q.0.3 ∙ p.0.3), q.1 ∙ p.1)

  pub consumed_none : (a b : FrameReader S) → b.source ≡ a.source → Consumes (left a.source) (left b.source) []
  consumed_none a b source =
      subst (λ s. Consumes (left a.source) (left s) []) (sym source) (Consumes-nil (left a.source))

  -- nothing was taken and nothing handed on
  pub of_none : (end : Option StreamEnd) (a b : FrameReader S) → Consumes (left a.source) (left b.source) []
      → b.pending ≡ a.pending → b.carried ≡ a.carried → sent b.bodies ≡ sent a.bodies
      → EndsWith end (left b.source) (blocks_in b.carried) b.pending → SameProducer a.bodies b.bodies → Reads left end a b
  of_none end a b consumed pending carried bodies over same = record {
    taken = [];
    bodies = [];
    wires = [];
    blocks = blocks_in b.carried;
    rest = b.pending;
    consumed = consumed;
    handed = bodies ∙ sym (append-nil (sent a.bodies));
    whole = tt;
    stream = append-nil a.pending ∙ sym pending;
    expands = ap blocks_in carried;
    over = over;
    stays = stays_so end ((b.pending ≡ b.pending) × (blocks_in b.carried ≡ blocks_in b.carried)) (refl, refl);
    same = same;
  }

  pub none_yet : (a b : FrameReader S) → b.source ≡ a.source → b.pending ≡ a.pending → b.carried ≡ a.carried
      → sent b.bodies ≡ sent a.bodies → SameProducer a.bodies b.bodies → Reads left None a b
  none_yet a b source pending carried bodies same =
      of_none None a b (consumed_none a b source) pending carried bodies tt same

  -- one frame came out of what is pending, and was handed on
  pub of_one : (a m b : FrameReader S) (wire : List ℕ) → m.source ≡ a.source → m.carried ≡ a.carried
      → sent m.bodies ≡ sent a.bodies → SameProducer a.bodies m.bodies → IsBody wire
      → a.pending ≡ framed wire ++ m.pending → Handed m wire b → Reads left None a b
  of_one a m b wire source carried bodies same is pending h = record {
    taken = [];
    bodies = h.body ∷ [];
    wires = wire ∷ [];
    blocks = blocks_in b.carried;
    rest = b.pending;
    consumed = consumed_none a b (h.source ∙ source);
    handed = h.handed ∙ ap (λ l. l ++ h.body ∷ []) bodies;
    whole = (expanded_body (blocks_in m.carried) wire h.body.items is h.expands, tt);
    stream =
        append-nil a.pending ∙ pending ∙ ap (λ l. framed wire ++ l) (sym h.pending)
        ∙ ap (λ l. l ++ b.pending) (sym (append-nil (framed wire)));
    expands = (
      subst (λ c. expanded (blocks_in c) wire ≡ Some h.body.items) carried h.expands,
      h.keeps ∙ ap (λ c. kept (blocks_in c) wire) carried,
    );
    over = tt;
    stays = (refl, refl);
    same = same_on a m b same h.same;
  }

  -- or was not, which is the reason to end
  pub of_refused : (a m b : FrameReader S) (wire : List ℕ) (end : StreamEnd) → m.source ≡ a.source → m.carried ≡ a.carried
      → sent m.bodies ≡ sent a.bodies → SameProducer a.bodies m.bodies → IsBody wire
      → a.pending ≡ framed wire ++ m.pending → NotHanded m wire end b → Reads left (Some end) a b
  of_refused a m b wire end source carried bodies same is pending h = record {
    taken = [];
    bodies = [];
    wires = [];
    blocks = blocks_in a.carried;
    rest = a.pending;
    consumed = consumed_none a b (h.source ∙ source);
    handed = ap sent h.handed ∙ bodies ∙ sym (append-nil (sent a.bodies));
    whole = tt;
    stream = append-nil a.pending;
    expands = refl;
    over = not_handed end (left b.source) (blocks_in a.carried) wire m.pending a.pending is pending
        (subst (λ c. ((end ≡ StreamEnd.Malformed) × (expanded (blocks_in c) wire ≡ None)) ⊎ (end ≡ StreamEnd.OutOfMemory))
        carried h.why);
    stays = refused_stays end (expanded (blocks_in m.carried) wire ≡ None)
        ((a.pending ≡ b.pending) × (blocks_in a.carried ≡ blocks_in b.carried)) h.why;
    same = subst (λ r. SameProducer a.bodies r) (sym h.handed) same;
  }

  -- one or the other
  pub handed_next : (a m b : FrameReader S) (wire : List ℕ) (result : Result Bool StreamEnd) → m.source ≡ a.source
      → m.carried ≡ a.carried → sent m.bodies ≡ sent a.bodies → SameProducer a.bodies m.bodies → IsBody wire
      → a.pending ≡ framed wire ++ m.pending → HandsBody m wire result b → HandsNext left result a b
  handed_next a m b wire (Ok true) source carried bodies same is pending h =
      of_one a m b wire source carried bodies same is pending h
  handed_next a m b wire (Ok false) source carried bodies same is pending h = absurd h
  handed_next a m b wire (Err end) source carried bodies same is pending h =
      of_refused a m b wire end source carried bodies same is pending h

  -- a piece was taken
  pub of_piece : (a b : FrameReader S) (piece : List ℕ) → Consumes (left a.source) (left b.source) piece
      → b.pending ≡ a.pending ++ piece → b.carried ≡ a.carried → b.bodies ≡ a.bodies → Reads left None a b
  of_piece a b piece consumed pending carried bodies = record {
    taken = piece;
    bodies = [];
    wires = [];
    blocks = blocks_in b.carried;
    rest = b.pending;
    consumed = consumed;
    handed = ap sent bodies ∙ sym (append-nil (sent a.bodies));
    whole = tt;
    stream = sym pending;
    expands = ap blocks_in carried;
    over = tt;
    stays = (refl, refl);
    same = subst (λ r. SameProducer a.bodies r) (sym bodies) ((refl, refl, refl, refl), refl);
  }

  -- some after others
  pub and_then : (end : Option StreamEnd) (a b c : FrameReader S) → Reads left None a b → Reads left end b c
      → Reads left end a c
  and_then end a b c p q = record {
    taken = p.taken ++ q.taken;
    bodies = p.bodies ++ q.bodies;
    wires = p.wires ++ q.wires;
    blocks = q.blocks;
    rest = q.rest;
    consumed = Consumes-trans (left a.source) (left b.source) (left c.source) p.taken q.taken p.consumed q.consumed;
    handed = q.handed ∙ ap (λ l. l ++ q.bodies) p.handed ∙ append_assoc (sent a.bodies) p.bodies q.bodies;
    whole = all_both p.bodies q.bodies p.whole q.whole;
    stream =
        sym (append_assoc a.pending p.taken q.taken)
        ∙ ap (λ l. l ++ q.taken) p.stream
        ∙ append_assoc (stream_of p.wires) p.rest q.taken
        ∙ ap (λ l. stream_of p.wires ++ (l ++ q.taken)) p.stays.0
        ∙ ap (λ l. stream_of p.wires ++ l) q.stream
        ∙ sym (append_assoc (stream_of p.wires) (stream_of q.wires) q.rest)
        ∙ ap (λ l. l ++ q.rest) (sym (streams_both p.wires q.wires));
    expands =
        subst (λ l. Expands (blocks_in a.carried) (p.wires ++ q.wires) l q.blocks) (sym (contents_both p.bodies q.bodies))
        (expands_both (blocks_in a.carried) (blocks_in b.carried) q.blocks p.wires q.wires (contents_of p.bodies) (contents_of q.bodies)
        (subst (λ o. Expands (blocks_in a.carried) p.wires (contents_of p.bodies) o) p.stays.1 p.expands) q.expands);
    over = q.over;
    stays = q.stays;
    same = same_on a b c p.same q.same;
  }
