-- Bodies that are read from the first bytes of some frames, as these cross, are those of the first of these frames.
use Rattle.std.proofs.Common.{ℕ, ◌≡◌, List, [], ◌∷◌, ◌++◌, map, append_assoc, refl, sym, ap, ◌∙◌, subst, inl, inr, arith}
use Rattle.std.proofs.lemmas.Option.{same_Some}
use Rattle.std.specs.Global.{Vec}
use Rattle.std.specs.List.{AllByRecursion}
use Rattle.host_frames.proofs.Blocks.{back, still_knows, wired, wired_so}
use Rattle.host_frames.specs.Blocks.{Blocks, Expands, Shortens, body_in, expanded, kept, no_blocks, shortened}
use Rattle.host_frames.specs.StreamLaws.{IsPlain, Knows}
use Rattle.host_frames.specs.StreamReading.{contents_of}
use Rattle.host_frames.specs.Slots.{blocks_in}
use Rattle.host_frames.specs.Writing.{joined}
use Rattle.host_frames.proofs.StreamLaws.{framed_front}
use Rattle.host_frames.specs.Frames.{Said, Packet, Tells, Transfers, body_of, framed}
use Rattle.host_frames.specs.Stream.{stream_of}
use Rattle.host_frames.specs.declared.frame.Notice.TheVariants.{Suspect, Won, Lost, Gone, Begin, Join, Report, Progress, Tick, Stop}
use Rattle.host_frames.specs.declared.frame.Transfer.TheVariants.{Byte, Key, Accepted, Write, Written, Failed, Get, Sector, Inspect, Inspected}
use Rattle.pair_protocol.proofs.Traces.Lists.{among-prefix}
use Rattle.pair_protocol.specs.Faithful.{IsPrefix}
use Rattle.pair_protocol.specs.Lawful.{Among}
use Rattle.command_console.specs.Streams.{IsFrame, StreamsDeliver}

-- a list that begins with another number
other_tag : (tag : ℕ) (rest head : List ℕ) → (tag ≡ 0x72 → ⊥) → tag ∷ rest ≡ 0x72 ∷ head → ⊥
other_tag tag rest head differs e =
    let same : tag ≡ 0x72 = cc in
    differs same

-- no frame has the tag of short ones
plain : (said : Said) → IsPlain (body_of said)
plain (Packet host bytes) head e = other_tag 0x50 _ head (λ t. omega (arith, t)) e
plain (Transfers (Byte port number byte)) head e = other_tag 0x42 _ head (λ t. omega (arith, t)) e
plain (Transfers (Key port index byte)) head e = other_tag 0x4B _ head (λ t. omega (arith, t)) e
plain (Transfers (Accepted port count)) head e = other_tag 0x41 _ head (λ t. omega (arith, t)) e
plain (Transfers (Write w)) head e = other_tag 0x57 _ head (λ t. omega (arith, t)) e
plain (Transfers (Written number)) head e = other_tag 0x77 _ head (λ t. omega (arith, t)) e
plain (Transfers (Failed number)) head e = other_tag 0x66 _ head (λ t. omega (arith, t)) e
plain (Transfers (Get a)) head e = other_tag 0x47 _ head (λ t. omega (arith, t)) e
plain (Transfers (Sector r)) head e = other_tag 0x53 _ head (λ t. omega (arith, t)) e
plain (Transfers (Inspect number page)) head e = other_tag 0x49 _ head (λ t. omega (arith, t)) e
plain (Transfers (Inspected number count bytes)) head e = other_tag 0x56 _ head (λ t. omega (arith, t)) e
plain (Tells (Suspect generation)) head e = other_tag 0x55 _ head (λ t. omega (arith, t)) e
plain (Tells (Won generation)) head e = other_tag 0x4F _ head (λ t. omega (arith, t)) e
plain (Tells (Lost generation)) head e = other_tag 0x4C _ head (λ t. omega (arith, t)) e
plain (Tells (Gone host)) head e = other_tag 0x58 _ head (λ t. omega (arith, t)) e
plain (Tells (Begin generation host)) head e = other_tag 0x4E _ head (λ t. omega (arith, t)) e
plain (Tells (Join generation host drives count)) head e = other_tag 0x4A _ head (λ t. omega (arith, t)) e
plain (Tells (Report r)) head e = other_tag 0x45 _ head (λ t. omega (arith, t)) e
plain (Tells (Progress host entries count)) head e = other_tag 0x52 _ head (λ t. omega (arith, t)) e
plain (Tells (Tick number speed)) head e = other_tag 0x54 _ head (λ t. omega (arith, t)) e
plain (Tells Stop) head e = other_tag 0x5A _ head (λ t. omega (arith, t)) e

-- a frame that spells something, as it crosses
crosses : (writer : Blocks) (said : Said) (frame wire : List ℕ) → frame ≡ framed (body_of said) → wire ≡ shortened writer frame →
    wire ≡ framed (wired writer (body_of said))
crosses writer said frame wire spells is = is ∙ ap (shortened writer) spells ∙ wired_so writer (body_of said)

first_frames : (reader last writer new : Blocks) (reads bodies : List (List ℕ)) (frames : List (Vec ℕ)) (wires : List (List ℕ))
    (rest : List ℕ) → Knows reader writer → AllByRecursion IsFrame frames → Expands reader reads bodies last →
    Shortens writer (contents_of frames) wires new → stream_of reads ++ rest ≡ joined wires →
    IsPrefix (map framed bodies) (contents_of frames)
first_frames reader last writer new [] [] frames wires rest knows are expands shortens same = (contents_of frames, refl)
first_frames reader last writer new [] (b ∷ bodies) frames wires rest knows are expands shortens same = absurd expands
first_frames reader last writer new (r ∷ reads) [] frames wires rest knows are expands shortens same = absurd expands
first_frames reader last writer new (r ∷ reads) (b ∷ bodies) [] [] rest knows are expands shortens same = absurd (cc)
first_frames reader last writer new (r ∷ reads) (b ∷ bodies) [] (w ∷ wires) rest knows are expands shortens same = absurd shortens
first_frames reader last writer new (r ∷ reads) (b ∷ bodies) (f ∷ frames) [] rest knows are expands shortens same =
    absurd shortens
first_frames reader last writer new (r ∷ reads) (b ∷ bodies) (f ∷ frames) (w ∷ wires) rest knows are expands shortens same =
    let said = are.0 in
    let body = body_of said.0 in
    let wire : w ≡ framed (wired writer body) = crosses writer said.0 f.items w said.1.same shortens.0 in
    let front = framed_front r (wired writer body) (stream_of reads ++ rest) (joined wires)
    (sym (append_assoc (framed r) (stream_of reads) rest) ∙ same ∙ ap (λ l. l ++ joined wires) wire) in
    let crossed : body_in w ≡ r = ap body_in wire ∙ sym front.0 in
    let out : b ≡ body = same_Some b body
    (sym expands.0 ∙ ap (expanded reader) front.0 ∙ back reader writer body knows (plain said.0)) in
    let knows' : Knows (kept reader r) shortens.1.0 =
    subst (λ l. Knows (kept reader l) shortens.1.0) crossed
    (still_knows reader writer (body_in w) knows shortens.1.0 shortens.1.1) in
    let more = first_frames (kept reader r) last shortens.1.0 new reads bodies frames wires rest knows' are.1 expands.1
    shortens.1.2 front.1 in (
      more.0,
      ap (λ l. framed b ∷ l) more.1 ∙ ap (λ l. l ∷ contents_of frames) (ap framed out ∙ sym said.1.same),
    )

framed_there : (body : List ℕ) (bodies : List (List ℕ)) → Among body bodies → Among (framed body) (map framed bodies)
framed_there body [] among = absurd among
framed_there body (b ∷ bodies) (inl same) = inl (ap framed same)
framed_there body (b ∷ bodies) (inr among) = inr (framed_there body bodies among)

none_known : Knows no_blocks no_blocks
none_known place = inl refl

pub streams_deliver : (R W : Type 0) → StreamsDeliver R W
streams_deliver R W left contents end a b c d reads wrote none unkept unkept' are first =
    let stream = sym reads.stream ∙ ap (λ l. l ++ reads.taken) none in
    let whole = append_assoc (stream_of reads.wires) reads.rest first.0 in
    let prefix = first_frames no_blocks reads.blocks no_blocks (blocks_in d.carried) reads.wires (contents_of reads.bodies)
    wrote.frames wrote.wires (reads.rest ++ first.0) none_known are
    (subst (λ l. Expands (blocks_in l) reads.wires (contents_of reads.bodies) reads.blocks) unkept reads.expands)
    (subst (λ l. Shortens (blocks_in l) (contents_of wrote.frames) wrote.wires (blocks_in d.carried)) unkept' wrote.shortens)
    (sym whole ∙ ap (λ l. l ++ first.0) stream ∙ first.1) in (
      prefix,
      λ body among. among-prefix (framed body) (map framed (contents_of reads.bodies)) (contents_of wrote.frames) prefix
          (framed_there body (contents_of reads.bodies) among),
    )
