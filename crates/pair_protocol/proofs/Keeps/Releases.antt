-- A write that is released waits for each read that the highest generation's backup holds and has not replayed. If a
-- primary releases it, either it was outstanding when its generation began, or the backup has reported the reads up to its
-- note as replayed. If a node of the highest generation is alone, nobody replays.
use Rattle.std.proofs.Common.{◌++◌, ◌+◌, ◌<◌, ◌∙◌, ◌≡◌, ◌≤◌, ◌⊎◌, Some, ap, append-nil, arith, inl, inr, length, ltb-true, refl, subst, suc, sym, take, true, ℕ}
use Rattle.std.specs.Prelude.{nat_le, nat_lt, slice_get}
use Rattle.std.proofs.lemmas.Bool.{leb-true, and_parts}
use Rattle.pair_protocol.proofs.Words.{Acts, Alone, Among, Copying, IsPrefix, Lawful, Machine, Node, OpId, Operation, Primary, Replaying, Role, Runs, SectorWrite, Serving, World, Write, covers, cut, entries, id_of, inputs, inputs_of, keys, keys_covered, note_of, operations, steps}
use Rattle.pair_protocol.proofs.Invariant.Acting.{Acting, ActingPrimary, BackupActs, PrimaryActs, PrimaryAtTop, PrimaryEarlier, PrimaryPlace, acting, acting_primary, acts-no_spare, line_at}
use Rattle.pair_protocol.proofs.Invariant.Settled.{covers-below}
use Rattle.pair_protocol.proofs.Invariant.{BackupHere, Inv, IsPrimary, Line, PrimaryWon, WaitsAt, settled}
use Rattle.pair_protocol.proofs.Keeps.Alone.{alone}
use Rattle.pair_protocol.proofs.Keeps.Primary.{primary-runs}
use Rattle.pair_protocol.proofs.Traces.Cuts.{cut-more, entries-cut}
use Rattle.pair_protocol.proofs.Traces.Lists.{among-left, among-prefix, among-right, among-split, get-prefix, le-not, prefix-length, prefix-trans, same_some}
use Rattle.pair_protocol.proofs.Traces.Moves.{inputs-append, inputs_of-entries, keys-prefix, operations-append, operations-prefix}

covered : {S : Type 0} (M : Machine S) (C : Copying S) (w : World S) (i : Inv M C w) (g k : ℕ) →
    k ≤ length (i.each g).line.held → IsPrefix ((i.each g).line.base ++ cut k (i.each g).line.own) i.trace
covered M C w i g k h = let l = (i.each g).line in
    prefix-trans (l.base ++ cut k l.own) (settled l) i.trace
    (covers-below l.stage l.base l.own l.more k (length l.held) h) (i.each g).below

module _ {S : Type 0} (M : Machine S) (C : Copying S) (laws : Lawful M) (w : World S) (i : Inv M C w) (n : ℕ)
    (x : Node S) where
  -- what a primary releases is settled in its own generation
  pub released_here : (name : OpId) (o : Operation) → Acts w n x Primary → M.find x.machine name ≡ Some o →
      covers x.covered x.reported (note_of x.notes name) ≡ true → Among o (operations (settled (line_at i x)))
  released_here name o acts pending cover =
      go (among-split o (operations l.base) (operations l.own)
      (subst (λ zs. Among o zs) (operations-append l.base l.own)
      (laws.given (l.base ++ l.own) x.machine name o runs pending)))
    where
      l : Line S
      l = line_at i x

      p : IsPrimary M l x
      p = (acting_primary M C w i n x acts).is_primary

      runs : Runs M M.boot (l.base ++ l.own) x.machine
      runs = primary-runs M C w i x p

      go : Among o (operations l.base) ⊎ Among o (operations l.own) → Among o (operations (settled l))
      go (inl h) = among-prefix o (operations l.base) (operations (settled l))
          (operations-prefix l.base (settled l)
          (subst (λ zs. IsPrefix zs (settled l)) (append-nil l.base)
          (covers-below l.stage l.base l.own l.more 0 (length l.held) (omega arith)))) h
      go (inr h) =
          let r = (p.logged acts.role_is).notes o h in
          let e : id_of o ≡ name = laws.named (l.base ++ l.own) x.machine name o runs pending in
          let c : r.note.index < x.covered = ltb-true r.note.index x.covered
          (and_parts (nat_lt r.note.index x.covered) (nat_le r.note.after x.reported)
          (subst (λ z. covers x.covered x.reported z ≡ true) r.found
          (subst (λ z. covers x.covered x.reported (note_of x.notes z) ≡ true) (sym e) cover))).0 in
          let d = p.covered in
          let k : suc r.note.index ≤ length l.held = omega arith in
          among-prefix o (operations (l.base ++ cut (suc r.note.index) l.own)) (operations (settled l))
          (operations-prefix (l.base ++ cut (suc r.note.index) l.own) (settled l)
          (covers-below l.stage l.base l.own l.more (suc r.note.index) (length l.held) k))
          (subst (λ zs. Among o zs) (sym (operations-append l.base (cut (suc r.note.index) l.own)))
          (among-right o (operations l.base) (operations (cut (suc r.note.index) l.own)) r.given))

  -- and so in the trace
  pub released : (name : OpId) (o : Operation) → Acts w n x Primary → M.find x.machine name ≡ Some o →
      covers x.covered x.reported (note_of x.notes name) ≡ true → Among o (operations i.trace)
  released name o acts pending cover =
      among-prefix o (operations (settled (line_at i x))) (operations i.trace)
      (operations-prefix (settled (line_at i x)) i.trace (i.each x.generation).below)
      (released_here name o acts pending cover)

  pub told_any : (p : ℕ) (r : Role) → Acts w n x r → Serving r →
      keys_covered M x p x.role ≤ length (keys p (inputs 0 i.trace))
  told_any p r acts which = go which
    where
      l : Line S
      l = (i.each x.generation).line

      go : Serving r → keys_covered M x p x.role ≤ length (keys p (inputs 0 i.trace))
      go (inl v) =
          let a = subst (λ z. Acts w n x z) v acts in
          let q = acting_primary M C w i n x a in
          let c = x.covered in
          let e : x.copy ++ inputs_of (take c x.log) ≡ inputs 0 (l.base ++ cut c l.own) =
          ap (λ ts. ts ++ inputs_of (take c x.log)) q.is_primary.copy
          ∙ ap (λ es. inputs 0 l.base ++ inputs_of (take c es)) (q.is_primary.logged a.role_is).log
          ∙ ap (λ es. inputs 0 l.base ++ inputs_of es) (sym (entries-cut l.reads c (steps l.base) l.own))
          ∙ ap (λ ts. inputs 0 l.base ++ ts) (inputs_of-entries l.reads (steps l.base) (cut c l.own))
          ∙ ap (λ j. inputs 0 l.base ++ inputs j (cut c l.own)) (let z : steps l.base ≡ 0 + steps l.base =
          omega arith in z)
          ∙ sym (inputs-append 0 l.base (cut c l.own)) in
          let m = prefix-length (keys p (inputs 0 (l.base ++ cut c l.own))) (keys p (inputs 0 i.trace))
          (keys-prefix p 0 (l.base ++ cut c l.own) i.trace (covered M C w i x.generation c q.is_primary.covered)) in
          let f = ap (λ ts. length (keys p ts)) e in
          subst (λ z. keys_covered M x p z ≤ length (keys p (inputs 0 i.trace))) (sym a.role_is) (omega arith)
      go (inr v) =
          let a = subst (λ z. Acts w n x z) v acts in
          let q = alone M C w i n x a in
          let f = laws.takes_keys i.trace x.machine p q.runs in
          subst (λ z. keys_covered M x p z ≤ length (keys p (inputs 0 i.trace))) (sym a.role_is) (omega arith)

-- a primary's write that is covered waits for each read that is held and not replayed
pub frees : {S : Type 0} (M : Machine S) (C : Copying S) (laws : Lawful M) (w : World S) (i : Inv M C w) (n : ℕ)
    (x : Node S) (name : OpId) (o : Operation) → Acts w n x Primary → M.find x.machine name ≡ Some o →
    covers x.covered x.reported (note_of x.notes name) ≡ true → (k : ℕ) → k ≡ i.top →
    ((i.each k).line.stage ≡ PrimaryWon → ⊥) → (b : Node S) → slice_get w.nodes (i.each k).line.backup ≡ Some b →
    b.generation ≡ k → Replaying b.role → (v : SectorWrite) → o ≡ Write v → WaitsAt (i.each k).line b v
frees {S} M C laws w i n x name o acts pending cover k t s b u gb role v is = place q.place
  where
    q : ActingPrimary M C w i n x
    q = acting_primary M C w i n x acts

    l : Line S
    l = (i.each x.generation).line

    runs : Runs M M.boot (l.base ++ l.own) x.machine
    runs = primary-runs M C w i x q.is_primary

    -- of the generation itself: noted, or there when it began
    noted : (at : x.generation ≡ i.top) → (c : BackupHere M C w.nodes x.generation l) → c.b ≡ b → WaitsAt l b v
    noted at c same j e low got read = go
        (among-split o (operations l.base) (operations l.own)
        (subst (λ zs. Among o zs) (operations-append l.base l.own)
        (laws.given (l.base ++ l.own) x.machine name o runs pending)))
      where
        there : slice_get (entries l.reads (steps l.base) l.own) j ≡ Some e
        there = get-prefix b.held (entries l.reads (steps l.base) l.own) j e
            (subst (λ z. IsPrefix z.held (entries l.reads (steps l.base) l.own)) same c.is_backup.held) got

        go : Among o (operations l.base) ⊎ Among o (operations l.own) →
            Among (Write v) (operations (l.base ++ cut j l.own))
        go (inl m) =
            subst (λ z. Among z (operations (l.base ++ cut j l.own))) is
            (subst (Among o) (sym (operations-append l.base (cut j l.own)))
            (among-left o (operations l.base) (operations (cut j l.own)) m))
        go (inr m) =
            let r = (q.is_primary.logged acts.role_is).notes o m in
            let f : id_of o ≡ name = laws.named (l.base ++ l.own) x.machine name o runs pending in
            let c2 : covers x.covered x.reported (Some r.note) ≡ true =
            subst (λ z. covers x.covered x.reported z ≡ true) r.found
            (subst (λ z. covers x.covered x.reported (note_of x.notes z) ≡ true) (sym f) cover) in
            let after : r.note.after ≤ x.reported =
            leb-true r.note.after x.reported
            (and_parts (nat_lt r.note.index x.covered) (nat_le r.note.after x.reported) c2).1 in
            let told = (i.each x.generation).reads.heard x b
            (subst (λ m. slice_get w.nodes m ≡ Some x) q.spot acts.there)
            (subst (λ z. slice_get w.nodes (i.each z).line.backup ≡ Some b) (t ∙ sym at) u) refl (gb ∙ t ∙ sym at)
            acts.role_is (λ z. elim role [ inl k ↦ (cc) | inr k ↦ (cc) ]) in
            let past : r.note.index < j = le-not j r.note.index (λ few.
            (let z = r.waits v is j e few there read in omega (arith, z, after, told, low))) in
            subst (λ z. Among z (operations (l.base ++ cut j l.own))) is
            (subst (Among o) (sym (operations-append l.base (cut j l.own)))
            (among-right o (operations l.base) (operations (cut j l.own))
            (among-prefix o (operations (cut (suc r.note.index) l.own)) (operations (cut j l.own))
            (operations-prefix (cut (suc r.note.index) l.own) (cut j l.own)
            (cut-more (suc r.note.index) j l.own (omega (arith, past)))) r.given)))

    place : PrimaryPlace M C w.nodes i.top i.trace x.generation l → WaitsAt (i.each k).line b v
    place (PrimaryAtTop g z c) j e low got read =
        subst (λ m. WaitsAt (i.each m).line b v) (g ∙ sym t)
        (noted g c (same_some c.b b (slice_get w.nodes l.backup) c.there
        (subst (λ m. slice_get w.nodes (i.each m).line.backup ≡ Some b) (t ∙ sym g) u))) j e low got read
    place (PrimaryEarlier g z gone) j e low got read =
        let top_line = (i.each i.top).line in
        let m : Among o (operations (settled l)) = released_here M C laws w i n x name o acts pending cover in
        let f : Among o (operations top_line.base) = among-prefix o (operations (settled l)) (operations top_line.base)
        (operations-prefix (settled l) top_line.base (i.earlier x.generation g)) m in
        subst (λ d. Among (Write v) (operations ((i.each d).line.base ++ cut j (i.each d).line.own))) (sym t)
        (subst (λ z. Among z (operations (top_line.base ++ cut j top_line.own))) is
        (subst (Among o) (sym (operations-append top_line.base (cut j top_line.own)))
        (among-left o (operations top_line.base) (operations (cut j top_line.own)) f)))

-- an alone node is of the highest generation; then nobody there replays unless its primary has won
pub alone_frees : {S : Type 0} (M : Machine S) (C : Copying S) (w : World S) (i : Inv M C w) (n : ℕ) (x : Node S) →
    Acts w n x Alone → x.generation ≡ i.top → (k : ℕ) → k ≡ i.top → ((i.each k).line.stage ≡ PrimaryWon → ⊥) →
    (b : Node S) → slice_get w.nodes (i.each k).line.backup ≡ Some b → b.generation ≡ k → Replaying b.role → ⊥
alone_frees {S} M C w i n x acts at_top k t s b u gb role =
    go (acting M C w i n x acts.there (acts-no_spare w n x Alone acts (λ k. (cc))))
  where
    here : slice_get w.nodes (i.each x.generation).line.backup ≡ Some b
    here = subst (λ m. slice_get w.nodes (i.each m).line.backup ≡ Some b) (t ∙ sym at_top) u

    go : Acting M C w i n x → ⊥
    go (PrimaryActs q p) = elim q.is_primary.role [
      | inl r ↦ (let z = acts.role_is in (cc))
      | inr r ↦ s (subst (λ m. (i.each m).line.stage ≡ PrimaryWon) (at_top ∙ sym t) r.1)
    ]
    go (BackupActs q p) =
        let same : x ≡ b = same_some x b (slice_get w.nodes (line_at i x).backup)
        (subst (λ j. slice_get w.nodes j ≡ Some x) q.spot acts.there) here in
        let z : b.role ≡ Alone = ap (λ (y : Node S). y.role) (sym same) ∙ acts.role_is in
        elim role [ inl r ↦ (cc) | inr r ↦ (cc) ]
