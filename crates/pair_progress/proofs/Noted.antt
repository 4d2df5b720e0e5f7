-- In every world that actions reach: all nodes log their sectors in one way, and each note of a node is of an entry of its
-- log, and waits for no more entries than up to the last read of its log.
use Rattle.std.proofs.Common.{◌≡◌, ℕ, zero, suc, ◌<◌, ◌≤◌, ◌⊎◌, inl, inr, Bool, true, false, cond, Option, Some, None, List, [], ◌∷◌, ◌++◌, length, length-append, refl, sym, ap, subst, ◌∙◌, arith}
use Rattle.std.specs.Prelude.{slice_get, slice_set}
use Rattle.pair_protocol.proofs.Words.{Acts, After, Alone, AtBoot, Backup, Byte, Change, Copying, Draining, Entry, Joining, Machine, Mark, Node, Note, OpId, Operation, Primary, Reached, Reads, Role, Spare, World, Write, begun, entry_of, first_node, id_of, is_read, joiner, note_of, opening, primary_steps, primary_takes, same_name, spare}
use Rattle.pair_protocol.specs.Change as change
use Rattle.pair_protocol.specs.Waiting.{reads_in, up_to_read, waits_for}
use Rattle.pair_protocol.proofs.Traces.Lists.{get-last, get_set_cases, same_some}

-- ---- reads of a log

up-more : (b : Bool) (m n : ℕ) → m ≤ n → up_to_read b m ≤ up_to_read b n
up-more true zero zero le = omega arith
up-more true zero (suc n) le = omega arith
up-more false zero zero le = omega arith
up-more false zero (suc n) le = omega arith
up-more b (suc m) zero le = absurd (omega (arith, le))
up-more b (suc m) (suc n) le = omega (arith, le)

up-few : (b : Bool) (n k : ℕ) → n ≤ k → up_to_read b n ≤ suc k
up-few true zero k le = omega arith
up-few false zero k le = omega arith
up-few b (suc n) k le = omega (arith, le)

pub reads_in-longer : (xs ys : List Entry) → reads_in xs ≤ reads_in (xs ++ ys)
reads_in-longer [] ys = omega arith
reads_in-longer (x ∷ xs) ys = up-more (is_read x) (reads_in xs) (reads_in (xs ++ ys)) (reads_in-longer xs ys)

pub reads_in-few : (xs : List Entry) → reads_in xs ≤ length xs
reads_in-few [] = omega arith
reads_in-few (x ∷ xs) = up-few (is_read x) (reads_in xs) (length xs) (reads_in-few xs)

waits-few : (o : Operation) (log : List Entry) → waits_for o log ≤ reads_in log
waits-few (Write write) log = omega arith
waits-few (Byte port number byte) log = omega arith

-- ---- one node

abbrev pub AreFew : List Note → List Entry → Type 0
AreFew notes log = (name : OpId) (note : Note) → note_of notes name ≡ Some note →
    (note.index < length log) × (note.after ≤ reads_in log)

few-longer : (notes : List Note) (log more : List Entry) → AreFew notes log → AreFew notes (log ++ more)
few-longer notes log more few name note is =
    let f = few name note is in
    let a = f.0 in
    let b = f.1 in
    let l = length-append log more in
    let r = reads_in-longer log more in
    (omega (arith, a, l), omega (arith, b, r))

few-noted : (notes : List Note) (log : List Entry) (o : Operation) (c : ℕ) → AreFew notes log →
    AreFew (record { name = id_of o; index = length log; after = waits_for o log } ∷ notes) (log ++ Mark c ∷ [])
few-noted notes log o c few name note is =
    go (same_name name (id_of o)) is
  where
    new : Note
    new = record { name = id_of o; index = length log; after = waits_for o log }

    go : (b : Bool) → cond b (Some (record { name = id_of o; index = length log; after = waits_for o log }))
        (note_of notes name)
        ≡ Some note → (note.index < length (log ++ Mark c ∷ [])) × (note.after ≤ reads_in (log ++ Mark c ∷ []))
    go true h =
        let e : record { name = id_of o; index = length log; after = waits_for o log } ≡ note =
        same_some _ note (Some (record { name = id_of o; index = length log; after = waits_for o log })) refl h in
        let i : length log ≡ note.index = ap (λ (z : Note). z.index) e in
        let a : waits_for o log ≡ note.after = ap (λ (z : Note). z.after) e in
        let l = length-append log (Mark c ∷ []) in
        let w = waits-few o log in
        let r = reads_in-longer log (Mark c ∷ []) in
        (omega (arith, i, l), omega (arith, a, w, r))
    go false h = few-longer notes log (Mark c ∷ []) few name note h

pub record Kept {S : Type 0} (reads : Reads) (x : Node S) : Type 0 where
  pub reads_are : (x.role ≡ Spare → ⊥) → x.reads ≡ reads
  pub notes_are : AreFew x.notes x.log

none_noted : (log : List Entry) → AreFew [] log
none_noted log name note is = absurd (cc)

module _ {S : Type 0} (M : Machine S) (reads : Reads) where
  -- a node that keeps its log
  same : (x y : Node S) → Kept reads x → (x.role ≡ Spare → ⊥) → y.reads ≡ x.reads → y.notes ≡ x.notes → y.log ≡ x.log →
      Kept reads y
  same x y k real r n l = record {
    reads_are = λ other. r ∙ k.reads_are real;
    notes_are = subst (λ notes. AreFew notes y.log) (sym n) (subst (AreFew x.notes) (sym l) k.notes_are);
  }

  stepped : (x : Node S) (s : S) (gives : Option Operation) → Kept reads x → (x.role ≡ Spare → ⊥) →
      Kept reads (primary_steps M x s gives)
  stepped x s None k real = record {
    reads_are = λ other. k.reads_are real;
    notes_are = few-longer x.notes x.log [] k.notes_are;
  }
  stepped x s (Some o) k real = record {
    reads_are = λ other. k.reads_are real;
    notes_are = few-noted x.notes x.log o (M.count s) k.notes_are;
  }

  abbrev pub AreKept : World S → Type 0
  AreKept w = (n : ℕ) (x : Node S) → slice_get w.nodes n ≡ Some x → Kept reads x

  set : (w : World S) → AreKept w → (m : ℕ) (y : Node S) → Kept reads y → (n : ℕ) (x : Node S) →
      slice_get (slice_set w.nodes m y) n ≡ Some x → Kept reads x
  set w f m y k n x at = elim (get_set_cases w.nodes m n y x at) [
    | inl e ↦ subst (Kept reads) (sym e.1) k
    | inr old ↦ f n x old
  ]

  real : (w : World S) (n : ℕ) (x : Node S) (r : Role) → Acts w n x r → (r ≡ Spare → ⊥) → x.role ≡ Spare → ⊥
  real w n x r acts other s = other (sym acts.role_is ∙ s)

  -- a node that acts in a role keeps its log
  acts_same : (w : World S) → AreKept w → (n : ℕ) (x y : Node S) (r : Role) → Acts w n x r → (r ≡ Spare → ⊥) →
      y.reads ≡ x.reads → y.notes ≡ x.notes → y.log ≡ x.log → Kept reads y
  acts_same w f n x y r acts other e notes log =
      same x y (f n x acts.there) (real w n x r acts other) e notes log

  replaying : (r : Role) → (r ≡ Backup) ⊎ (r ≡ Draining) → r ≡ Spare → ⊥
  replaying r (inl h) s = (cc)
  replaying r (inr h) s = (cc)

  begins : (C : Copying S) (w : World S) → AreKept w → (n h : ℕ) (x : Node S) → Acts w n x Alone → (m : ℕ) (z : Node S) →
      slice_get (slice_set (slice_set w.nodes n (begun M x)) h (joiner M C x)) m ≡ Some z → Kept reads z
  begins C w f n h x acts m z at = elim (get_set_cases (slice_set w.nodes n (begun M x)) h m (joiner M C x) z at) [
    | inl e ↦ subst (Kept reads) (sym e.1) (record {
      reads_are = λ other. (f n x acts.there).reads_are (real w n x Alone acts (λ k. (cc)));
      notes_are = none_noted [];
    })
    | inr old ↦ set w f n (begun M x) (record {
      reads_are = λ other. (f n x acts.there).reads_are (real w n x Alone acts (λ k. (cc)));
      notes_are = none_noted [];
    }) m z old
  ]

  comes : (w : World S) → AreKept w → (n : ℕ) (x : Node S) → slice_get (w.nodes ++ spare M ∷ []) n ≡ Some x → Kept reads x
  comes w f n x at = elim (get-last w.nodes (spare M) x n at) [
    | inl old ↦ f n x old
    | inr e ↦ subst (Kept reads) (sym e) (record { reads_are = λ other. absurd (other refl); notes_are = none_noted [] })
  ]

  pub keeps : (C : Copying S) (w new : World S) → AreKept w → Change M C w new → AreKept new
  keeps C w new f (change.PrimarySteps n x s gives acts h) =
      set w f n (primary_steps M x s gives)
      (stepped x s gives (f n x acts.there) (real w n x Primary acts (λ k. (cc))))
  keeps C w new f (change.AloneSteps n x s gives acts h) =
      set w f n _ (acts_same w f n x _ Alone acts (λ k. (cc)) refl refl refl)
  keeps C w new f (change.PrimaryTakes n x s i acts may ok h) =
      set w f n (primary_takes M x s i) (record {
        reads_are = λ other. (f n x acts.there).reads_are (real w n x Primary acts (λ k. (cc)));
        notes_are = few-longer x.notes x.log (entry_of x.reads (M.count x.machine) i ∷ []) (f n x acts.there).notes_are;
      })
  keeps C w new f (change.AloneTakes n x s i acts may ok h) =
      set w f n _ (acts_same w f n x _ Alone acts (λ k. (cc)) refl refl refl)
  keeps C w new f (change.Holds n x m e acts h) =
      set w f n _ (acts_same w f n x _ Backup acts (λ k. (cc)) refl refl refl)
  keeps C w new f (change.Hears n x m held replayed acts h) =
      set w f n _ (acts_same w f n x _ Primary acts (λ k. (cc)) refl refl refl)
  keeps C w new f (change.ReplaysStep n x r e s gives acts which g c h) =
      set w f n _ (acts_same w f n x _ r acts (replaying r which) refl refl refl)
  keeps C w new f (change.ReplaysMark n x r e acts which g c h) =
      set w f n _ (acts_same w f n x _ r acts (replaying r which) refl refl refl)
  keeps C w new f (change.ReplaysInput n x r e i s acts which g c h k) =
      set w f n _ (acts_same w f n x _ r acts (replaying r which) refl refl refl)
  keeps C w new f (change.Fetches n x r m d s k bytes acts which at brings) =
      set w f n _ (acts_same w f n x _ r acts (replaying r which) refl refl refl)
  keeps C w new f (change.ReplaysRead n x r d s k bytes t acts which at come h) =
      set w f n _ (acts_same w f n x _ r acts (replaying r which) refl refl refl)
  keeps C w new f (change.Stops n x there ns) = set w f n _ (same x _ (f n x there) ns refl refl refl)
  keeps C w new f (change.Wins n x r acts nj ns won) = set w f n _ (acts_same w f n x _ r acts ns refl refl refl)
  keeps C w new f (change.GoesLive n x acts all) =
      set w f n _ (acts_same w f n x _ Draining acts (λ k. (cc)) refl refl refl)
  keeps C w new f (change.Begins n h x y acts there is) = begins C w f n h x acts
  keeps C w new f (change.GetsPart n x m k p acts h) =
      set w f n _ (acts_same w f n x _ Joining acts (λ k. (cc)) refl refl refl)
  keeps C w new f (change.Joins n x ps s acts got made) =
      set w f n _ (acts_same w f n x _ Joining acts (λ k. (cc)) refl refl refl)
  keeps C w new f change.HostComes = comes w f
  keeps C w new f c = f

  pub opens : AreKept (opening M reads)
  opens zero x at =
      subst (Kept reads) (same_some (first_node M reads Primary) x (Some (first_node M reads Primary)) refl at)
      (record { reads_are = λ other. refl; notes_are = none_noted [] })
  opens (suc zero) x at =
      subst (Kept reads) (same_some (first_node M reads Backup) x (Some (first_node M reads Backup)) refl at)
      (record { reads_are = λ other. refl; notes_are = none_noted [] })
  opens (suc (suc n)) x at = absurd (cc)

pub all_kept : {S : Type 0} (M : Machine S) (C : Copying S) (w : World S) → Reached M C w →
    (reads : Reads) × AreKept M reads w
all_kept M C w (AtBoot reads) = (reads, opens M reads)
all_kept M C w (After {w = v} r c) =
    let k = all_kept M C v r in (k.0, keeps M k.0 C v w k.1 c)
