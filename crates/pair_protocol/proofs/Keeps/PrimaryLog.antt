-- The log and the notes of a primary after one more move.
use Rattle.std.proofs.Common.{[], ◌++◌, ◌+◌, ◌<◌, ◌∙◌, ◌∷◌, ◌≡◌, ◌≤◌, ◌⊎◌, Bool, List, None, Option, Some, ap, append-nil, append_assoc, arith, cond, false, inl, inr, length, length-append, refl, subst, suc, sym, true, zero, ℕ}
use Rattle.std.specs.Prelude.{slice_get}
use Rattle.guest_lockstep.proofs.Moves.{inputs-do, inputs-take}
use Rattle.pair_protocol.proofs.Words.{Among, Byte, Do, Entry, Input, IsPrefix, Mark, Move, Note, Operation, SectorWrite, Take, Write, cut, entries, id_of, inputs, is_read, marks, note_of, notes_after, operations, same_name, steps, timed, Reads}
use Rattle.event_callbacks.specs.declared.operations.OpId.TheVariants as id
use Rattle.event_callbacks.proofs.Names.{same_name-itself}
use Rattle.pair_protocol.specs.Waiting.{reads_in, up_to_read, waits_for}
use Rattle.pair_protocol.proofs.Invariant.{AreNoted, IsNoted}
use Rattle.pair_protocol.proofs.Traces.Cuts.{among-cut, cut-both}
use Rattle.pair_protocol.proofs.Traces.Lists.{among-prefix, among-split, bool_cases, get-after, get-front, le-cases}
use Rattle.pair_protocol.proofs.Traces.Moves.{entries-append, operations-append, operations-prefix, steps-append}

pub entries-longer : (reads : Reads) (c : ℕ) (xs ys : List Move) → IsPrefix (entries reads c xs) (entries reads c (xs ++ ys))
entries-longer reads c xs ys = (entries reads (c + steps xs) ys, sym (entries-append reads c xs ys))

-- an instruction brings no input

pub whole-do : (base own : List Move) (o : Option Operation) →
    inputs 0 (base ++ (own ++ Do o ∷ [])) ≡ inputs 0 (base ++ own)
whole-do base own o = ap (inputs 0) (sym (append_assoc base own (Do o ∷ []))) ∙ inputs-do 0 (base ++ own) o

pub whole-take : (base own : List Move) (i : Input) (k : ℕ) → k ≡ steps base + steps own →
    inputs 0 (base ++ (own ++ Take i ∷ [])) ≡ inputs 0 (base ++ own) ++ timed k i ∷ []
whole-take base own i k h =
    let s = steps-append base own in
    let e : 0 + steps (base ++ own) ≡ k = omega arith in
    ap (inputs 0) (sym (append_assoc base own (Take i ∷ []))) ∙ inputs-take 0 (base ++ own) i
    ∙ ap (λ j. inputs 0 (base ++ own) ++ timed j i ∷ []) e

pub steps-do : (base own : List Move) (o : Option Operation) (k : ℕ) → k ≡ steps base + steps own →
    suc k ≡ steps base + steps (own ++ Do o ∷ [])
steps-do base own o k h = let s = steps-append own (Do o ∷ []) in omega arith

pub steps-take : (base own : List Move) (i : Input) (k : ℕ) → k ≡ steps base + steps own →
    k ≡ steps base + steps (own ++ Take i ∷ [])
steps-take base own i k h = let s = steps-append own (Take i ∷ []) in omega arith

-- the log and the notes after an instruction
pub log-do : (reads : Reads) (c k : ℕ) (own : List Move) (log : List Entry) (o : Option Operation) → log ≡ entries reads c own →
    k ≡ suc (c + steps own) → log ++ marks k o ≡ entries reads c (own ++ Do o ∷ [])
log-do reads c k own log None h e = append-nil log ∙ h
    ∙ sym (entries-append reads c own (Do None ∷ []) ∙ append-nil (entries reads c own))
log-do reads c k own log (Some o) h e = ap (λ j. log ++ Mark j ∷ []) e ∙ ap (λ es. es ++ Mark (suc (c + steps own)) ∷ []) h
    ∙ sym (entries-append reads c own (Do (Some o) ∷ []))

up_to-more : (b : Bool) (n k : ℕ) → k < n → suc k < up_to_read b n
up_to-more b zero k h = absurd (omega (arith, h))
up_to-more b (suc n) k h = omega (arith, h)

up_to-some : (n : ℕ) → 0 < up_to_read true n
up_to-some zero = omega arith
up_to-some (suc n) = omega arith

-- each read of a log is among those that a write after it waits for
pub reads_before : (log : List Entry) (k : ℕ) (e : Entry) → slice_get log k ≡ Some e → is_read e ≡ true →
    k < reads_in log
reads_before [] k e h read = (cc)
reads_before (x ∷ log) zero e h read =
    let same : x ≡ e = (cc) in
    subst (λ b. 0 < up_to_read b (reads_in log)) (sym (ap is_read same ∙ read)) (up_to-some (reads_in log))
reads_before (x ∷ log) (suc k) e h read = up_to-more (is_read x) (reads_in log) k (reads_before log k e h read)

pub notes-more : (reads : Reads) (c : ℕ) (notes : List Note) (own xs : List Move) (o : Operation) → IsNoted reads c own notes o →
    IsNoted reads c (own ++ xs) notes o
notes-more reads c notes own xs o h = record {
  note = h.note;
  found = h.found;
  given = among-prefix o (operations (cut (suc h.note.index) own))
      (operations (cut (suc h.note.index) (own ++ xs)))
      (operations-prefix (cut (suc h.note.index) own) (cut (suc h.note.index) (own ++ xs))
      (cut-both (suc h.note.index) own xs)) h.given;
  inside = (let e = ap length (entries-append reads c own xs) in
      let f = length-append (entries reads c own) (entries reads (c + steps own) xs) in
      let i = h.inside in omega (arith, e, f, i));
  waits = λ w q k e few there read. (let i = h.inside in
      h.waits w q k e few (get-front (entries reads c own) (entries reads (c + steps own) xs) k e (omega (arith, few, i))
      (subst (λ es. slice_get es k ≡ Some e) (entries-append reads c own xs) there)) read);
}

mark_no_read : (n : ℕ) (e : Entry) (more : List Entry) → Mark n ∷ [] ≡ e ∷ more → is_read e ≡ true → ⊥
mark_no_read n e more h read = let same : Mark n ≡ e = (cc) in let f : false ≡ true = ap is_read same ∙ read in (cc)

-- the reads up to a new mark are those of the log before it
reads_to_mark : (log : List Entry) (n k : ℕ) (e : Entry) → k ≤ length log → slice_get (log ++ Mark n ∷ []) k ≡ Some e →
    is_read e ≡ true → k < reads_in log
reads_to_mark log n k e few there read = elim (le-cases k (length log) few) [
  | inl l ↦ reads_before log k e (get-front log (Mark n ∷ []) k e l there) read
  | inr q ↦ (let r = get-after log (Mark n ∷ []) e
      (subst (λ j. slice_get (log ++ Mark n ∷ []) j ≡ Some e) q there) in
      absurd (mark_no_read n e r.0 r.1 read))
]

pub notes-do : (reads : Reads) (c : ℕ) (own : List Move) (log : List Entry) (notes : List Note) (o : Option Operation) →
    log ≡ entries reads c own → AreNoted reads c notes own → AreNoted reads c (notes_after notes log o) (own ++ Do o ∷ [])
notes-do reads c own log notes None h k y m =
    elim (among-split y (operations own) [] (subst (λ zs. Among y zs) (operations-append own (Do None ∷ [])) m))
    [ inl l ↦ notes-more reads c notes own (Do None ∷ []) y (k y l) | inr l ↦ absurd l ]
notes-do reads c own log notes (Some o) h k y m = go (bool_cases (same_name (id_of y) (id_of o)))
  where
    come : Note
    come = record { name = id_of o; index = length log; after = waits_for o log }

    longer : length (entries reads c (own ++ Do (Some o) ∷ [])) ≡ suc (length log)
    longer =
        let e = ap length (entries-append reads c own (Do (Some o) ∷ [])) in
        let f = length-append (entries reads c own) (Mark (suc (c + steps own)) ∷ []) in
        let d = ap length h in
        omega (arith, e, f, d)

    all : Among y (operations (cut (suc (length log)) (own ++ Do (Some o) ∷ [])))
    all = let l = longer in
        among-cut reads (suc (length log)) c y (own ++ Do (Some o) ∷ []) (omega (arith, l)) m

    there : (k : ℕ) (e : Entry) → slice_get (entries reads c (own ++ Do (Some o) ∷ [])) k ≡ Some e →
        slice_get (log ++ Mark (suc (c + steps own)) ∷ []) k ≡ Some e
    there k e t = subst (λ es. slice_get (es ++ Mark (suc (c + steps own)) ∷ []) k ≡ Some e) (sym h)
        (subst (λ es. slice_get es k ≡ Some e) (entries-append reads c own (Do (Some o) ∷ [])) t)

    -- for an operation of this name, the note is the new one
    named : same_name (id_of y) (id_of o) ≡ true → ((w : SectorWrite) → y ≡ Write w → waits_for o log ≡ reads_in log) →
        IsNoted reads c (own ++ Do (Some o) ∷ []) (come ∷ notes) y
    named t waits = record {
      note = come;
      found = ap (λ b. cond b (Some come) (note_of notes (id_of y))) t;
      given = all;
      inside = (let l = longer in omega (arith, l));
      waits = λ w q k e few t read. (let r = reads_to_mark log (suc (c + steps own)) k e few (there k e t) read in
          let z = waits w q in omega (arith, r, z));
    }

    write_waits : (o y : Operation) → same_name (id_of y) (id_of o) ≡ true → (w : SectorWrite) → y ≡ Write w →
        waits_for o log ≡ reads_in log
    write_waits (Write v) y t w q = refl
    write_waits (Byte port number byte) y t w q =
        let f : same_name (id_of (Write w)) (id_of (Byte port number byte)) ≡ true =
        subst (λ z. same_name (id_of z) (id_of (Byte port number byte)) ≡ true) q t in (cc)

    go : (same_name (id_of y) (id_of o) ≡ true) ⊎ (same_name (id_of y) (id_of o) ≡ false) →
        IsNoted reads c (own ++ Do (Some o) ∷ []) (come ∷ notes) y
    go (inl t) = named t (write_waits o y t)
    go (inr f) = elim (among-split y (operations own) (o ∷ [])
        (subst (λ zs. Among y zs) (operations-append own (Do (Some o) ∷ [])) m)) [
          | inl l ↦ (let r = notes-more reads c notes own (Do (Some o) ∷ []) y (k y l) in record {
            note = r.note;
            found = ap (λ b. cond b (Some come) (note_of notes (id_of y))) f ∙ r.found;
            given = r.given;
            inside = r.inside;
            waits = r.waits;
          })
          | inr (inl l) ↦ (let t : same_name (id_of y) (id_of o) ≡ true = ap (λ z. same_name (id_of y) (id_of z))
              (sym l)
              ∙ same_name-itself (id_of y) in (cc))
          | inr (inr l) ↦ absurd l
        ]
