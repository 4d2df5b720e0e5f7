-- What terminals have accepted is a prefix of the settled trace's output: each byte that arrives is one of the trace,
-- numbered in order, and a terminal takes byte k only as its k-th.
use Rattle.std.proofs.Common.{[], ◌++◌, ◌+◌, ◌∙◌, ◌∷◌, ◌≡◌, ◌⊎◌, List, None, Some, ap, append-nil, append_assoc, arith, cond, eq-eqb, eqb-true, false, inl, inr, length, length-append, refl, subst, sym, true, ℕ}
use Rattle.std.specs.Prelude.{◌==◌, slice_get}
use Rattle.pair_protocol.proofs.Words.{Among, Arrival, Byte, Copying, Do, IsAllBut, IsPrefix, Lawful, Machine, Move, Node, Operation, Runs, Take, World, accepted, accepted_after, cut, operations, output, terminal}
use Rattle.pair_protocol.proofs.Invariant.Frames.{with_own}
use Rattle.pair_protocol.proofs.Invariant.{AsAlone, AsBackup, AsDraining, AsJoining, AtTop, BackupHere, BackupLeft, BackupState, BackupWon, Inv, Line, LineOf, Presence, PrimaryHere, PrimaryLeft, PrimaryWon, Stage, Undecided, Unused, settled, settled_moves}
use Rattle.pair_protocol.proofs.Traces.Cuts.{cut-prefix}
use Rattle.pair_protocol.proofs.Traces.Lists.{bool_cases, get-at, prefix-next}
use Rattle.pair_protocol.proofs.Traces.Moves.{output-append, runs-append, runs-prefix, runs-split}
use Rattle.pair_protocol.proofs.Traces.Recorded.{recorded-runs}

-- the place of an operation in a trace
pub operations_place : (ms : List Move) (o : Operation) → Among o (operations ms) →
    (front rest : List Move) × (ms ≡ front ++ Do (Some o) ∷ rest)
operations_place [] o h = absurd h
operations_place (Do None ∷ ms) o h = let r = operations_place ms o h in
    (Do None ∷ r.0, r.1, ap (λ zs. Do None ∷ zs) r.2)
operations_place (Do (Some x) ∷ ms) o (inl h) = ([], ms, ap (λ (z : Operation). Do (Some z) ∷ ms) (sym h))
operations_place (Do (Some x) ∷ ms) o (inr h) = let r = operations_place ms o h in
    (Do (Some x) ∷ r.0, r.1, ap (λ zs. Do (Some x) ∷ zs) r.2)
operations_place (Take i ∷ ms) o h = let r = operations_place ms o h in (Take i ∷ r.0, r.1, ap (λ zs. Take i ∷ zs) r.2)

pub byte_in_output : {S : Type 0} (M : Machine S) (laws : Lawful M) (ms : List Move) (t : S) (p k b : ℕ) →
    Runs M M.boot ms t → Among (Byte p k b) (operations ms) →
    (j : ℕ) × (k ≡ j + 1) × (slice_get (output p ms) j ≡ Some b)
byte_in_output M laws ms t p k b r h =
    let q = operations_place ms (Byte p k b) h in
    let e : ms ≡ (q.0 ++ Do (Some (Byte p k b)) ∷ []) ++ q.1 = q.2
    ∙ sym (append_assoc q.0 (Do (Some (Byte p k b)) ∷ []) q.1) in
    let s = runs-split M M.boot t (q.0 ++ Do (Some (Byte p k b)) ∷ []) q.1 (subst (λ zs. Runs M M.boot zs t) e r) in
    let n = laws.numbered q.0 s.0 p k b s.1 in
    let o : output p ms ≡ output p q.0 ++ b ∷ output p q.1 =
    ap (output p) q.2 ∙ output-append p q.0 (Do (Some (Byte p k b)) ∷ q.1)
    ∙ ap (λ v. output p q.0 ++ (cond v (b ∷ []) [] ++ output p q.1)) (eq-eqb p p refl) in (
      length (output p q.0),
      n,
      subst (λ zs. slice_get zs (length (output p q.0)) ≡ Some b) (sym o)
          (get-at (output p q.0) (output p q.1) b),
    )

-- What is accepted is a front of the whole.

pub accepted_front : (front whole : List ℕ) (arrivals : List Arrival) → IsPrefix front whole →
    ((a : Arrival) → Among a arrivals → (j : ℕ) × (a.number ≡ j + 1) × (slice_get whole j ≡ Some a.byte)) →
    IsPrefix (front ++ accepted_after (length front) arrivals) whole
accepted_front front whole [] p h = subst (λ zs. IsPrefix zs whole) (sym (append-nil front)) p
accepted_front front whole (a ∷ as') p h =
    go (bool_cases (a.number == length front + 1)) (λ front p. accepted_front front whole as' p (λ b m. h b (inr m)))
  where
    go : ((a.number == length front + 1) ≡ true) ⊎ ((a.number == length front + 1) ≡ false) →
        ((front : List ℕ) → IsPrefix front whole → IsPrefix (front ++ accepted_after (length front) as') whole) →
        IsPrefix (front ++ cond (a.number == length front + 1) (a.byte ∷ accepted_after (length front + 1) as')
        (accepted_after (length front) as')) whole
    go (inl t) rest =
        let f = h a (inl refl) in
        let n : a.number ≡ length front + 1 = eqb-true a.number (length front + 1) t in
        let j : f.0 ≡ length front = (let g = f.1 in omega arith) in
        let q = prefix-next front whole a.byte p (subst (λ k. slice_get whole k ≡ Some a.byte) j f.2) in
        let r = rest (front ++ a.byte ∷ []) q in
        let l : length (front ++ a.byte ∷ []) ≡ length front + 1 = length-append front (a.byte ∷ []) in
        subst (λ v. IsPrefix (front ++ cond v (a.byte ∷ accepted_after (length front + 1) as')
        (accepted_after (length front) as')) whole) (sym t)
        (subst (λ zs. IsPrefix zs whole) (append_assoc front (a.byte ∷ []) (accepted_after (length front + 1) as'))
        (subst (λ k. IsPrefix ((front ++ a.byte ∷ []) ++ accepted_after k as') whole) l r))
    go (inr t) rest = subst (λ v. IsPrefix
        (front ++ cond v (a.byte ∷ accepted_after (length front + 1) as') (accepted_after (length front) as')) whole)
        (sym t) (rest front p)

-- The highest generation has both nodes.
pub record Top {S : Type 0} (M : Machine S) (C : Copying S) (w : World S) (i : Inv M C w) : Type 0 where
  pub same : settled (i.each i.top).line ≡ i.trace
  pub primary : PrimaryHere M w.nodes i.top (i.each i.top).line
  pub backup : BackupHere M C w.nodes i.top (i.each i.top).line

pub top_of : {S : Type 0} (M : Machine S) (C : Copying S) (w : World S) (i : Inv M C w) → Top M C w i
top_of {S} M C w i = go (i.each i.top).presence
  where
    go : Presence M C w.nodes w.messages w.winners i.top i.trace i.top (i.each i.top).line → Top M C w i
    go (AtTop g s l b) = record { same = s; primary = l; backup = b }
    go (PrimaryLeft g s l b) = absurd (omega arith)
    go (BackupLeft g s b l) = absurd (omega arith)
    go (Unused g u) = absurd (g refl)

-- the settled moves are a run from boot
pub trace_runs : {S : Type 0} (M : Machine S) (C : Copying S) (w : World S) (i : Inv M C w) →
    (t : S) × Runs M M.boot i.trace t
trace_runs {S} M C w i = let r = by_state l.stage t.primary.is_primary.runs t.backup.is_backup.state in
    (r.0, subst (λ zs. Runs M M.boot zs r.0) t.same r.1)
  where
    t : Top M C w i
    t = top_of M C w i

    o : LineOf M C w i.top i.trace i.top
    o = i.each i.top

    l : Line S
    l = o.line

    b : Node S
    b = t.backup.b

    held_is : cut (length l.held) l.own ≡ cut (length b.held) l.own
    held_is = ap (λ es. cut (length es) l.own) (sym t.backup.held)

    front : (u : S) × Runs M l.mid (cut (length l.held) l.own) u
    front = runs-prefix M l.mid o.sound.recorded.0 (cut (length l.held) l.own) l.own (cut-prefix (length l.held) l.own)
        (recorded-runs M l.mid o.sound.recorded.0 l.own o.sound.recorded.1)

    by_state : (stage : Stage) → Runs M l.mid l.own t.primary.a.machine →
        BackupState M C (with_own l l.own stage) b →
        (u : S) × Runs M M.boot (settled_moves stage l.base l.own l.more (length l.held)) u
    by_state Undecided r s = (
      front.0,
      runs-append M M.boot l.mid front.0 l.base
          (cut (length l.held) l.own) o.sound.based front.1,
    )
    by_state PrimaryWon r s = (
      t.primary.a.machine,
      runs-append M M.boot l.mid t.primary.a.machine l.base l.own
          o.sound.based r,
    )
    by_state BackupWon r (AsJoining x y z) = absurd (y refl)
    by_state BackupWon r (AsBackup x y z) = absurd (y refl)
    by_state BackupWon r (AsDraining x y z f) =
        let e : cut (length l.held) l.own ++ l.more ≡ cut (length l.held) l.own =
        ap (λ zs. cut (length l.held) l.own ++ zs) z ∙ append-nil (cut (length l.held) l.own) in (
          front.0,
          runs-append M M.boot l.mid front.0 l.base (cut (length l.held) l.own ++ l.more) o.sound.based
              (subst (λ zs. Runs M l.mid zs front.0) (sym e) front.1),
        )
    by_state BackupWon r (AsAlone x y made) = (
      b.machine,
      runs-append M M.boot l.mid b.machine l.base (cut (length l.held) l.own ++ l.more) o.sound.based
          (subst (λ zs. Runs M l.mid (zs ++ l.more) b.machine) (sym held_is) made.runs),
    )

pub output_is : {S : Type 0} (M : Machine S) (C : Copying S) → Lawful M → (w : World S) (i : Inv M C w) (p : ℕ) →
    IsAllBut M.window_size (accepted w p) (output p i.trace)
output_is M C laws w i p =
    let r = trace_runs M C w i in
    let window = laws.window i.trace r.0 p r.1 in
    let done = i.global.came.done p in
    let front : IsPrefix (accepted w p) (output p i.trace) =
    accepted_front [] (output p i.trace) (terminal w p).arrivals (output p i.trace, refl)
    (λ a m. byte_in_output M laws i.trace r.0 p a.number a.byte r.1 (i.global.arrived p a m)) in
    let e = ap length front.1 in
    let f = length-append (accepted w p) front.0 in
    (front.0, front.1, omega arith)
