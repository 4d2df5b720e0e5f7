-- A backup holds one more entry: while nobody has won, what is settled is extended up to that entry.
use Rattle.std.proofs.Common.{[], ◌++◌, ◌∙◌, ◌∷◌, ◌≡◌, ◌≤◌, List, Some, ap, arith, inl, inr, length, length-append, refl, subst, sym, ℕ}
use Rattle.std.proofs.lemmas.Option.{slice_get_within}
use Rattle.std.specs.Prelude.{slice_get, slice_set}
use Rattle.pair_protocol.proofs.Words.{Among, Backup, Copying, Entry, IsPrefix, Machine, Move, Node, SectorWrite, Terminal, World, Write, cut, entries, holds, inputs, keys, operations, steps, terminal_in, with_node}
use Rattle.pair_protocol.proofs.Invariant.Acting.{ActingBackup, BackupAtTop, BackupEarlier, BackupPlace}
use Rattle.pair_protocol.proofs.Invariant.Frames.{global-grows, relined, with_backup}
use Rattle.pair_protocol.proofs.Invariant.Settled.{settled-held, settled-primary}
use Rattle.pair_protocol.proofs.Invariant.{AsAlone, AsBackup, AsDraining, AsJoining, AtTop, BackupHere, BackupState, BackupWon, CameIn, Inv, Line, LineOf, Next, PrimaryLeft, PrimaryWon, Stage, Undecided, settled, settled_moves}
use Rattle.pair_protocol.proofs.Keeps.Backup.{BackupReads, backup-line, backup_acts, primary-held, primary_gone, primary_stays}
use Rattle.pair_protocol.proofs.Keeps.Replay.{replayed-holds}
use Rattle.pair_protocol.proofs.Traces.Lists.{get-front, le-cases, prefix-next, prefix-refl, prefix-trans}
use Rattle.pair_protocol.proofs.Traces.Moves.{acceptances-prefix, keys-prefix, owns-prefix, put-prefix}

-- the inputs of fewer moves came from the devices too
came-prefix : (ts : List Terminal) (puts : List SectorWrite) (xs ys : List Move) → IsPrefix xs ys →
    CameIn ts puts (inputs 0 ys) → CameIn ts puts (inputs 0 xs)
came-prefix ts puts xs ys p came = record {
  done = λ v. let c = acceptances-prefix v 0 xs ys p in let d = came.done v in omega arith;
  typed = λ v. prefix-trans (keys v (inputs 0 xs)) (keys v (inputs 0 ys)) (terminal_in ts v).typed
      (keys-prefix v 0 xs ys p) (came.typed v);
  put = put-prefix puts xs ys p came.put;
}

module _ {S : Type 0} (M : Machine S) (C : Copying S) (w : World S) (i : Inv M C w) (n : ℕ) (x : Node S)
    (q : ActingBackup M C w i n x) (en : Entry) where
  abbrev o : LineOf M C w i.top i.trace x.generation
  o = i.each x.generation

  abbrev l : Line S
  l = o.line

  abbrev y : Node S
  y = holds x en

  abbrev held : List Entry
  held = x.held ++ en ∷ []

  -- the settled moves end with what is held
  top_moves : settled l ≡ i.trace → (l.stage ≡ BackupWon → ⊥) → (l.stage ≡ PrimaryWon → ⊥) →
      i.trace ≡ l.base ++ cut (length x.held) l.own
  top_moves k s z = sym k ∙ by l.stage s z ∙ ap (λ es. l.base ++ cut (length es) l.own) (sym q.held)
    where
      by : (stage : Stage) → (stage ≡ BackupWon → ⊥) → (stage ≡ PrimaryWon → ⊥) →
          settled_moves stage l.base l.own l.more (length l.held) ≡ l.base ++ cut (length l.held) l.own
      by Undecided s z = refl
      by PrimaryWon s z = absurd (z refl)
      by BackupWon s z = absurd (s refl)

  -- what was released is settled, so it was issued before the new entry
  reads : x.role ≡ Backup → (x.generation ≡ i.top → (l.stage ≡ PrimaryWon → ⊥) →
      i.trace ≡ l.base ++ cut (length x.held) l.own) →
      BackupReads w.nodes w.messages i.top x.generation l l.stage y
  reads role moves = record {
    heard = λ a t ga r. o.reads.heard a x t here ga refl r q.real;
    told = λ j r m. o.reads.told j r x m here refl q.real;
    waits = λ t s r v m k d low got read. elim (le-cases k (length x.held)
        (let f = slice_get_within held k d got in let g = length-append x.held (en ∷ []) in omega (arith, f, g))) [
          | inl few ↦ o.reads.waits t s x here refl (inl role) v m k d low (get-front x.held (en ∷ []) k d few got) read
          | inr e ↦ subst (λ j. Among (Write v) (operations (l.base ++ cut j l.own))) (sym e)
              (subst (λ zs. Among (Write v) (operations zs)) (moves t s) (i.global.sends (Write v) m))
        ];
  }
    where
      here : slice_get w.nodes l.backup ≡ Some x
      here = subst (λ j. slice_get w.nodes j ≡ Some x) q.spot q.there

  pub backup-holds : x.role ≡ Backup → slice_get (entries l.reads (steps l.base) l.own) (length x.held) ≡ Some en →
      Next M C i.trace (with_node w n y)
  unfolding backup-line
  backup-holds role there = by_state q.is_backup.state q.place
    where
      few : length l.held ≤ length held
      few = let g = length-append x.held (en ∷ []) in let h = ap length q.held in omega (arith, g, h)

      longer : IsPrefix held (entries l.reads (steps l.base) l.own)
      longer = prefix-next x.held (entries l.reads (steps l.base) l.own) en q.is_backup.held there

      new : List Move
      new = settled_moves l.stage l.base l.own l.more (length held)

      by_state : BackupState M C l x → BackupPlace M w.nodes i.top i.trace x.generation l →
          Next M C i.trace (with_node w n y)
      by_state (AsJoining k s f) place = (cc)
      by_state (AsDraining k s v g) place = (cc)
      by_state (AsAlone k s made) place = (cc)
      by_state (AsBackup k s f) place = go place
        where
          here : BackupHere M C (slice_set w.nodes n y) x.generation (with_backup l l.more l.stage held)
          here = backup_acts M C w i n x q y (with_backup l l.more l.stage held) refl refl refl (record {
            state = AsBackup k s (replayed-holds M l held x en f);
            log = record { copy = q.is_backup.copy; start = q.is_backup.start; held = longer };
          })

          go : BackupPlace M w.nodes i.top i.trace x.generation l → Next M C i.trace (with_node w n y)
          go (BackupAtTop g t a) =
              let p = settled-held l.stage l.base l.own l.more (length l.held) (length held) few s in
              let grows : IsPrefix i.trace new = subst (λ z. IsPrefix z new) t p.0 in
              relined M C w i n x y w.winners new q.there q.real refl (λ j d. refl) grows (inr g)
              (backup-line M C w i n x q new y l.more l.stage held w.winners
              (AtTop g refl (primary_stays M C w i n x q y l.more l.stage held a
              (primary-held M l l.more held a.a few a.is_primary)) here) o.tied few longer (λ z. z)
              (prefix-refl new) (reads role (λ r z. top_moves t s z)) (λ z. z))
              (λ lt. absurd (omega (arith, lt, g))) refl
              (global-grows M w.messages w.terminals w.puts i.trace new grows
              (came-prefix w.terminals w.puts new (l.base ++ l.own) p.1 o.came)
              (owns-prefix M M.boot new (l.base ++ l.own) p.1 (o.owns s))
              i.global)
          go (BackupEarlier g t a) =
              let same : new ≡ settled l = settled-primary l.stage l.base l.own l.more (length l.held)
              (length held) t in
              relined M C w i n x y w.winners i.trace q.there q.real refl (λ j d. refl) (prefix-refl i.trace) (inl refl)
              (backup-line M C w i n x q i.trace y l.more l.stage held w.winners
              (PrimaryLeft g t (primary_gone M C w i n x q y a) here) o.tied few longer (λ z. z)
              (subst (λ z. IsPrefix z i.trace) (sym same) o.below)
              (reads role (λ r z. absurd (omega (arith, g, r)))) (λ z. z))
              (λ lt. same) refl i.global
