-- The node that settles gives the list and the count of the settled trace, and there is such a node.
use Rattle.std.proofs.Common.{Option, [], ◌++◌, ◌∙◌, ◌∷◌, ◌≡◌, ◌≤◌, ◌⊎◌, List, None, Some, ap, append-nil, arith, inl, inr, length, refl, subst, suc, sym, true, zero, ℕ}
use Rattle.std.specs.Prelude.{slice_get}
use Rattle.pair_protocol.proofs.Words.{Alone, Copying, Machine, Move, Node, Primary, Role, Settled, Settles, Spare, World, count_in, cut, entries, highest, inputs, inputs_of, is_backup, last_count, list_of, steps, winner_in}
use Rattle.pair_protocol.proofs.Invariant.Acting.{Acting, BackupActs, BackupAtTop, BackupEarlier, PrimaryActs, PrimaryAtTop, PrimaryEarlier, acting}
use Rattle.pair_protocol.proofs.Invariant.Frames.{backup-no_spare, primary-no_spare, with_own}
use Rattle.pair_protocol.proofs.Invariant.{AsAlone, AsBackup, AsDraining, AsJoining, BackupState, BackupWon, Inv, IsBackup, IsPrimary, Line, LineOf, PrimaryWon, Stage, Undecided, settled, settled_moves, winner_at}
use Rattle.pair_protocol.proofs.Keeps.Replay.{entries-held, held-list}
use Rattle.pair_protocol.proofs.Promises.Outputs.{Top, top_of}
use Rattle.pair_protocol.proofs.Traces.Cuts.{last-cut}
use Rattle.pair_protocol.proofs.Traces.Lists.{prefix-length, same_some}
use Rattle.pair_protocol.proofs.Traces.Moves.{steps-append}

-- The highest generation.

pub highest_le : {S : Type 0} (nodes : List (Node S)) (t : ℕ) →
    ((n : ℕ) (x : Node S) → slice_get nodes n ≡ Some x → x.generation ≤ t) → highest nodes ≤ t
highest_le [] t h = omega arith
highest_le (x ∷ nodes) t h = let a = h 0 x refl in let b = highest_le nodes t (λ n z k. h (suc n) z k) in omega arith

pub highest_ge : {S : Type 0} (nodes : List (Node S)) (n : ℕ) (x : Node S) → slice_get nodes n ≡ Some x →
    x.generation ≤ highest nodes
highest_ge [] n x h = (cc)
highest_ge {S} (z ∷ nodes) zero x h = let e : z.generation ≡ x.generation =
    ap (λ (v : Node S). v.generation) (same_some z x (Some z) refl h) in omega arith
highest_ge (z ∷ nodes) (suc n) x h = let k = highest_ge nodes n x h in omega arith

pub role_or_spare : (r : Role) → (r ≡ Spare) ⊎ (r ≡ Spare → ⊥)
role_or_spare Spare = inl refl
role_or_spare r = inr (λ k. (cc))

pub generation_le : {S : Type 0} (M : Machine S) (C : Copying S) (w : World S) (i : Inv M C w) (n : ℕ) (x : Node S) →
    slice_get w.nodes n ≡ Some x → x.generation ≤ i.top
generation_le {S} M C w i n x h = elim (role_or_spare x.role) [
  | inl r ↦ (let e = i.spares n x h r in omega arith)
  | inr r ↦ go (acting M C w i n x h r)
]
  where
    go : Acting M C w i n x → x.generation ≤ i.top
    go (PrimaryActs q (PrimaryAtTop g s b)) = omega arith
    go (PrimaryActs q (PrimaryEarlier g s b)) = omega arith
    go (BackupActs q (BackupAtTop g s a)) = omega arith
    go (BackupActs q (BackupEarlier g s a)) = omega arith

pub highest_is : {S : Type 0} (M : Machine S) (C : Copying S) (w : World S) (i : Inv M C w) → highest w.nodes ≡ i.top
highest_is M C w i =
    let t = top_of M C w i in
    let a = highest_le w.nodes i.top (λ n x h. generation_le M C w i n x h) in
    let b = highest_ge w.nodes (i.each i.top).line.primary t.primary.a t.primary.there in
    let g = t.primary.generation in
    omega arith

-- The settled list and count are those of the trace.

abbrev IsSettled : {S : Type 0} → Machine S → Node S → List Move → Type 0
IsSettled M x t = (list_of x x.role ≡ inputs 0 t) × (count_in M x x.role ≡ steps t)

pub primary-settles : {S : Type 0} (M : Machine S) (l : Line S) (x : Node S) →
    IsPrimary M l x → l.stage ≡ PrimaryWon → IsSettled M x (settled l)
primary-settles {S} M l x is_primary h = go (roles is_primary.role)
  where
    t : settled l ≡ l.base ++ l.own
    t = ap (λ z. settled_moves z l.base l.own l.more (length l.held)) h

    roles : (x.role ≡ Primary) ⊎ ((x.role ≡ Alone) × (l.stage ≡ PrimaryWon)) → (x.role ≡ Primary) ⊎ (x.role ≡ Alone)
    roles (inl r) = inl r
    roles (inr r) = inr r.0

    count : M.count x.machine ≡ steps (settled l)
    count = is_primary.count ∙ sym (steps-append l.base l.own) ∙ ap steps (sym t)

    list : x.list ≡ inputs 0 (settled l)
    list = is_primary.list ∙ ap (inputs 0) (sym t)

    go : (x.role ≡ Primary) ⊎ (x.role ≡ Alone) → IsSettled M x (settled l)
    go (inl r) = (ap (list_of x) r ∙ list, ap (count_in M x) r ∙ count)
    go (inr r) = (ap (list_of x) r ∙ list, ap (count_in M x) r ∙ count)

module _ {S : Type 0} (M : Machine S) (C : Copying S) (l : Line S) (x : Node S) where
  -- of a node that holds entries
  pub held-settles : x.held ≡ l.held → IsBackup M C l x → settled l ≡ l.base ++ cut (length x.held) l.own →
      (x.copy ++ inputs_of x.held ≡ inputs 0 (settled l)) × (last_count x.start x.held ≡ steps (settled l))
  held-settles held b t =
      let e = entries-held l.reads (steps l.base) l.own x.held b.held in (
        held-list l.reads l.base l.own x.copy x.held b.copy b.held ∙ ap (inputs 0) (sym t),
        ap (λ c. last_count c x.held) b.start ∙ ap (last_count (steps l.base)) (sym e)
            ∙ last-cut l.reads (length x.held) (steps l.base) l.own (prefix-length x.held (entries l.reads (steps l.base) l.own) b.held)
            ∙ sym (steps-append l.base (cut (length x.held) l.own)) ∙ ap steps (sym t),
      )

  pub backup-settles : x.held ≡ l.held → IsBackup M C l x → (l.stage ≡ PrimaryWon → ⊥) → IsSettled M x (settled l)
  backup-settles held b not_primary = go b.state
    where
      undecided_moves : (stage : Stage) → (stage ≡ PrimaryWon → ⊥) → (stage ≡ BackupWon → ⊥) →
          settled_moves stage l.base l.own l.more (length l.held) ≡ l.base ++ cut (length x.held) l.own
      undecided_moves Undecided h k = ap (λ es. l.base ++ cut (length es) l.own) (sym held)
      undecided_moves PrimaryWon h k = absurd (h refl)
      undecided_moves BackupWon h k = absurd (k refl)

      go : BackupState M C l x → IsSettled M x (settled l)
      go (AsJoining r s f) = (let h = held-settles held b (undecided_moves l.stage not_primary s) in
          (ap (list_of x) r ∙ h.0, ap (count_in M x) r ∙ h.1))
      go (AsBackup r s f) = (let h = held-settles held b (undecided_moves l.stage not_primary s) in
          (ap (list_of x) r ∙ h.0, ap (count_in M x) r ∙ h.1))
      go (AsDraining r s m f) =
          let t : settled l ≡ l.base ++ cut (length x.held) l.own =
          ap (λ z. settled_moves z l.base l.own l.more (length l.held)) s
          ∙ ap (λ zs. l.base ++ (cut (length l.held) l.own ++ zs)) m
          ∙ ap (λ zs. l.base ++ zs) (append-nil (cut (length l.held) l.own))
          ∙ ap (λ es. l.base ++ cut (length es) l.own) (sym held) in
          let h = held-settles held b t in
          (ap (list_of x) r ∙ h.0, ap (count_in M x) r ∙ h.1)
      go (AsAlone r s made) =
          let t : settled l ≡ l.base ++ (cut (length x.held) l.own ++ l.more) =
          ap (λ z. settled_moves z l.base l.own l.more (length l.held)) s
          ∙ ap (λ es. l.base ++ (cut (length es) l.own ++ l.more)) (sym held) in (
            ap (list_of x) r ∙ made.list ∙ ap (inputs 0) (sym t),
            ap (count_in M x) r ∙ made.count
                ∙ sym (steps-append l.base (cut (length x.held) l.own ++ l.more)) ∙ ap steps (sym t),
          )

-- whichever node settles, it gives the trace's list and count
pub settles_trace : {S : Type 0} (M : Machine S) (C : Copying S) (w : World S) (i : Inv M C w) (n : ℕ) (x : Node S) →
    Settles w n x → IsSettled M x i.trace
settles_trace {S} M C w i n x s = go (acting M C w i n x s.there s.a_node) s.who
  where
    at_top : x.generation ≡ i.top
    at_top = s.highest_is ∙ highest_is M C w i

    o : LineOf M C w i.top i.trace x.generation
    o = i.each x.generation

    l : Line S
    l = o.line

    primary_won : (stage : Stage) → winner_at stage l.primary l.backup ≡ Some n → n ≡ l.primary → stage ≡ PrimaryWon
    primary_won Undecided h e = (cc)
    primary_won PrimaryWon h e = refl
    primary_won BackupWon h e = absurd (o.sound.apart (sym e ∙ sym (same_some l.backup n (Some l.backup) refl h)))

    backup_won : (stage : Stage) → winner_at stage l.primary l.backup ≡ Some n → n ≡ l.backup → stage ≡ PrimaryWon → ⊥
    backup_won Undecided h e k = (cc)
    backup_won PrimaryWon h e k = o.sound.apart (same_some l.primary n (Some l.primary) refl h ∙ e)
    backup_won BackupWon h e k = (cc)

    none_won : (stage : Stage) → winner_at stage l.primary l.backup ≡ None → stage ≡ PrimaryWon → ⊥
    none_won Undecided h k = (cc)
    none_won PrimaryWon h k = (cc)
    none_won BackupWon h k = (cc)

    primary_is_no_backup : (x.role ≡ Primary) ⊎ ((x.role ≡ Alone) × (l.stage ≡ PrimaryWon)) →
        is_backup x.role ≡ true → ⊥
    primary_is_no_backup (inl h) k = let e = ap is_backup h in (cc)
    primary_is_no_backup (inr h) k = let e = ap is_backup h.0 in (cc)

    go : Acting M C w i n x →
        (winner_in w.winners x.generation ≡ Some n)
        ⊎ ((winner_in w.winners x.generation ≡ None) × (is_backup x.role ≡ true)) → IsSettled M x i.trace
    go (PrimaryActs q (PrimaryEarlier g t b)) who = (let h = at_top in absurd (omega arith))
    go (PrimaryActs q (PrimaryAtTop g t b)) (inl h) =
        subst (λ z. IsSettled M x z) t (primary-settles M l x q.is_primary (primary_won l.stage (sym o.tied
        ∙ h) q.spot))
    go (PrimaryActs q (PrimaryAtTop g t b)) (inr h) = absurd (primary_is_no_backup q.is_primary.role h.1)
    go (BackupActs q (BackupEarlier g t a)) who = (let h = at_top in absurd (omega arith))
    go (BackupActs q (BackupAtTop g t a)) (inl h) =
        subst (λ z. IsSettled M x z) t (backup-settles M C l x q.held q.is_backup (backup_won l.stage (sym o.tied
        ∙ h) q.spot))
    go (BackupActs q (BackupAtTop g t a)) (inr h) =
        subst (λ z. IsSettled M x z) t (backup-settles M C l x q.held q.is_backup (none_won l.stage (sym o.tied ∙ h.0)))

-- some node settles
pub settles : {S : Type 0} (M : Machine S) (C : Copying S) (w : World S) (i : Inv M C w) →
    (n : ℕ) × (x : Node S) × Settles w n x
settles {S} M C w i = go l.stage o.tied t.backup.is_backup.state
  where
    t : Top M C w i
    t = top_of M C w i

    o : LineOf M C w i.top i.trace i.top
    o = i.each i.top

    l : Line S
    l = o.line

    high : highest w.nodes ≡ i.top
    high = highest_is M C w i

    a : Node S
    a = t.primary.a

    b : Node S
    b = t.backup.b

    at : (k : ℕ) (o : Option ℕ) → k ≡ i.top → winner_in w.winners i.top ≡ o → winner_in w.winners k ≡ o
    at k o e h = ap (winner_in w.winners) e ∙ h

    by_backup : (winner_in w.winners b.generation ≡ Some l.backup)
        ⊎ ((winner_in w.winners b.generation ≡ None) × (is_backup b.role ≡ true)) → (n : ℕ) × (x : Node S) × Settles w n x
    by_backup who = (
      l.backup,
      b,
      record {
        there = t.backup.there;
        highest_is = t.backup.generation ∙ sym high;
        a_node = backup-no_spare M C l b t.backup.is_backup.state;
        who = who;
      },
    )

    go : (stage : Stage) → winner_in w.winners i.top ≡ winner_at stage l.primary l.backup →
        BackupState M C (with_own l l.own stage) b → (n : ℕ) × (x : Node S) × Settles w n x
    go PrimaryWon e s = (
      l.primary,
      a,
      record {
        there = t.primary.there;
        highest_is = t.primary.generation ∙ sym high;
        a_node = primary-no_spare M l a t.primary.is_primary;
        who = inl (at a.generation _ t.primary.generation e);
      },
    )
    go BackupWon e s = by_backup (inl (at b.generation _ t.backup.generation e))
    go Undecided e (AsJoining r s f) = by_backup (inr (at b.generation _ t.backup.generation e, ap is_backup r))
    go Undecided e (AsBackup r s f) = by_backup (inr (at b.generation _ t.backup.generation e, ap is_backup r))
    go Undecided e (AsDraining r s m f) = (cc)
    go Undecided e (AsAlone r s made) = (cc)

pub settled_is : {S : Type 0} (M : Machine S) (C : Copying S) (w : World S) (i : Inv M C w) →
    Settled M w (inputs 0 i.trace) (steps i.trace)
settled_is M C w i =
    let s = settles M C w i in
    let e = settles_trace M C w i s.0 s.1 s.2 in
    record { n = s.0; x = s.1; settles = s.2; list_is = e.0; count_is = e.1 }
