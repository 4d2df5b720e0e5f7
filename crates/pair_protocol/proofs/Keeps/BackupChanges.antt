-- What a node's changes leave of its generation: replaying, receiving an acknowledgement, halting, going live, joining; and
-- what more moves of the primary leave of the backup.
use Rattle.std.proofs.Common.{[], ◌++◌, ◌+◌, ◌∙◌, ◌∷◌, ◌≡◌, ◌≤◌, ◌⊎◌, List, None, Option, Some, ap, append-nil, arith, inl, inr, length, length-set, refl, subst, suc, sym, take, ℕ}
use Rattle.std.specs.Prelude.{slice_get, slice_set}
use Rattle.pair_protocol.proofs.Words.{Copying, Draining, Entry, IsCopying, IsPrefix, Joining, Lawful, Machine, Move, Node, Owns, Replaying, Role, Runs, cut, entries, gathered, gets_part, goes_live, halts, hears, inputs, joins, steps, with_first}
use Rattle.pair_protocol.proofs.Invariant.Frames.{with_own}
use Rattle.pair_protocol.proofs.Invariant.{AsAlone, AsBackup, AsDraining, AsJoining, BackupState, BackupWon, HasGathered, HasMade, HasReplayed, HoldsLog, IsBackup, IsPrimary, Line, alone_moves}
use Rattle.pair_protocol.proofs.Keeps.PrimaryLog.{entries-longer}
use Rattle.pair_protocol.proofs.Keeps.Replay.{held-list, replayed-ends}
use Rattle.pair_protocol.proofs.Traces.Lists.{get_set_cases, prefix-trans, same_some}

-- Replaying.

module _ {S : Type 0} (M : Machine S) (C : Copying S) (l : Line S) where
  pub backup_state-replayed : (x : Node S) (r : Role) → x.role ≡ r → Replaying r → BackupState M C l x →
      HasReplayed M l x
  backup_state-replayed x r e which (AsJoining k s f) = absurd (elim which [ inl h ↦ (cc) | inr h ↦ (cc) ])
  backup_state-replayed x r e which (AsBackup k s f) = f
  backup_state-replayed x r e which (AsDraining k s m f) = f
  backup_state-replayed x r e which (AsAlone k s made) = absurd (elim which [ inl h ↦ (cc) | inr h ↦ (cc) ])

  pub backup_state-replays : (x y : Node S) (r : Role) → x.role ≡ r → Replaying r → y.role ≡ x.role →
      HasReplayed M l y → BackupState M C l x → BackupState M C l y
  backup_state-replays x y r e which q f (AsJoining k s g) = absurd (elim which [ inl h ↦ (cc) | inr h ↦ (cc) ])
  backup_state-replays x y r e which q f (AsBackup k s g) = AsBackup (q ∙ k) s f
  backup_state-replays x y r e which q f (AsDraining k s m g) = AsDraining (q ∙ k) s m f
  backup_state-replays x y r e which q f (AsAlone k s made) = absurd (elim which [ inl h ↦ (cc) | inr h ↦ (cc) ])

  -- Halting.

  pub primary-halts : (a : Node S) → IsPrimary M l a → IsPrimary M l (halts a)
  primary-halts a p = record {
    role = p.role;
    reads = p.reads;
    made = p.made;
    copy = p.copy;
    covered = p.covered;
    image = p.image;
    logged = p.logged;
  }

  pub backup_state-halts : (b : Node S) → BackupState M C l b → BackupState M C l (halts b)
  backup_state-halts b (AsJoining r s f) = AsJoining r s f
  backup_state-halts b (AsBackup r s f) = AsBackup r s f
  backup_state-halts b (AsDraining r s m f) = AsDraining r s m f
  backup_state-halts b (AsAlone r s made) = AsAlone r s made

  -- Hearing.
  pub primary-hears : (a : Node S) (h r : ℕ) → h ≤ length l.held → IsPrimary M l a → IsPrimary M l (hears a h r)
  primary-hears a h r k p = let c = p.covered in
      record {
        role = p.role;
        reads = p.reads;
        made = p.made;
        copy = p.copy;
        covered = omega arith;
        image = λ s e. (cc);
        logged = p.logged;
      }

  -- A drained node is alone.
  pub backup_state-live : (b : Node S) → b.role ≡ Draining → b.replayed ≡ length b.held →
      HoldsLog l.reads l.base l.own b.copy b.start b.held → BackupState M C l b → BackupState M C l (goes_live b)
  backup_state-live b role done log (AsJoining k s f) = (cc)
  backup_state-live b role done log (AsBackup k s f) = (cc)
  backup_state-live b role done log (AsAlone k s made) = (cc)
  backup_state-live b role done log (AsDraining k s m f) =
      let d : cut (length b.held) l.own ≡ alone_moves l b.held =
      sym (append-nil (cut (length b.held) l.own)) ∙ ap (λ zs. cut (length b.held) l.own ++ zs) (sym m) in
      let e : f.ms ≡ alone_moves l b.held = replayed-ends M l b done f ∙ d in
      AsAlone refl s (record {
        runs = subst (λ zs. Runs M l.mid zs b.machine) e f.runs;
        count = f.count ∙ ap (λ zs. steps l.base + steps zs) e;
        list = held-list l.reads l.base l.own b.copy b.held log.copy log.held ∙ ap (λ zs. inputs 0 (l.base ++ zs)) d;
      })

-- Joining.

pub set_part : (ps : List (Option (List ℕ))) (i j : ℕ) (p q : List ℕ) →
    slice_get (slice_set ps i (Some p)) j ≡ Some (Some q) → ((j ≡ i) × (q ≡ p)) ⊎ (slice_get ps j ≡ Some (Some q))
set_part ps i j p q h = elim (get_set_cases ps i j (Some p) (Some q) h) [
  | inl k ↦ inl
      (k.0, sym (same_some p q (Some p) refl (sym k.1)))
  | inr k ↦ inr k
]

gets-part : (whole : List (List ℕ)) (held : List Entry) (replayed : ℕ) (parts : List (Option (List ℕ))) (i : ℕ)
    (p : List ℕ) → slice_get whole i ≡ Some p → HasGathered whole held replayed parts →
    HasGathered whole held replayed (slice_set parts i (Some p))
gets-part whole held replayed parts i p h g = record {
  empty = g.empty;
  none = g.none;
  long = length-set parts i (Some p) ∙ g.long;
  each = λ j q k. elim (set_part parts i j p q k) [
    | inl e ↦ subst (λ z. slice_get whole z ≡ Some q) (sym e.0) (h ∙ ap Some (sym e.1))
    | inr e ↦ g.each j q e
  ];
}

-- a joining node
pub joining-gathered : {S : Type 0} (M : Machine S) (C : Copying S) (l : Line S) (x : Node S) → x.role ≡ Joining →
    BackupState M C l x → (l.stage ≡ BackupWon → ⊥) × HasGathered (C.parts l.mid) x.held x.replayed x.parts
joining-gathered M C l x role (AsJoining r s g) = (s, g)
joining-gathered M C l x role (AsBackup r s f) = (cc)
joining-gathered M C l x role (AsDraining r s m f) = (cc)
joining-gathered M C l x role (AsAlone r s made) = (cc)

pub backup_state-part : {S : Type 0} (M : Machine S) (C : Copying S) (l : Line S) (x : Node S) (k : ℕ) (p : List ℕ) →
    x.role ≡ Joining → slice_get (C.parts l.mid) k ≡ Some p → BackupState M C l x → BackupState M C l (gets_part x k p)
backup_state-part M C l x k p role h state = let g = joining-gathered M C l x role state in
    AsJoining role g.0 (gets-part (C.parts l.mid) x.held x.replayed x.parts k p h g.1)

-- what was gathered is the whole
pub gathered_is : (slots : List (Option (List ℕ))) (whole ps : List (List ℕ)) → length slots ≡ length whole →
    ((i : ℕ) (p : List ℕ) → slice_get slots i ≡ Some (Some p) → slice_get whole i ≡ Some p) →
    gathered slots ≡ Some ps → ps ≡ whole
gathered_is [] [] ps l h k = sym (same_some [] ps (Some []) refl k)
gathered_is [] (w ∷ whole) ps l h k = absurd (omega arith)
gathered_is (s ∷ slots) [] ps l h k = absurd (omega arith)
gathered_is (None ∷ slots) (w ∷ whole) ps l h k = (cc)
gathered_is (Some p ∷ slots) (w ∷ whole) ps l h k =
    go (gathered slots) refl k (λ qs e. gathered_is slots whole qs (omega arith) (λ i q g. h (suc i) q g) e)
  where
    first : p ≡ w
    first = sym (same_some w p (Some w) refl (h 0 p refl))

    go : (o : Option (List (List ℕ))) → gathered slots ≡ o → with_first p o ≡ Some ps →
        ((qs : List (List ℕ)) → gathered slots ≡ Some qs → qs ≡ whole) → ps ≡ w ∷ whole
    go None e f rest = (cc)
    go (Some qs) e f rest =
        let t : p ∷ qs ≡ ps = same_some (p ∷ qs) ps (Some (p ∷ qs)) refl f in
        let r : qs ≡ whole = rest qs e in
        sym t ∙ ap (λ (z : List ℕ). z ∷ qs) first ∙ ap (λ zs. w ∷ zs) r

-- all parts arrived: the node follows from the copy on
pub backup_state-joins : {S : Type 0} (M : Machine S) (C : Copying S) (laws : Lawful M) (copies : IsCopying M C)
    (l : Line S) (s : S) (b : Node S) (ps : List (List ℕ)) → b.role ≡ Joining → gathered b.parts ≡ Some ps →
    C.assemble ps ≡ Some s → Runs M M.boot l.base l.mid →
    ((l.stage ≡ BackupWon → ⊥) → Owns M [] M.boot l.base) → BackupState M C l b → BackupState M C l (joins b s)
backup_state-joins M C laws copies l s b ps role got made based owns state =
    let j = joining-gathered M C l b role state in
    let g = j.1 in
    let e : ps ≡ C.parts l.mid = gathered_is b.parts (C.parts l.mid) ps g.long g.each got in
    let m : l.mid ≡ s = sym (copies.again l.base l.mid s based (owns j.0) (ap C.assemble (sym e) ∙ made)) in
    let r = g.none in
    AsBackup refl j.0 (record {
      ms = [];
      runs = m;
      count = ap M.count (sym m) ∙ laws.counts l.base l.mid based
          ∙ (let z : steps l.base ≡ steps l.base + 0 = omega arith in z);
      within = (cut (length b.held) l.own, refl);
      few = omega arith;
      place = inl (ap (λ n. take n b.held) (sym r));
    })

-- The primary makes more moves.

module _ {S : Type 0} (M : Machine S) (C : Copying S) (l : Line S) (xs : List Move) (b : Node S)
    (e : cut (length b.held) (l.own ++ xs) ≡ cut (length b.held) l.own) where
  replayed-longer : HasReplayed M l b → HasReplayed M (with_own l (l.own ++ xs) l.stage) b
  replayed-longer f = record {
    ms = f.ms;
    runs = f.runs;
    count = f.count;
    within = subst (λ zs. IsPrefix f.ms zs) (sym e) f.within;
    few = f.few;
    place = f.place;
  }

  backup_state-longer : BackupState M C l b → BackupState M C (with_own l (l.own ++ xs) l.stage) b
  backup_state-longer (AsJoining r s f) = AsJoining r s f
  backup_state-longer (AsBackup r s f) = AsBackup r s (replayed-longer f)
  backup_state-longer (AsDraining r s m f) = AsDraining r s m (replayed-longer f)
  backup_state-longer (AsAlone r s made) =
      AsAlone r s (subst (λ zs. HasMade M l.mid l.base (zs ++ l.more) b.machine b.list) (sym e) made)

  pub backup-longer : IsBackup M C l b → IsBackup M C (with_own l (l.own ++ xs) l.stage) b
  backup-longer h = record {
    state = backup_state-longer h.state;
    log = record {
      copy = h.copy;
      start = h.start;
      held = prefix-trans b.held (entries l.reads (steps l.base) l.own) (entries l.reads (steps l.base) (l.own ++ xs)) h.held
          (entries-longer l.reads (steps l.base) l.own xs);
    };
  }
