-- The primary of a generation: either it makes a move, or it changes and its moves stay.
use Rattle.std.proofs.Common.{[], ◌++◌, ◌∙◌, ◌∷◌, ◌≡◌, ◌≤◌, List, None, Option, Some, ap, append_assoc, arith, inl, inr, length, refl, subst, sym, ℕ}
use Rattle.std.specs.Prelude.{slice_get, slice_set}
use Rattle.pair_protocol.proofs.Words.{Copying, Do, Input, IsPrefix, Lawful, Machine, MayTake, Move, Node, Operation, Owns, Primary, Recorded, Runs, Spare, Take, Winner, World, Write, cut, entries, inputs, operations, refusal_of, steps, timed, winner_in, with_node}
use Rattle.guest_lockstep.specs.Recorded.{Accepts}
use Rattle.pair_protocol.proofs.Invariant.Acting.{ActingPrimary, PrimaryAtTop, PrimaryEarlier, PrimaryPlace, line_at}
use Rattle.pair_protocol.proofs.Invariant.Frames.{backup-there, global-grows, relined, with_change, with_own}
use Rattle.pair_protocol.proofs.Invariant.Settled.{settled-grows, settled-held, settled-longer, settled-won}
use Rattle.pair_protocol.proofs.Invariant.{AtTop, BackupHere, BackupLeft, BackupWon, CameIn, Gone, Inv, IsBackup, IsPrimary, Line, LineOf, Next, Presence, PrimaryHere, PrimaryWon, Stage, settled, settled_moves, winner_at}
use Rattle.pair_protocol.proofs.Keeps.BackupChanges.{backup-longer}
use Rattle.pair_protocol.proofs.Keeps.PrimaryLog.{entries-longer, whole-do, whole-take}
use Rattle.pair_protocol.proofs.Keeps.PrimaryMoves.{came-take, own-take}
use Rattle.pair_protocol.proofs.Traces.Cuts.{cut-both, cut-longer}
use Rattle.pair_protocol.proofs.Traces.Lists.{among-prefix, get-prefix, get_set, get_set_cases, get_set_other, prefix-append, prefix-length, prefix-refl, prefix-trans, prefix-under}
use Rattle.pair_protocol.proofs.Traces.Moves.{operations-prefix, owns-append, runs-append, runs-rest}
use Rattle.pair_protocol.proofs.Traces.OneTrace.{one_end}
use Rattle.pair_protocol.proofs.Traces.Recorded.{recorded-does, recorded-runs, recorded-takes}

pub acting_there : {S : Type 0} (w : World S) (n m : ℕ) (x y : Node S) → slice_get w.nodes n ≡ Some x → n ≡ m →
    slice_get (slice_set w.nodes n y) m ≡ Some y
acting_there w n m x y h e = subst (λ j. slice_get (slice_set w.nodes n y) j ≡ Some y) e (get_set w.nodes n x y h)

-- Its moves from boot.
pub primary-runs : {S : Type 0} (M : Machine S) (C : Copying S) (w : World S) (i : Inv M C w) (x : Node S) →
    IsPrimary M (line_at i x) x → Runs M M.boot ((line_at i x).base ++ (line_at i x).own) x.machine
primary-runs M C w i x p = let l = line_at i x in
    runs-append M M.boot l.mid x.machine l.base l.own (i.each x.generation).sound.based p.runs

-- A primary acts: its line, and the invariant.

module _ {S : Type 0} (M : Machine S) (C : Copying S) (w : World S) (i : Inv M C w) (n : ℕ) (x : Node S)
    (q : ActingPrimary M C w i n x) where
  -- the line of its generation
  abbrev o : LineOf M C w i.top i.trace x.generation
  o = i.each x.generation

  abbrev l : Line S
  l = o.line

  -- a primary was told no more than its backup has replayed
  abbrev pub ToldNoMore : Node S → Type 0
  ToldNoMore y = (b : Node S) → slice_get w.nodes l.backup ≡ Some b → b.generation ≡ x.generation →
      y.role ≡ Primary → (b.role ≡ Spare → ⊥) → y.reported ≤ b.replayed

  -- it was told what it was told before
  pub told-same : (y : Node S) → (y.role ≡ Primary → x.role ≡ Primary) → y.reported ≡ x.reported → ToldNoMore y
  told-same y roles same b u gb role ns =
      subst (λ k. k ≤ b.replayed) (sym same)
      (o.reads.heard x b (subst (λ j. slice_get w.nodes j ≡ Some x) q.spot q.there) u refl gb (roles role) ns)

  unfoldable pub primary-line : (new : List Move) (y : Node S) (own : List Move) (stage : Stage) (ws : List Winner) →
      Presence M C (slice_set w.nodes n y) w.messages ws i.top new x.generation (with_own l own stage) →
      winner_in ws x.generation ≡ winner_at stage l.primary l.backup → ((t : S) × Recorded M l.mid own t) →
      IsPrefix l.own own → CameIn w.terminals w.puts (inputs 0 (l.base ++ own)) →
      ((stage ≡ BackupWon → ⊥) → Owns M [] M.boot (l.base ++ own)) → IsPrefix (settled (with_own l own stage)) new →
      ToldNoMore y → ((stage ≡ PrimaryWon → ⊥) → l.stage ≡ PrimaryWon → ⊥) →
      LineOf M C (with_change w n y ws) i.top new x.generation
  primary-line new y own stage ws presence tied run longer came owns below told same_stage =
      record {
        line = with_own l own stage;
        sound = record {
          based = o.sound.based;
          recorded = run;
          apart = o.sound.apart;
          held = prefix-trans l.held (entries l.reads c l.own) (entries l.reads c own) o.sound.held more;
        };
        presence = presence;
        members = λ m z t s g. elim (get_set_cases w.nodes n m y z t) [
          | inl k ↦ inl (k.0 ∙ q.spot)
          | inr k ↦ o.members m z k s g
        ];
        tied = tied;
        says = record {
          logs = λ j en k. get-prefix (entries l.reads c l.own) (entries l.reads c own) j en more (o.says.logs j en k);
          acks = o.says.acks;
          parts = o.says.parts;
        };
        came = came;
        owns = owns;
        below = below;
        reads = record {
          heard = λ a b t u ga gb role ns. elim (get_set_cases w.nodes n l.primary y a t) [
            | inl k ↦ subst (λ z. z.reported ≤ b.replayed) (sym k.1)
                (told b (old b u) gb (ap (λ (v : Node S). v.role) (sym k.1) ∙ role) ns)
            | inr k ↦ o.reads.heard a b k (old b u) ga gb role ns
          ];
          told = λ j r b m u gb ns. o.reads.told j r b m (old b u) gb ns;
          waits = λ t s b u gb role v m k en low there read.
              among-prefix (Write v) (operations (l.base ++ cut k l.own)) (operations (l.base ++ cut k own))
              (operations-prefix (l.base ++ cut k l.own) (l.base ++ cut k own)
              (prefix-under l.base (cut k l.own) (cut k own)
              (subst (λ zs. IsPrefix (cut k l.own) (cut k zs)) longer.1 (cut-both k l.own longer.0))))
              (o.reads.waits t (same_stage s) b (old b u) gb role v m k en low there read);
        };
      }
    where
      c : ℕ
      c = steps l.base

      more : IsPrefix (entries l.reads c l.own) (entries l.reads c own)
      more = subst (λ zs. IsPrefix (entries l.reads c l.own) (entries l.reads c zs)) longer.1 (entries-longer l.reads c l.own longer.0)

      old : (b : Node S) → slice_get (slice_set w.nodes n y) l.backup ≡ Some b → slice_get w.nodes l.backup ≡ Some b
      old b u = elim (get_set_cases w.nodes n l.backup y b u) [
        | inl k ↦ absurd (o.sound.apart (sym q.spot ∙ sym k.0))
        | inr k ↦ k
      ]

  -- both nodes after it
  pub primary_acts : (y : Node S) (new : Line S) → l.primary ≡ new.primary → y.generation ≡ x.generation →
      IsPrimary M new y → PrimaryHere M (slice_set w.nodes n y) x.generation new
  primary_acts y new same gy is_primary = record {
    a = y;
    there = acting_there w n new.primary x y q.there (q.spot ∙ same);
    generation = gy;
    is_primary = is_primary;
  }

  backup_same : (y : Node S) → slice_get (slice_set w.nodes n y) l.backup ≡ slice_get w.nodes l.backup
  backup_same y = get_set_other w.nodes n l.backup y (λ k. o.sound.apart (sym q.spot ∙ sym k))

  pub backup_stays : (y : Node S) (own : List Move) (stage : Stage) (h : BackupHere M C w.nodes x.generation l) →
      IsBackup M C (with_own l own stage) h.b →
      BackupHere M C (slice_set w.nodes n y) x.generation (with_own l own stage)
  backup_stays y own stage h = backup-there M C w.nodes (slice_set w.nodes n y) x.generation l (with_own l own stage) h
      (backup_same y ∙ h.there) h.held

  backup_gone : (y : Node S) → Gone w.nodes x.generation l.backup →
      Gone (slice_set w.nodes n y) x.generation l.backup
  backup_gone y gone z t s g = gone z (sym (backup_same y) ∙ t) s g

  -- The primary makes a move.
  primary-moves : (y : Node S) (m : Move) → (y.role ≡ Spare → ⊥) → y.generation ≡ x.generation →
      IsPrimary M (with_own l (l.own ++ m ∷ []) l.stage) y → ((t : S) × Recorded M l.mid (l.own ++ m ∷ []) t) →
      CameIn w.terminals w.puts (inputs 0 (l.base ++ (l.own ++ m ∷ []))) →
      ((l.stage ≡ BackupWon → ⊥) → Owns M [] M.boot (l.base ++ (l.own ++ m ∷ []))) → ToldNoMore y →
      Next M C i.trace (with_node w n y)
  unfolding primary-line
  primary-moves y m ny gy is_primary run came owns told = go q.place
    where
      own : List Move
      own = l.own ++ m ∷ []

      few : length l.held ≤ length (entries l.reads (steps l.base) l.own)
      few = prefix-length l.held (entries l.reads (steps l.base) l.own) o.sound.held

      same_cut : cut (length l.held) own ≡ cut (length l.held) l.own
      same_cut = cut-longer l.reads (length l.held) (steps l.base) l.own (m ∷ []) few

      here : PrimaryHere M (slice_set w.nodes n y) x.generation (with_own l own l.stage)
      here = primary_acts y (with_own l own l.stage) refl gy is_primary

      go : PrimaryPlace M C w.nodes i.top i.trace x.generation l → Next M C i.trace (with_node w n y)
      go (PrimaryAtTop g s b) =
          let new = settled_moves l.stage l.base own l.more (length l.held) in
          let grows : IsPrefix i.trace new =
          subst (λ z. IsPrefix z new) s (settled-grows l.stage l.base l.own l.more (m ∷ [])
          (length l.held) same_cut) in
          let backup = backup_stays y own l.stage b (backup-longer M C l (m ∷ []) b.b
          (subst (λ es. cut (length es) own ≡ cut (length es) l.own) (sym b.held) same_cut) b.is_backup) in
          let which = settled-longer l.stage l.base l.own l.more (m ∷ []) (length l.held) same_cut in
          relined M C w i n x y w.winners new q.there ny gy (λ k d. refl) grows (inr g)
          (primary-line new y own l.stage w.winners (AtTop g refl here backup) o.tied run
          (prefix-append l.own (m ∷ [])) came owns (prefix-refl new) told (λ z. z))
          (λ lt. absurd (omega (arith, lt, g))) refl
          (global-grows M w.messages w.terminals w.puts i.trace new grows
          (elim which [
            | inl k ↦ subst (λ zs. CameIn w.terminals w.puts (inputs 0 zs)) (sym (k ∙ s)) i.global.came
            | inr k ↦ subst (λ zs. CameIn w.terminals w.puts (inputs 0 zs)) (sym k.1) came
          ])
          (elim which [
            | inl k ↦ subst (λ zs. Owns M [] M.boot zs) (sym (k ∙ s)) i.global.owns
            | inr k ↦ subst (λ zs. Owns M [] M.boot zs) (sym k.1) (owns (λ z. (let j = k.0 in (cc))))
          ])
          i.global)
      go (PrimaryEarlier g s b) =
          let same : settled (with_own l own l.stage) ≡ settled l =
          settled-won l.stage l.base l.own l.more (m ∷ []) (length l.held) s same_cut in
          relined M C w i n x y w.winners i.trace q.there ny gy (λ k d. refl) (prefix-refl i.trace) (inl refl)
          (primary-line i.trace y own l.stage w.winners (BackupLeft g s (backup_gone y b) here) o.tied run
          (prefix-append l.own (m ∷ [])) came owns (subst (λ z. IsPrefix z i.trace) (sym same) o.below) told (λ z. z))
          (λ lt. same) refl i.global

  -- The primary changes; its moves stay.
  pub primary-stays : (y : Node S) → (y.role ≡ Spare → ⊥) → y.generation ≡ x.generation → IsPrimary M l y →
      ToldNoMore y → Next M C i.trace (with_node w n y)
  unfolding primary-line
  primary-stays y ny gy is_primary told =
      relined M C w i n x y w.winners i.trace q.there ny gy (λ k d. refl) (prefix-refl i.trace) (inl refl)
      (primary-line i.trace y l.own l.stage w.winners (presence q.place) o.tied o.sound.recorded
      (prefix-refl l.own) o.came o.owns o.below told (λ z. z))
      (λ lt. refl) refl i.global
    where
      here : PrimaryHere M (slice_set w.nodes n y) x.generation l
      here = primary_acts y l refl gy is_primary

      presence : PrimaryPlace M C w.nodes i.top i.trace x.generation l →
          Presence M C (slice_set w.nodes n y) w.messages w.winners i.top i.trace x.generation l
      presence (PrimaryAtTop g s b) = AtTop g s here (backup_stays y l.own l.stage b b.is_backup)
      presence (PrimaryEarlier g s b) = BackupLeft g s (backup_gone y b) here

  -- Instructions and inputs.

  primary-below : (l.stage ≡ BackupWon → ⊥) → IsPrefix i.trace (l.base ++ l.own)
  primary-below not_won = go q.place
    where
      go : PrimaryPlace M C w.nodes i.top i.trace x.generation l → IsPrefix i.trace (l.base ++ l.own)
      go (PrimaryAtTop g s b) = subst (λ z. IsPrefix z (l.base ++ l.own)) s
          (settled-held l.stage l.base l.own l.more (length l.held) (length l.held) (omega arith) not_won).1
      go (PrimaryEarlier g s b) = absurd (not_won s)

  runs : Runs M M.boot (l.base ++ l.own) x.machine
  runs = primary-runs M C w i x q.is_primary

  pub primary-does : (y : Node S) (v : Option Operation) → (y.role ≡ Spare → ⊥) → y.generation ≡ x.generation →
      IsPrimary M (with_own l (l.own ++ Do v ∷ []) l.stage) y → ToldNoMore y → Next M C i.trace (with_node w n y)
  primary-does y v ny gy is_primary told =
      primary-moves y (Do v) ny gy is_primary
      (y.machine, recorded-does M l.mid o.sound.recorded.0 y.machine l.own v o.sound.recorded.1 is_primary.runs)
      (subst (λ ts. CameIn w.terminals w.puts ts) (sym (whole-do l.base l.own v)) o.came)
      (λ z. subst (λ zs. Owns M [] M.boot zs) (append_assoc l.base l.own (Do v ∷ []))
      (owns-append M [] M.boot x.machine (l.base ++ l.own) (Do v ∷ []) runs (o.owns z) (λ u k. tt))) told

  pub primary-accepts : Lawful M → (y : Node S) (inp : Input) → MayTake M w x inp →
      refusal_of M x.machine inp ≡ None → (y.role ≡ Spare → ⊥) → y.generation ≡ x.generation →
      IsPrimary M (with_own l (l.own ++ Take inp ∷ []) l.stage) y → ToldNoMore y → Next M C i.trace (with_node w n y)
  primary-accepts laws y inp may ok ny gy is_primary told =
      let old = q.is_primary in
      let e : x.list ++ timed (M.count x.machine) inp ∷ [] ≡ inputs 0 (l.base ++ (l.own ++ Take inp ∷ [])) =
      ap (λ ts. ts ++ timed (M.count x.machine) inp ∷ []) old.list
      ∙ sym (whole-take l.base l.own inp (M.count x.machine) old.count) in
      let last = runs-rest M l.mid x.machine y.machine l.own (Take inp ∷ []) old.runs is_primary.runs in
      let at = o.sound.recorded in
      let same : x.machine ≡ at.0 = one_end M l.mid x.machine at.0 l.own old.runs
      (recorded-runs M l.mid at.0 l.own at.1) in
      let fits = laws.accepts (l.base ++ l.own) x.machine last.0 inp runs ok last.1 in
      let accepts : Accepts M x.machine inp last.0 =
      record { is_input = fits.0; room = fits.1; allowed = ok; taken = last.1 } in
      primary-moves y (Take inp) ny gy is_primary (
        last.0,
        recorded-takes M l.mid at.0 last.0 l.own inp at.1 (subst (λ s. Accepts M s inp last.0) same accepts),
      )
      (subst (λ ts. CameIn w.terminals w.puts ts) e
      (came-take M laws w x inp (M.count x.machine) (l.base ++ l.own) runs old.list may i.global.written
      (subst (λ ts. CameIn w.terminals w.puts ts) (sym old.list) o.came)))
      (λ z. subst (λ zs. Owns M [] M.boot zs) (append_assoc l.base l.own (Take inp ∷ []))
      (owns-append M [] M.boot x.machine (l.base ++ l.own) (Take inp ∷ []) runs (o.owns z) (
        own-take M laws w x inp (l.base ++ l.own) i.trace runs may ok (primary-below z) i.global.reads,
        λ u k. tt,
      ))) told
