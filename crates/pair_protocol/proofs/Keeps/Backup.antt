-- The backup of a generation: either it changes and its moves stay, or it is alone and makes a move.
use Rattle.std.proofs.Common.{[], ◌++◌, ◌∙◌, ◌∷◌, ◌≡◌, ◌≤◌, ◌⊎◌, List, None, Option, Some, ap, append_assoc, arith, inl, inr, length, refl, subst, suc, sym, take, ℕ}
use Rattle.std.specs.Prelude.{slice_get, slice_set}
use Rattle.pair_protocol.proofs.Words.{Acknowledgement, Alone, Among, Copying, Do, Entry, Input, IsPrefix, Lawful, Machine, MayTake, Message, Move, Node, Operation, Owns, Primary, Released, Replaying, Runs, SectorWrite, Spare, Take, Timed, Winner, World, Write, alone_takes, cut, entries, inputs, is_backup, plainly_steps, refusal_of, steps, timed, winner_in, with_node}
use Rattle.pair_protocol.proofs.Invariant.Acting.{ActingBackup, BackupAtTop, BackupEarlier, BackupPlace}
use Rattle.pair_protocol.proofs.Invariant.Frames.{global-grows, primary-there, relined, with_backup, with_change}
use Rattle.pair_protocol.proofs.Invariant.Settled.{settled-more}
use Rattle.pair_protocol.proofs.Invariant.{AsAlone, AtTop, BackupHere, BackupWon, CameIn, Gone, HasMade, Inv, IsBackup, IsPrimary, Line, LineOf, Next, Presence, PrimaryHere, PrimaryLeft, PrimaryWon, Stage, WaitsAt, alone_moves, settled, settled_moves, winner_at}
use Rattle.pair_protocol.proofs.Keeps.Alone.{BackupAlone, alone-trace, backup-alone}
use Rattle.pair_protocol.proofs.Keeps.Primary.{acting_there}
use Rattle.pair_protocol.proofs.Keeps.PrimaryMoves.{came-take, made-do, made-take, own-take}
use Rattle.pair_protocol.proofs.Traces.Lists.{get_set_cases, get_set_other, prefix-refl, prefix-same}
use Rattle.pair_protocol.proofs.Traces.Moves.{owns-append, runs-append}

-- what a node that takes the backup's place has to say of its replay
pub record BackupReads {S : Type 0} (nodes : List (Node S)) (messages : List Message) (top g : ℕ) (l : Line S)
    (stage : Stage) (y : Node S) : Type 0 where
  pub heard : (a : Node S) → slice_get nodes l.primary ≡ Some a → a.generation ≡ g → a.role ≡ Primary →
      a.reported ≤ y.replayed
  pub told : (h r : ℕ) → Among (Acknowledgement g h r) messages → r ≤ y.replayed
  pub waits : g ≡ top → (stage ≡ PrimaryWon → ⊥) → Replaying y.role → (v : SectorWrite) →
      Among (Released (Write v)) messages → WaitsAt l y v

-- its primary stays
pub primary-held : {S : Type 0} (M : Machine S) (l : Line S) (more : List Move) (held : List Entry) (a : Node S) →
    length l.held ≤ length held → IsPrimary M l a → IsPrimary M (with_backup l more l.stage held) a
primary-held M l more held a h p = let c = p.covered in
    record {
      role = p.role;
      reads = p.reads;
      made = p.made;
      copy = p.copy;
      covered = omega (arith, c, h);
      image = p.image;
      logged = p.logged;
    }

-- A backup acts: its line, and the invariant.

module _ {S : Type 0} (M : Machine S) (C : Copying S) (w : World S) (i : Inv M C w) (n : ℕ) (x : Node S)
    (q : ActingBackup M C w i n x) where
  -- the line of its generation
  abbrev o : LineOf M C w i.top i.trace x.generation
  o = i.each x.generation

  abbrev l : Line S
  l = o.line

  there : slice_get w.nodes l.backup ≡ Some x
  there = subst (λ j. slice_get w.nodes j ≡ Some x) q.spot q.there

  unfoldable pub backup-line : (new : List Move) (y : Node S) (more : List Move) (stage : Stage) (held : List Entry)
      (ws : List Winner) →
      Presence M C (slice_set w.nodes n y) w.messages ws i.top new x.generation (with_backup l more stage held) →
      winner_in ws x.generation ≡ winner_at stage l.primary l.backup → length l.held ≤ length held →
      IsPrefix held (entries l.reads (steps l.base) l.own) → ((stage ≡ BackupWon → ⊥) → l.stage ≡ BackupWon → ⊥) →
      IsPrefix (settled (with_backup l more stage held)) new →
      BackupReads w.nodes w.messages i.top x.generation l stage y →
      ((stage ≡ PrimaryWon → ⊥) → l.stage ≡ PrimaryWon → ⊥) → LineOf M C (with_change w n y ws) i.top new x.generation
  backup-line new y more stage held ws presence tied few prefix stays below ry same_stage = record {
    line = with_backup l more stage held;
    sound = record { based = o.sound.based; recorded = o.sound.recorded; apart = o.sound.apart; held = prefix };
    presence = presence;
    members = λ m z t s g. elim (get_set_cases w.nodes n m y z t) [
      | inl k ↦ inr (k.0 ∙ q.spot)
      | inr k ↦ o.members m z k s g
    ];
    tied = tied;
    says = record {
      logs = o.says.logs;
      acks = λ h r k. (let a = o.says.acks h r k in let b : h ≤ length l.held = a.0 in (omega arith, a.1));
      parts = o.says.parts;
    };
    came = o.came;
    owns = λ h. o.owns (stays h);
    below = below;
    reads = record {
      heard = λ a b t u ga gb role ns. elim (get_set_cases w.nodes n l.backup y b u) [
        | inl k ↦ subst (λ z. a.reported ≤ z.replayed) (sym k.1) (ry.heard a (old a t) ga role)
        | inr k ↦ o.reads.heard a b (old a t) k ga gb role ns
      ];
      told = λ j r b m u gb ns. elim (get_set_cases w.nodes n l.backup y b u) [
        | inl k ↦ subst (λ z. r ≤ z.replayed) (sym k.1) (ry.told j r m)
        | inr k ↦ o.reads.told j r b m k gb ns
      ];
      waits = λ t s b u gb role v m. elim (get_set_cases w.nodes n l.backup y b u) [
        | inl k ↦ subst (λ z. WaitsAt l z v) (sym k.1) (ry.waits t s (subst (λ z. Replaying z.role) k.1 role) v m)
        | inr k ↦ o.reads.waits t (same_stage s) b k gb role v m
      ];
    };
  }
    where
      old : (a : Node S) → slice_get (slice_set w.nodes n y) l.primary ≡ Some a → slice_get w.nodes l.primary ≡ Some a
      old a t = elim (get_set_cases w.nodes n l.primary y a t) [
        | inl k ↦ absurd (o.sound.apart (k.0 ∙ q.spot))
        | inr k ↦ k
      ]

  -- a node that has replayed as many of the same entries, or more
  pub backup-later : (y : Node S) (stage : Stage) → x.replayed ≤ y.replayed → y.held ≡ x.held →
      (Replaying y.role → Replaying x.role) ⊎ (y.held ≡ []) →
      ((stage ≡ PrimaryWon → ⊥) → l.stage ≡ PrimaryWon → ⊥) →
      BackupReads w.nodes w.messages i.top x.generation l stage y
  backup-later y stage later same roles stages = record {
    heard = λ a t ga role. (let k = o.reads.heard a x t there ga refl role q.real in omega (arith, k, later));
    told = λ j r m. (let k = o.reads.told j r x m there refl q.real in omega (arith, k, later));
    waits = λ t s role v m k en low got read. elim roles [
      | inl z ↦ o.reads.waits t (stages s) x there refl (z role) v m k en (omega (arith, low, later))
          (subst (λ es. slice_get es k ≡ Some en) same got) read
      | inr z ↦ absurd (let g : slice_get [] k ≡ Some en = subst (λ es. slice_get es k ≡ Some en) z got in (cc))
    ];
  }

  -- both nodes after it
  pub backup_acts : (y : Node S) (new : Line S) → l.backup ≡ new.backup → y.generation ≡ x.generation →
      y.held ≡ new.held → IsBackup M C new y → BackupHere M C (slice_set w.nodes n y) x.generation new
  backup_acts y new same gy held is_backup = record {
    b = y;
    there = acting_there w n new.backup x y q.there (q.spot ∙ same);
    generation = gy;
    held = held;
    is_backup = is_backup;
  }

  primary_same : (y : Node S) → slice_get (slice_set w.nodes n y) l.primary ≡ slice_get w.nodes l.primary
  primary_same y = get_set_other w.nodes n l.primary y (λ k. o.sound.apart (k ∙ q.spot))

  pub primary_stays : (y : Node S) (more : List Move) (stage : Stage) (held : List Entry)
      (h : PrimaryHere M w.nodes x.generation l) → IsPrimary M (with_backup l more stage held) h.a →
      PrimaryHere M (slice_set w.nodes n y) x.generation (with_backup l more stage held)
  primary_stays y more stage held h = primary-there M C w.nodes (slice_set w.nodes n y) x.generation l
      (with_backup l more stage held) h (primary_same y ∙ h.there)

  pub primary_gone : (y : Node S) → Gone w.nodes x.generation l.primary →
      Gone (slice_set w.nodes n y) x.generation l.primary
  primary_gone y gone z t s g = gone z (sym (primary_same y) ∙ t) s g

  -- The backup changes; what it holds and the stage stay.
  pub backup-stays : (y : Node S) → (y.role ≡ Spare → ⊥) → y.generation ≡ x.generation → y.held ≡ x.held →
      IsBackup M C l y → BackupReads w.nodes w.messages i.top x.generation l l.stage y →
      Next M C i.trace (with_node w n y)
  unfolding backup-line
  backup-stays y ny gy same is_backup ry =
      relined M C w i n x y w.winners i.trace q.there ny gy (λ k d. refl) (prefix-refl i.trace) (inl refl)
      (backup-line i.trace y l.more l.stage l.held w.winners (presence q.place) o.tied
      (omega arith) o.sound.held (λ z. z) o.below ry (λ z. z))
      (λ lt. refl) refl i.global
    where
      here : BackupHere M C (slice_set w.nodes n y) x.generation l
      here = backup_acts y l refl gy (same ∙ q.held) is_backup

      presence : BackupPlace M w.nodes i.top i.trace x.generation l →
          Presence M C (slice_set w.nodes n y) w.messages w.winners i.top i.trace x.generation l
      presence (BackupAtTop g s a) = AtTop g s (primary_stays y l.more l.stage l.held a a.is_primary) here
      presence (BackupEarlier g s a) = PrimaryLeft g s (primary_gone y a) here

  -- The backup is alone and makes a move.

  backup-moves : (k : BackupAlone M l x) (m : Move) (s : S) (ts : List Timed) → x.role ≡ Alone →
      HasMade M l.mid l.base (alone_moves l x.held ++ m ∷ []) s ts → CameIn w.terminals w.puts ts →
      Owns M [] M.boot ((l.base ++ alone_moves l x.held) ++ m ∷ []) →
      Next M C i.trace (with_node w n (record x { machine = s; list = ts }))
  unfolding backup-line
  backup-moves k m s ts role made came owns = go q.place
    where
      y : Node S
      y = record x { machine = s; list = ts }

      more : List Move
      more = l.more ++ m ∷ []

      new : List Move
      new = settled_moves l.stage l.base l.own more (length l.held)

      joined : alone_moves l x.held ++ m ∷ [] ≡ cut (length x.held) l.own ++ more
      joined = append_assoc (cut (length x.held) l.own) l.more (m ∷ [])

      moves_are : l.base ++ (cut (length x.held) l.own ++ more) ≡ new
      moves_are = ap (λ es. l.base ++ (cut (length es) l.own ++ more)) q.held
          ∙ ap (λ z. settled_moves z l.base l.own more (length l.held)) (sym k.won)

      whole : (l.base ++ alone_moves l x.held) ++ m ∷ [] ≡ new
      whole = append_assoc l.base (alone_moves l x.held) (m ∷ []) ∙ ap (λ zs. l.base ++ zs) joined ∙ moves_are

      go : BackupPlace M w.nodes i.top i.trace x.generation l → Next M C i.trace (with_node w n y)
      go (BackupEarlier g z a) = (let won = k.won in (cc))
      go (BackupAtTop g z a) =
          let grows : IsPrefix i.trace new =
          subst (λ z. IsPrefix z new) z (settled-more l.stage l.base l.own l.more (m ∷ []) (length l.held)) in
          relined M C w i n x y w.winners new q.there q.real refl (λ k d. refl) grows (inr g)
          (backup-line new y more l.stage l.held w.winners
          (AtTop g refl (primary_stays y more l.stage l.held a
          (primary-held M l more l.held a.a (omega arith) a.is_primary))
          (backup_acts y (with_backup l more l.stage l.held) refl refl q.held (record {
            state = AsAlone role k.won (subst (λ zs. HasMade M l.mid l.base zs s ts) joined made);
            log = q.is_backup.log;
          }))) o.tied (omega arith) o.sound.held (λ z. z)
          (prefix-refl new)
          (backup-later y l.stage (omega arith) refl (inl (λ k. k)) (λ z. z)) (λ z. z))
          (λ lt. absurd (omega (arith, lt, g))) refl
          (global-grows M w.messages w.terminals w.puts i.trace new grows
          (subst (λ us. CameIn w.terminals w.puts us) (made.list ∙ ap (inputs 0)
          (ap (λ zs. l.base ++ zs) joined ∙ moves_are)) came)
          (subst (λ zs. Owns M [] M.boot zs) whole owns)
          i.global)

  -- what is known of it before
  from_boot : BackupAlone M l x → Runs M M.boot (l.base ++ alone_moves l x.held) x.machine
  from_boot k = runs-append M M.boot l.mid x.machine l.base (alone_moves l x.held) o.sound.based k.runs

  trace_came : BackupAlone M l x → CameIn w.terminals w.puts x.list
  trace_came k = subst (λ ts. CameIn w.terminals w.puts ts)
      (sym (k.list ∙ ap (inputs 0) (sym (alone-trace M C w i n x q k)))) i.global.came

  trace_owns : BackupAlone M l x → Owns M [] M.boot (l.base ++ alone_moves l x.held)
  trace_owns k = subst (λ zs. Owns M [] M.boot zs) (alone-trace M C w i n x q k) i.global.owns

  pub backup-does : (s : S) (v : Option Operation) → x.role ≡ Alone → M.step x.machine ≡ Some (s, v) →
      M.count s ≡ suc (M.count x.machine) → Next M C i.trace (with_node w n (plainly_steps x s))
  backup-does s v role step counted =
      let k = backup-alone M C l x q.is_backup.state role in
      let z = alone_moves l x.held in
      backup-moves k (Do v) s x.list role (made-do M l.mid l.base z x.machine s x.list k.made v step counted)
      (trace_came k)
      (owns-append M [] M.boot x.machine (l.base ++ z) (Do v ∷ []) (from_boot k) (trace_owns k) (λ u q. tt))

  pub backup-accepts : (laws : Lawful M) (s : S) (inp : Input) → x.role ≡ Alone → MayTake M w x inp →
      refusal_of M x.machine inp ≡ None → M.take x.machine inp ≡ Some s → M.count s ≡ M.count x.machine →
      Next M C i.trace (with_node w n (alone_takes M x s inp))
  backup-accepts laws s inp role may ok take counted =
      let k = backup-alone M C l x q.is_backup.state role in
      let z = alone_moves l x.held in
      backup-moves k (Take inp) s (x.list ++ timed (M.count x.machine) inp ∷ []) role
      (made-take M l.mid l.base z x.machine s x.list k.made inp take counted)
      (came-take M laws w x inp (M.count x.machine) (l.base ++ z) (from_boot k) k.list may i.global.written
      (trace_came k))
      (owns-append M [] M.boot x.machine (l.base ++ z) (Take inp ∷ []) (from_boot k) (trace_owns k) (
        own-take M laws w x inp (l.base ++ z) i.trace (from_boot k) may ok
            (prefix-same i.trace (l.base ++ z) (alone-trace M C w i n x q k)) i.global.reads,
        λ u q. tt,
      ))
