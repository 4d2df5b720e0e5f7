-- Every action keeps the invariant, and only extends the settled moves.
use Rattle.std.proofs.Common.{[], ◌++◌, ◌∙◌, ◌∷◌, ◌≡◌, ◌≤◌, ◌⊎◌, List, None, Option, Some, ap, arith, inl, inr, length, max, refl, subst, suc, sym, ℕ}
use Rattle.std.specs.Prelude.{slice_get}
use Rattle.pair_protocol.proofs.Words.{Acknowledgement, Acknowledges, Acts, Alone, AloneReleases, AloneSteps, AloneTakes, Among, Arrival, Arrives, Backup, Byte, Change, Copying, Do, Draining, Entry, GetsPart, GoesLive, ImagePart, Input, IsCopying, IsPrefix, Joining, Lawful, LogEntry, Machine, MayTake, Node, Operation, Primary, PrimaryReleases, PrimarySteps, PrimaryTakes, Recorded, Released, Replaying, ReplaysInput, ReplaysMark, ReplaysStep, Role, SendsPart, Spare, Take, Tells, Types, World, Write, alone_takes, entries, fetches, gets_part, goes_live, halts, hears, joins, keys_covered, operations, passes_input, passes_mark, passes_read, plainly_steps, primary_steps, primary_takes, refusal_of, sector_record, steps, terminal, timed, winner_in, with_node, with_winner}
use Rattle.guest_lockstep.specs.declared.input.Input.TheVariants as input
use Rattle.log_entry.specs.declared.entry.Entry.TheVariants as entry
use Rattle.pair_protocol.specs.Change as change
use Rattle.pair_protocol.specs.Change.{Begins, Hears, Holds, HostComes, Joins, Puts, ReadsSector, Sends, Stops, Wins}
use Rattle.pair_protocol.proofs.Invariant.Acting.{Acting, ActingBackup, BackupActs, IsBackupRole, PrimaryActs, acting, acting_backup, acting_primary, acts-no_spare, line_at}
use Rattle.pair_protocol.proofs.Invariant.{BackupState, HasReplayed, Inv, IsPrimary, Next}
use Rattle.pair_protocol.proofs.Keeps.Alone.{alone}
use Rattle.pair_protocol.proofs.Keeps.Arbiter.{backup-wins, primary-wins}
use Rattle.pair_protocol.proofs.Keeps.Backup.{backup-accepts, backup-does, backup-later, backup-stays}
use Rattle.pair_protocol.proofs.Keeps.BackupChanges.{backup_state-halts, backup_state-joins, backup_state-live, backup_state-part, backup_state-replayed, backup_state-replays, joining-gathered, primary-halts, primary-hears}
use Rattle.pair_protocol.proofs.Keeps.Disk.{keep-puts, keep-reads, record-is}
use Rattle.pair_protocol.proofs.Keeps.Holding.{backup-holds}
use Rattle.pair_protocol.proofs.Keeps.Link.{keep-message}
use Rattle.pair_protocol.proofs.Keeps.NewGeneration.{keep-begins}
use Rattle.pair_protocol.proofs.Keeps.Primary.{primary-accepts, primary-does, primary-runs, primary-stays, told-same}
use Rattle.pair_protocol.proofs.Keeps.PrimaryMoves.{alone-after, made-do, made-take, primary-after_input, primary-after_step}
use Rattle.pair_protocol.proofs.Keeps.Releases.{alone_frees, frees, released, told_any}
use Rattle.pair_protocol.proofs.Keeps.Fetched.{AreFetched, IsAnswered}
use Rattle.pair_protocol.proofs.Keeps.Reads.{primary_took}
use Rattle.pair_protocol.proofs.Keeps.Replay.{NextInput, replayed-input, replayed-mark, replayed-step, replayed-taken}
use Rattle.pair_protocol.proofs.Keeps.Terminals.{accepted-longer, keep-hosts, keep-terminal}
use Rattle.pair_protocol.proofs.Traces.Lists.{among-get, among-split, prefix-append, prefix-length, prefix-refl, same_some}
use Rattle.pair_protocol.proofs.Traces.Moves.{count-does, count-takes, owns-front, runs-append}

module _ {S : Type 0} (M : Machine S) (C : Copying S) (laws : Lawful M) (w : World S) (i : Inv M C w) (n : ℕ)
    (x : Node S) where
  -- a step and an input count as they are to at a primary's machine
  counted : (s : S) (o : Option Operation) → IsPrimary M (line_at i x) x → M.step x.machine ≡ Some (s, o) →
      M.count s ≡ suc (M.count x.machine)
  counted s o p h = count-does M laws _ x.machine s o (primary-runs M C w i x p) h

  counted_input : (s : S) (v : Input) → IsPrimary M (line_at i x) x → M.take x.machine v ≡ Some s →
      M.count s ≡ M.count x.machine
  counted_input s v p h = count-takes M laws _ x.machine s v (primary-runs M C w i x p) h

  primary_steps_keep : (s : S) (o : Option Operation) → Acts w n x Primary → M.step x.machine ≡ Some (s, o) →
      Next M C i.trace (with_node w n (primary_steps M x s o))
  primary_steps_keep s o acts h =
      let q = acting_primary M C w i n x acts in
      let y = primary_steps M x s o in
      primary-does M C w i n x q y o q.real refl
      (primary-after_step M (line_at i x) x s q.is_primary o acts.role_is h (counted s o q.is_primary h))
      (told-same M C w i n x q y (λ r. r) refl)

  primary_takes_keep : (s : S) (v : Input) → Acts w n x Primary → MayTake M w x v → refusal_of M x.machine v ≡ None →
      M.take x.machine v ≡ Some s → Next M C i.trace (with_node w n (primary_takes M x s v))
  primary_takes_keep s v acts may ok h =
      let q = acting_primary M C w i n x acts in
      let y = primary_takes M x s v in
      primary-accepts M C w i n x q laws y v may ok q.real refl
      (primary-after_input M (line_at i x) x s q.is_primary v acts.role_is h (counted_input s v q.is_primary h))
      (told-same M C w i n x q y (λ r. r) refl)

  alone_steps_keep : (s : S) (o : Option Operation) → Acts w n x Alone → M.step x.machine ≡ Some (s, o) →
      Next M C i.trace (with_node w n (plainly_steps x s))
  alone_steps_keep s o acts h = go (acting M C w i n x acts.there (acts-no_spare w n x Alone acts (λ k. (cc))))
    where
      go : Acting M C w i n x → Next M C i.trace (with_node w n (plainly_steps x s))
      go (PrimaryActs q p) = let l = line_at i x in
          primary-does M C w i n x q (plainly_steps x s) o q.real refl
          (alone-after M l x s q.is_primary (Do o) x.list acts.role_is
          (made-do M l.mid l.base l.own x.machine s x.list q.is_primary.made o h (counted s o q.is_primary h)))
          (told-same M C w i n x q (plainly_steps x s) (λ r. r) refl)
      go (BackupActs q p) = backup-does M C w i n x q s o acts.role_is h
          (count-does M laws i.trace x.machine s o (alone M C w i n x acts).runs h)

  alone_takes_keep : (s : S) (v : Input) → Acts w n x Alone → MayTake M w x v → refusal_of M x.machine v ≡ None →
      M.take x.machine v ≡ Some s → Next M C i.trace (with_node w n (alone_takes M x s v))
  alone_takes_keep s v acts may ok h =
      go (acting M C w i n x acts.there (acts-no_spare w n x Alone acts (λ k. (cc))))
    where
      go : Acting M C w i n x → Next M C i.trace (with_node w n (alone_takes M x s v))
      go (PrimaryActs q p) = let l = line_at i x in
          primary-accepts M C w i n x q laws (alone_takes M x s v) v may ok q.real refl
          (alone-after M l x s q.is_primary (Take v) (x.list ++ timed (M.count x.machine) v ∷ []) acts.role_is
          (made-take M l.mid l.base l.own x.machine s x.list q.is_primary.made v h
          (counted_input s v q.is_primary h)))
          (told-same M C w i n x q (alone_takes M x s v) (λ r. r) refl)
      go (BackupActs q p) = backup-accepts M C w i n x q laws s v acts.role_is may ok h
          (count-takes M laws i.trace x.machine s v (alone M C w i n x acts).runs h)

module _ {S : Type 0} (M : Machine S) (C : Copying S) (w : World S) (i : Inv M C w) (n : ℕ) (x : Node S) where
  stops_keep : slice_get w.nodes n ≡ Some x → (x.role ≡ Spare → ⊥) → Next M C i.trace (with_node w n (halts x))
  stops_keep h ns = go (acting M C w i n x h ns)
    where
      go : Acting M C w i n x → Next M C i.trace (with_node w n (halts x))
      go (PrimaryActs q p) = primary-stays M C w i n x q (halts x) ns refl
          (primary-halts M C (line_at i x) x q.is_primary)
          (told-same M C w i n x q (halts x) (λ r. r) refl)
      go (BackupActs q p) = backup-stays M C w i n x q (halts x) ns refl refl
          (record { state = backup_state-halts M C (line_at i x) x q.is_backup.state; log = q.is_backup.log })
          (backup-later M C w i n x q (halts x) (line_at i x).stage (omega arith) refl (inl (λ k. k)) (λ z. z))

  wins_keep : (r : Role) → Acts w n x r → (r ≡ Joining → ⊥) → (r ≡ Spare → ⊥) →
      winner_in w.winners x.generation ≡ None → Next M C i.trace (with_winner w n x)
  wins_keep r acts nj ns none = go (acting M C w i n x acts.there (acts-no_spare w n x r acts ns))
    where
      go : Acting M C w i n x → Next M C i.trace (with_winner w n x)
      go (PrimaryActs q p) = primary-wins M C w i n x none q
      go (BackupActs q p) = backup-wins M C w i n x none q (λ k. nj (sym acts.role_is ∙ k))

  hears_keep : (h r : ℕ) → Acts w n x Primary → h ≤ length (line_at i x).held →
      ((b : Node S) → slice_get w.nodes (line_at i x).backup ≡ Some b → b.generation ≡ x.generation →
      (b.role ≡ Spare → ⊥) → r ≤ b.replayed) → Next M C i.trace (with_node w n (hears x h r))
  hears_keep h r acts k told =
      let q = acting_primary M C w i n x acts in
      primary-stays M C w i n x q (hears x h r) q.real refl
      (primary-hears M C (line_at i x) x h r k q.is_primary)
      (λ b u gb role nb. (let a = (i.each x.generation).reads.heard x b
      (subst (λ j. slice_get w.nodes j ≡ Some x) q.spot acts.there) u refl gb acts.role_is nb in
      let c = told b u gb nb in omega (arith, a, c)))

  -- the backup in another state, otherwise as before
  backup_keep : (y : Node S) (r : Role) → Acts w n x r → IsBackupRole r → (y.role ≡ Spare → ⊥) →
      y.generation ≡ x.generation → y.held ≡ x.held → y.copy ≡ x.copy → y.start ≡ x.start → x.replayed ≤ y.replayed →
      (Replaying y.role → Replaying x.role) ⊎ (y.held ≡ []) →
      (BackupState M C (line_at i x) x → BackupState M C (line_at i x) y) → Next M C i.trace (with_node w n y)
  backup_keep y r acts role ny gy hy cy sy later roles state =
      let q = acting_backup M C w i n x r acts role in
      let l = line_at i x in
      backup-stays M C w i n x q y ny gy hy
      (record {
        state = state q.is_backup.state;
        log = record {
          copy = cy ∙ q.is_backup.copy;
          start = sy ∙ q.is_backup.start;
          held = subst (λ es. IsPrefix es (entries l.reads (steps l.base) l.own)) (sym hy) q.is_backup.held;
        };
      })
      (backup-later M C w i n x q y l.stage later hy roles (λ z. z))

  -- replay
  replays : (y : Node S) (r : Role) → Acts w n x r → Replaying r → y.role ≡ x.role → y.generation ≡ x.generation →
      y.held ≡ x.held → y.copy ≡ x.copy → y.start ≡ x.start → x.replayed ≤ y.replayed →
      ((last : S) → IsPrefix x.held (entries (line_at i x).reads (steps (line_at i x).base) (line_at i x).own) →
      Recorded M (line_at i x).mid (line_at i x).own last → HasReplayed M (line_at i x) x →
      HasReplayed M (line_at i x) y) → Next M C i.trace (with_node w n y)
  replays y r acts which ry gy hy cy sy later replayed =
      let o = i.each x.generation in
      let backs_up : IsBackupRole r = elim which [
        | inl h ↦ subst IsBackupRole (sym h) tt
        | inr h ↦ subst IsBackupRole (sym h) tt
      ] in
      let q = acting_backup M C w i n x r acts backs_up in
      backup_keep y r acts backs_up (λ k. q.real (sym ry ∙ k)) gy hy cy sy later
      (inl (λ k. subst Replaying ry k))
      (λ s. backup_state-replays M C o.line x y r acts.role_is which ry
      (replayed o.sound.recorded.0 q.is_backup.held o.sound.recorded.1
      (backup_state-replayed M C o.line x r acts.role_is which s)) s)

-- the same read is of the same sector
sector-alike : (c drive sector number others k l : ℕ) (bytes : List ℕ) →
    entry.Read c drive sector number ≡ entry.Read c others k l →
    input.Sector drive sector number bytes ≡ input.Sector others k l bytes
sector-alike c drive sector number others k l bytes h = (cc)

-- what the primary took is said of the same read in other words
took_here : {S : Type 0} (M : Machine S) (C : Copying S) (laws : Lawful M) (w : World S) (i : Inv M C w) (n : ℕ)
    (x : Node S) (q : ActingBackup M C w i n x) (f : HasReplayed M (line_at i x) x) (bytes : List ℕ)
    (a : IsAnswered M w.messages x bytes) (e : Entry) (v : Input) →
    entry.Read (M.count x.machine) a.drive a.sector a.number ≡ e →
    input.Sector a.drive a.sector a.number bytes ≡ v →
    NextInput M (line_at i x) (i.each x.generation).sound.recorded.0 x q.is_backup.held
    (i.each x.generation).sound.recorded.1 f e v
took_here M C laws w i n x q f bytes a e v same_entry same_input =
    subst (NextInput M (line_at i x) (i.each x.generation).sound.recorded.0 x q.is_backup.held
    (i.each x.generation).sound.recorded.1 f e) same_input
    (subst (λ z. NextInput M (line_at i x) (i.each x.generation).sound.recorded.0 x q.is_backup.held
    (i.each x.generation).sound.recorded.1 f z (input.Sector a.drive a.sector a.number bytes)) same_entry
    (primary_took M C laws w i n x q f bytes a))

-- An action keeps the invariant, and the settled moves after it begin with those before it.
module _ {S : Type 0} (M : Machine S) (C : Copying S) (laws : Lawful M) (copies : IsCopying M C) where
  pub keep : (w new : World S) (i : Inv M C w) → AreFetched M w → Change M C w new → Next M C i.trace new
  keep w new i fetched (PrimarySteps n x s o acts h) = primary_steps_keep M C laws w i n x s o acts h
  keep w new i fetched (AloneSteps n x s o acts h) = alone_steps_keep M C laws w i n x s o acts h
  keep w new i fetched (PrimaryTakes n x s v acts may ok h) =
      primary_takes_keep M C laws w i n x s v acts may ok h
  keep w new i fetched (AloneTakes n x s v acts may ok h) = alone_takes_keep M C laws w i n x s v acts may ok h
  keep w new i fetched (Types p b) =
      keep-terminal M C w i p (record (terminal w p) { typed = (terminal w p).typed ++ b ∷ [] })
      (record { accepts = omega arith; types = prefix-append (terminal w p).typed (b ∷ []) }) (i.global.arrived p)
      (i.global.told p)
  keep w new i fetched (Sends n x k e acts h) =
      let q = acting_primary M C w i n x acts in
      keep-message M C w i (LogEntry x.generation k e) n x acts.there (acts-no_spare w n x Primary acts (λ k. (cc)))
      (λ j d. d) (λ j. subst (λ es. slice_get es k ≡ Some e) (q.is_primary.logged acts.role_is).log h) tt (λ k. tt)
  keep w new i fetched (Holds n x m e acts h) =
      let q = acting_backup M C w i n x Backup acts tt in
      backup-holds M C w i n x q e acts.role_is ((i.each x.generation).says.logs (length x.held) e
      (among-get w.messages m (LogEntry x.generation (length x.held) e) h))
  keep w new i fetched (Acknowledges n x replayed acts few) =
      let q = acting_backup M C w i n x Backup acts tt in
      let e = ap length q.held in
      let most = (backup_state-replayed M C (line_at i x) x Backup acts.role_is (inl refl) q.is_backup.state).few in
      keep-message M C w i (Acknowledgement x.generation (length x.held) replayed) n x acts.there
      (acts-no_spare w n x Backup acts (λ k. (cc))) (λ j d. d)
      (λ j. (
        omega arith,
        omega (arith, few, most),
        λ b u gb. (let z = ap (λ (v : Node S). v.replayed)
            (same_some x b (slice_get w.nodes (line_at i x).backup)
            (subst (λ j. slice_get w.nodes j ≡ Some x) q.spot acts.there) u) in omega (arith, few, z)),
      )) tt (λ k. tt)
  keep w new i fetched (Hears n x m h r acts k) =
      let a = among-get w.messages m (Acknowledgement x.generation h r) k in
      hears_keep M C w i n x h r acts ((i.each x.generation).says.acks h r a).0
      (λ b u gb nb. (i.each x.generation).reads.told h r b a u gb nb)
  keep w new i fetched (ReplaysStep n x r e s o acts which g c h) =
      let l = line_at i x in
      replays M C w i n x (plainly_steps x s) r acts which refl refl refl refl refl (omega arith)
      (λ last p run f. replayed-step M l last x p run e s o g c h
      (count-does M laws (l.base ++ f.ms) x.machine s o
      (runs-append M M.boot l.mid x.machine l.base f.ms (i.each x.generation).sound.based f.runs) h) f)
  keep w new i fetched (ReplaysMark n x r e acts which g c h) =
      let l = line_at i x in
      replays M C w i n x (passes_mark x) r acts which refl refl refl refl refl (omega arith)
      (λ last p run f. replayed-mark M l last x p run e g c h f)
  keep w new i fetched (ReplaysInput n x r e v s acts which g c h k) =
      let l = line_at i x in
      replays M C w i n x (passes_input x s) r acts which refl refl refl refl refl (omega arith)
      (λ last p run f. replayed-input M l last x p run e v s g c h k
      (count-takes M laws (l.base ++ f.ms) x.machine s v
      (runs-append M M.boot l.mid x.machine l.base f.ms (i.each x.generation).sound.based f.runs) k) f)
  keep w new i fetched (change.Fetches n x r m d s k bytes acts which at brings) =
      replays M C w i n x (fetches x bytes) r acts which refl refl refl refl refl (omega arith)
      (λ last p run f. f)
  keep w new i fetched (change.ReplaysRead n x r d s k bytes t acts which at come h) =
      let l = line_at i x in
      let e = entry.Read (M.count x.machine) d s k in
      let backs_up : IsBackupRole r = elim which [
        | inl z ↦ subst IsBackupRole (sym z) tt
        | inr z ↦ subst IsBackupRole (sym z) tt
      ] in
      let q = acting_backup M C w i n x r acts backs_up in
      let g = backup_state-replayed M C l x r acts.role_is which q.is_backup.state in
      let a = fetched n x acts.there bytes come in
      let same = same_some (entry.Read (M.count x.machine) a.drive a.sector a.number) e
      (slice_get x.held x.replayed) a.at at in
      let v : input.Sector a.drive a.sector a.number bytes ≡ input.Sector d s k bytes = sector-alike _ _ _ _ _ _ _ bytes same in
      backup_keep M C w i n x (passes_read x t) r acts backs_up
      (λ z. q.real z) refl refl refl refl (omega arith) (inl (λ z. z))
      (λ state. backup_state-replays M C l x (passes_read x t) r acts.role_is which refl
      (replayed-taken M l (i.each x.generation).sound.recorded.0 x q.is_backup.held (i.each x.generation).sound.recorded.1
      e (input.Sector d s k bytes) t at h
      (count-takes M laws (l.base ++ g.ms) x.machine t (input.Sector d s k bytes)
      (runs-append M M.boot l.mid x.machine l.base g.ms (i.each x.generation).sound.based g.runs) h) g
      (took_here M C laws w i n x q g bytes a e (input.Sector d s k bytes) same v)) state)
  keep w new i fetched (PrimaryReleases n x name o acts h c) =
      let r = released M C laws w i n x name o acts h c in
      keep-message M C w i (Released o) n x acts.there (acts-no_spare w n x Primary acts (λ k. (cc))) (λ j d. tt) tt
      r (frees M C laws w i n x name o acts h c)
  keep w new i fetched (AloneReleases n x name o acts h) =
      let a = alone M C w i n x acts in
      let r = laws.given i.trace x.machine name o a.runs h in
      keep-message M C w i (Released o) n x acts.there (acts-no_spare w n x Alone acts (λ k. (cc))) (λ j d. tt) tt
      r (λ k t s b u gb role v z. absurd (alone_frees M C w i n x acts a.at_top k t s b u gb role))
  keep w new i fetched (Arrives m p k b h) =
      let v = i.global.sends (Byte p k b) (among-get w.messages m (Released (Byte p k b)) h) in
      keep-terminal M C w i p (record (terminal w p) {
        arrivals =
            (terminal w p).arrivals ++ record { number = k; byte = b } ∷ [];
      })
      (record {
        accepts = prefix-length _ _
            (accepted-longer 0 (terminal w p).arrivals (record { number = k; byte = b } ∷ []));
        types = prefix-refl (terminal w p).typed;
      })
      (λ a z. elim (among-split a (terminal w p).arrivals (record { number = k; byte = b } ∷ []) z) [
        | inl y ↦ i.global.arrived p a y
        | inr y ↦ elim y [
          | inl y ↦ subst (λ (u : Arrival). Among (Byte p u.number u.byte) (operations i.trace))
              (sym y) v
          | inr y ↦ absurd y
        ]
      ])
      (i.global.told p)
  keep w new i fetched (Tells n x p r acts which) =
      let d = i.global.told p in
      let c = told_any M C laws w i n x p r acts which in
      keep-terminal M C w i p (record (terminal w p) { told = max (terminal w p).told (keys_covered M x p x.role) })
      (record { accepts = omega arith; types = prefix-refl (terminal w p).typed }) (i.global.arrived p) (omega arith)
  keep w new i fetched (Stops n x h ns) = stops_keep M C w i n x h ns
  keep w new i fetched (Wins n x r acts nj ns none) = wins_keep M C w i n x r acts nj ns none
  keep w new i fetched (GoesLive n x acts h) =
      let q = acting_backup M C w i n x Draining acts tt in
      let l = line_at i x in
      backup_keep M C w i n x (goes_live x) Draining acts tt (λ k. (cc)) refl refl refl refl (omega arith)
      (inl (λ k. elim k [ inl z ↦ (cc) | inr z ↦ (cc) ]))
      (λ s. backup_state-live M C l x acts.role_is h q.is_backup.log s)
  keep w new i fetched (Begins n h x y acts there spare_is) =
      keep-begins M C copies w i n h x y acts there spare_is
  keep w new i fetched (SendsPart n x s k p acts im h) =
      let q = acting_primary M C w i n x acts in
      keep-message M C w i (ImagePart x.generation k p) n x acts.there (acts-no_spare w n x Primary acts (λ k. (cc)))
      (λ j d. d) (λ j. subst (λ z. slice_get (C.parts z) k ≡ Some p) (q.is_primary.image s im) h) tt (λ k. tt)
  keep w new i fetched (GetsPart n x m k p acts h) =
      let q = acting_backup M C w i n x Joining acts tt in
      let o = i.each x.generation in
      let l = o.line in
      backup_keep M C w i n x (gets_part x k p) Joining acts tt
      (acts-no_spare w n x Joining acts (λ z. (cc))) refl refl refl refl (omega arith) (inl (λ k. k))
      (λ s. backup_state-part M C l x k p acts.role_is
      (o.says.parts k p (among-get w.messages m (ImagePart x.generation k p) h)) s)
  keep w new i fetched (Joins n x ps s acts got made) =
      let q = acting_backup M C w i n x Joining acts tt in
      let l = line_at i x in
      backup_keep M C w i n x (joins x s) Joining acts tt (λ k. (cc)) refl refl refl refl (omega arith)
      (inr (joining-gathered M C l x acts.role_is q.is_backup.state).1.empty)
      (λ z. backup_state-joins M C laws copies l s x ps acts.role_is got made (i.each x.generation).sound.based
      (λ h. owns-front M [] M.boot l.base l.own ((i.each x.generation).owns h)) z)
  keep w new i fetched HostComes = keep-hosts M C w i
  keep w new i fetched (Puts m v h) =
      keep-puts M C w i v (i.global.sends (Write v) (among-get w.messages m (Released (Write v)) h))
      (among-get w.messages m (Released (Write v)) h)
  keep w new i fetched (ReadsSector q) =
      keep-reads M C w i q (sector_record M w.puts q).number (sector_record M w.puts q).bytes (record-is M C w i q)
