-- Test-and-set: the first node of a generation to ask has won, and what is settled is extended by what that node has.
use Rattle.std.proofs.Common.{[], ◌++◌, ◌∙◌, ◌∷◌, ◌≡◌, ◌⊎◌, Bool, List, None, Option, Some, ap, append-nil, arith, cond, eq-eqb, eqb-true, false, inl, inr, length, refl, subst, sym, true, ℕ}
use Rattle.std.specs.Prelude.{◌==◌}
use Rattle.pair_protocol.proofs.Words.{Alone, Copying, IsPrefix, Joining, Machine, Move, Node, Owns, Primary, Winner, World, cut, winner_in, wins, with_winner, won_role}
use Rattle.pair_protocol.proofs.Invariant.Acting.{ActingBackup, ActingPrimary, BackupAtTop, BackupEarlier, BackupPlace, PrimaryAtTop, PrimaryEarlier, PrimaryPlace}
use Rattle.pair_protocol.proofs.Invariant.Frames.{global-grows, relined, with_backup, with_change, with_own}
use Rattle.pair_protocol.proofs.Invariant.Settled.{settled-held}
use Rattle.pair_protocol.proofs.Invariant.{AsAlone, AsBackup, AsDraining, AsJoining, AtTop, BackupHere, BackupState, BackupWon, Inv, IsPrimary, Line, LineOf, Next, PrimaryWon, Stage, Undecided, settled, settled_moves, winner_at}
use Rattle.pair_protocol.proofs.Keeps.Backup.{backup-later, backup-line, backup_acts, primary_stays}
use Rattle.pair_protocol.proofs.Keeps.Primary.{backup_stays, primary-line, primary_acts}
use Rattle.pair_protocol.proofs.Traces.Lists.{prefix-refl, prefix-same}

-- The contest.

abbrev or_else : Option ℕ → Option ℕ → Option ℕ
or_else None other = other
or_else (Some n) other = Some n

-- the winner in a longer list is the one in its front, if any
pub winner-append : (ws vs : List Winner) (g : ℕ) → winner_in (ws ++ vs) g ≡ or_else (winner_in ws g) (winner_in vs g)
winner-append [] vs g = refl
winner-append (a ∷ ws) vs g = go (g == a.generation) (winner-append ws vs g)
  where
    go : (b : Bool) → winner_in (ws ++ vs) g ≡ or_else (winner_in ws g) (winner_in vs g) →
        cond b (Some a.node) (winner_in (ws ++ vs) g) ≡ or_else (cond b (Some a.node) (winner_in ws g)) (winner_in vs g)
    go true h = refl
    go false h = h

pub winner-push : (ws : List Winner) (g n : ℕ) → winner_in ws g ≡ None →
    winner_in (ws ++ record { generation = g; node = n } ∷ []) g ≡ Some n
winner-push ws g n h = winner-append ws _ g ∙ ap (λ o. or_else o (cond (g == g) (Some n) None)) h
    ∙ ap (λ b. cond b (Some n) None) (eq-eqb g g refl)

pub winner-other : (ws : List Winner) (g n k : ℕ) → (k ≡ g → ⊥) →
    winner_in (ws ++ record { generation = g; node = n } ∷ []) k ≡ winner_in ws k
winner-other ws g n k h = winner-append ws _ k ∙ go (k == g) (winner_in ws k) (λ t. h (eqb-true k g t))
  where
    go : (b : Bool) (o : Option ℕ) → (b ≡ true → ⊥) → or_else o (cond b (Some n) None) ≡ o
    go true o never = absurd (never refl)
    go false None never = refl
    go false (Some m) never = refl

-- a winner stays
pub winner-longer : (ws vs : List Winner) (g n : ℕ) → winner_in ws g ≡ Some n → winner_in (ws ++ vs) g ≡ Some n
winner-longer ws vs g n h = winner-append ws vs g ∙ ap (λ o. or_else o (winner_in vs g)) h

pub undecided : (stage : Stage) (a b : ℕ) → winner_at stage a b ≡ None → stage ≡ Undecided
undecided Undecided a b h = refl
undecided stage a b h = (cc)

pub not_both : (stage : Stage) → stage ≡ Undecided → (stage ≡ BackupWon) ⊎ (stage ≡ PrimaryWon) → ⊥
not_both stage h (inl k) = (cc)
not_both stage h (inr k) = (cc)

module _ {S : Type 0} (M : Machine S) (C : Copying S) (w : World S) (i : Inv M C w) (n : ℕ) (x : Node S)
    (none : winner_in w.winners x.generation ≡ None) where
  abbrev o : LineOf M C w i.top i.trace x.generation
  o = i.each x.generation

  abbrev l : Line S
  l = o.line

  abbrev y : Node S
  y = wins x

  abbrev ws : List Winner
  ws = w.winners ++ record { generation = x.generation; node = n } ∷ []

  stage_is : l.stage ≡ Undecided
  stage_is = undecided l.stage l.primary l.backup (sym o.tied ∙ none)

  -- until now nobody had won
  not_won : (l.stage ≡ BackupWon) ⊎ (l.stage ≡ PrimaryWon) → ⊥
  not_won = not_both l.stage stage_is

  -- its backup is as it was
  backup_state-lost : (b : Node S) → BackupState M C l b → BackupState M C (with_own l l.own PrimaryWon) b
  backup_state-lost b (AsJoining r s f) = AsJoining r (λ k. (cc)) f
  backup_state-lost b (AsBackup r s f) = AsBackup r (λ k. (cc)) f
  backup_state-lost b (AsDraining r s m f) = absurd (not_won (inl s))
  backup_state-lost b (AsAlone r s made) = absurd (not_won (inl s))

  pub primary-wins : ActingPrimary M C w i n x → Next M C i.trace (with_winner w n x)
  unfolding primary-line
  primary-wins q = by_role q.is_primary.role q.place
    where
      new : List Move
      new = l.base ++ l.own

      grows : settled l ≡ i.trace → IsPrefix i.trace new
      grows s = subst (λ z. IsPrefix z new) s (settled-held l.stage l.base l.own l.more (length l.held) (length l.held)
          (omega arith) (λ k. not_won (inl k))).1

      owns : Owns M [] M.boot new
      owns = o.owns (λ k. not_won (inl k))

      alone : x.role ≡ Primary → won_role x.role ≡ Alone
      alone r = ap won_role r

      line : x.role ≡ Primary → x.generation ≡ i.top → BackupHere M C w.nodes x.generation l →
          LineOf M C (with_change w n y ws) i.top new x.generation
      line r g b = primary-line M C w i n x q new y l.own PrimaryWon ws
          (AtTop g refl
          (primary_acts M C w i n x q y (with_own l l.own PrimaryWon) refl refl (record {
            role = inr (alone r, refl);
            reads = q.is_primary.reads;
            made = q.is_primary.made;
            copy = q.is_primary.copy;
            covered = q.is_primary.covered;
            image = q.is_primary.image;
            logged = λ k. (let z = sym (alone r) ∙ k in (cc));
          }))
          (backup_stays M C w i n x q y l.own PrimaryWon b
          (record { state = backup_state-lost b.b b.is_backup.state; log = b.is_backup.log })))
          (winner-push w.winners x.generation n none ∙ ap Some q.spot) o.sound.recorded (prefix-refl l.own) o.came
          (λ z. owns) (prefix-refl new)
          (λ b u gb role ns. absurd (let k : won_role x.role ≡ Primary = role in let z = sym (alone r) ∙ k in (cc)))
          (λ z. absurd (z refl))

      by_role : (x.role ≡ Primary) ⊎ ((x.role ≡ Alone) × (l.stage ≡ PrimaryWon)) →
          PrimaryPlace M C w.nodes i.top i.trace x.generation l → Next M C i.trace (with_winner w n x)
      by_role (inr r) place = absurd (not_won (inr r.1))
      by_role (inl r) (PrimaryEarlier g s b) = absurd (not_won (inl s))
      by_role (inl r) (PrimaryAtTop g s b) =
          relined M C w i n x y ws new q.there (λ k. (let z = alone r in (cc))) refl
          (λ k d. winner-other w.winners x.generation n k d) (grows s) (inr g) (line r g b)
          (λ lt. absurd (omega (arith, lt, g))) refl
          (global-grows M w.messages w.terminals w.puts i.trace new (grows s) o.came owns i.global)

  primary-lost : (a : Node S) → IsPrimary M l a → IsPrimary M (with_backup l [] BackupWon l.held) a
  primary-lost a p = record {
    role = elim p.role [ inl k ↦ inl k | inr k ↦ absurd (not_won (inr k.1)) ];
    reads = p.reads;
    made = p.made;
    copy = p.copy;
    covered = p.covered;
    image = p.image;
    logged = p.logged;
  }

  pub backup-wins : ActingBackup M C w i n x → (x.role ≡ Joining → ⊥) → Next M C i.trace (with_winner w n x)
  unfolding backup-line
  backup-wins q not_joining = by_state q.is_backup.state q.place
    where
      same_moves : settled l ≡ l.base ++ (cut (length l.held) l.own ++ [])
      same_moves = ap (λ z. settled_moves z l.base l.own l.more (length l.held)) stage_is
          ∙ ap (λ zs. l.base ++ zs) (sym (append-nil (cut (length l.held) l.own)))

      by_state : BackupState M C l x → BackupPlace M w.nodes i.top i.trace x.generation l →
          Next M C i.trace (with_winner w n x)
      by_state (AsJoining r s f) place = absurd (not_joining r)
      by_state (AsDraining r s m f) place = absurd (not_won (inl s))
      by_state (AsAlone r s made) place = absurd (not_won (inl s))
      by_state (AsBackup r s f) (BackupEarlier g t a) = absurd (not_won (inr t))
      by_state (AsBackup r s f) (BackupAtTop g t a) =
          relined M C w i n x y ws i.trace q.there (λ k. (let t = ap won_role r in (cc))) refl
          (λ k d. winner-other w.winners x.generation n k d) (prefix-refl i.trace) (inl refl)
          (backup-line M C w i n x q i.trace y [] BackupWon l.held ws
          (AtTop g (sym same_moves ∙ t)
          (primary_stays M C w i n x q y [] BackupWon l.held a (primary-lost a.a a.is_primary))
          (backup_acts M C w i n x q y (with_backup l [] BackupWon l.held) refl refl q.held
          (record { state = AsDraining (ap won_role r) refl refl f; log = q.is_backup.log })))
          (winner-push w.winners x.generation n none
          ∙ ap Some q.spot) (omega arith) o.sound.held (λ h. absurd (h refl)) (prefix-same _ _ (sym same_moves ∙ t))
          (backup-later M C w i n x q y BackupWon (omega arith) refl (inl (λ k. inl r)) (λ z k. not_won (inr k)))
          (λ z k. not_won (inr k)))
          (λ lt. absurd (omega (arith, lt, g))) refl i.global
