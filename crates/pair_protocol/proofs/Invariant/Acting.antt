-- The node that acts, and its part in its generation: it is the primary there, or the backup.
use Rattle.std.proofs.Common.{◌<◌, ◌∙◌, ◌≡◌, ◌⊎◌, List, Some, ap, inl, inr, refl, subst, sym, ℕ}
use Rattle.std.specs.Prelude.{slice_get}
use Rattle.pair_protocol.proofs.Words.{Acts, Alone, Backup, Copying, Draining, Joining, Machine, Move, Node, Primary, Role, Spare, World}
use Rattle.pair_protocol.proofs.Invariant.{AsAlone, AsBackup, AsDraining, AsJoining, AtTop, BackupHere, BackupLeft, BackupState, BackupWon, Gone, Inv, IsBackup, IsPrimary, Line, LineOf, Presence, PrimaryHere, PrimaryLeft, PrimaryWon, Unused, settled}
use Rattle.pair_protocol.proofs.Traces.Lists.{same_some}

-- the line of a node's generation
abbrev pub line_at : {S : Type 0} {M : Machine S} {C : Copying S} {w : World S} → Inv M C w → Node S → Line S
line_at i x = (i.each x.generation).line

-- A primary that acts is of the highest generation, or of an earlier one that its backup has won and left.
pub data PrimaryPlace {S : Type 0} (M : Machine S) (C : Copying S) (nodes : List (Node S)) (top : ℕ) (T : List Move)
    (g : ℕ) (l : Line S) : Type 0 where
  PrimaryAtTop : g ≡ top → settled l ≡ T → BackupHere M C nodes g l → PrimaryPlace M C nodes top T g l
  PrimaryEarlier : g < top → l.stage ≡ BackupWon → Gone nodes g l.backup → PrimaryPlace M C nodes top T g l

-- A backup that acts is of the highest generation, or of an earlier one that its primary has won and left.
pub data BackupPlace {S : Type 0} (M : Machine S) (nodes : List (Node S)) (top : ℕ) (T : List Move) (g : ℕ)
    (l : Line S) : Type 0 where
  BackupAtTop : g ≡ top → settled l ≡ T → PrimaryHere M nodes g l → BackupPlace M nodes top T g l
  BackupEarlier : g < top → l.stage ≡ PrimaryWon → Gone nodes g l.primary → BackupPlace M nodes top T g l

module _ {S : Type 0} (M : Machine S) (C : Copying S) (w : World S) (i : Inv M C w) where
  pub record ActingPrimary (n : ℕ) (x : Node S) : Type 0 where
    pub there : slice_get w.nodes n ≡ Some x
    pub real : x.role ≡ Spare → ⊥
    pub spot : n ≡ (line_at i x).primary
    pub is_primary : IsPrimary M (line_at i x) x
    pub place : PrimaryPlace M C w.nodes i.top i.trace x.generation (line_at i x)

  pub record ActingBackup (n : ℕ) (x : Node S) : Type 0 where
    pub there : slice_get w.nodes n ≡ Some x
    pub real : x.role ≡ Spare → ⊥
    pub spot : n ≡ (line_at i x).backup
    pub held : x.held ≡ (line_at i x).held
    pub is_backup : IsBackup M C (line_at i x) x
    pub place : BackupPlace M w.nodes i.top i.trace x.generation (line_at i x)

  -- its place is beside it, so that a case over both is one case
  pub data Acting (n : ℕ) (x : Node S) : Type 0 where
    PrimaryActs : ActingPrimary n x → PrimaryPlace M C w.nodes i.top i.trace x.generation (line_at i x) → Acting n x
    BackupActs : ActingBackup n x → BackupPlace M w.nodes i.top i.trace x.generation (line_at i x) → Acting n x

  pub acting : (n : ℕ) (x : Node S) → slice_get w.nodes n ≡ Some x → (x.role ≡ Spare → ⊥) → Acting n x
  acting n x h ns = go (o.members n x h ns refl) o.presence
    where
      o : LineOf M C w i.top i.trace x.generation
      o = i.each x.generation

      at : (m : ℕ) → n ≡ m → slice_get w.nodes m ≡ Some x
      at m e = subst (λ j. slice_get w.nodes j ≡ Some x) e h

      as_primary : n ≡ o.line.primary → PrimaryHere M w.nodes x.generation o.line →
          PrimaryPlace M C w.nodes i.top i.trace x.generation o.line → Acting n x
      as_primary e l p =
          let same : l.a ≡ x = same_some l.a x (slice_get w.nodes o.line.primary) l.there (at o.line.primary e) in
          PrimaryActs (record {
            there = h;
            real = ns;
            spot = e;
            is_primary = subst (λ z. IsPrimary M o.line z) same l.is_primary;
            place = p;
          }) p

      as_backup : n ≡ o.line.backup → BackupHere M C w.nodes x.generation o.line →
          BackupPlace M w.nodes i.top i.trace x.generation o.line → Acting n x
      as_backup e l p =
          let same : l.b ≡ x = same_some l.b x (slice_get w.nodes o.line.backup) l.there (at o.line.backup e) in
          BackupActs (record {
            there = h;
            real = ns;
            spot = e;
            held = ap (λ z. z.held) (sym same) ∙ l.held;
            is_backup = subst (λ z. IsBackup M C o.line z) same l.is_backup;
            place = p;
          }) p

      go : (n ≡ o.line.primary) ⊎ (n ≡ o.line.backup) →
          Presence M C w.nodes w.messages w.winners i.top i.trace x.generation o.line → Acting n x
      go (inl e) (AtTop g s l b) = as_primary e l (PrimaryAtTop g s b)
      go (inl e) (PrimaryLeft g s l b) = absurd (l x (at o.line.primary e) ns refl)
      go (inl e) (BackupLeft g s b l) = as_primary e l (PrimaryEarlier g s b)
      go (inr e) (AtTop g s l b) = as_backup e b (BackupAtTop g s l)
      go (inr e) (PrimaryLeft g s l b) = as_backup e b (BackupEarlier g s l)
      go (inr e) (BackupLeft g s b l) = absurd (b x (at o.line.backup e) ns refl)
      go e (Unused g u) = absurd (u.nobody n x h ns refl)

pub acts-no_spare : {S : Type 0} (w : World S) (n : ℕ) (x : Node S) (r : Role) → Acts w n x r → (r ≡ Spare → ⊥) →
    x.role ≡ Spare → ⊥
acts-no_spare w n x r acts h k = h (sym acts.role_is ∙ k)

-- a backup, joining or draining node is the backup of its generation
abbrev pub IsBackupRole : Role → Type 0
IsBackupRole Primary = ⊥
IsBackupRole Alone = ⊥
IsBackupRole Spare = ⊥
IsBackupRole Backup = Unit {0}
IsBackupRole Joining = Unit {0}
IsBackupRole Draining = Unit {0}

backup-no_primary : {S : Type 0} (M : Machine S) (C : Copying S) (l : Line S) (b : Node S) → BackupState M C l b →
    b.role ≡ Primary → ⊥
backup-no_primary M C l b (AsJoining r s f) h = (cc)
backup-no_primary M C l b (AsBackup r s f) h = (cc)
backup-no_primary M C l b (AsDraining r s m f) h = (cc)
backup-no_primary M C l b (AsAlone r s made) h = (cc)

module _ {S : Type 0} (M : Machine S) (C : Copying S) (w : World S) (i : Inv M C w) (n : ℕ) (x : Node S) where
  pub acting_primary : Acts w n x Primary → ActingPrimary M C w i n x
  acting_primary acts = go (acting M C w i n x acts.there (acts-no_spare w n x Primary acts (λ k. (cc))))
    where
      go : Acting M C w i n x → ActingPrimary M C w i n x
      go (PrimaryActs q p) = q
      go (BackupActs q p) = absurd (backup-no_primary M C (line_at i x) x q.is_backup.state acts.role_is)

  pub acting_backup : (r : Role) → Acts w n x r → IsBackupRole r → ActingBackup M C w i n x
  acting_backup r acts role =
      go (acting M C w i n x acts.there (acts-no_spare w n x r acts (λ k. subst IsBackupRole k role)))
    where
      go : Acting M C w i n x → ActingBackup M C w i n x
      go (BackupActs q p) = q
      go (PrimaryActs q p) =
          let h = subst IsBackupRole (sym acts.role_is) role in
          absurd (elim q.is_primary.role [ inl r ↦ subst IsBackupRole r h | inr r ↦ subst IsBackupRole r.0 h ])
