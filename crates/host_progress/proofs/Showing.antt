-- Which host shows a node of the world, and that nobody has won while both nodes of a generation are what they were.
use Rattle.std.proofs.Common.{◌≡◌, ℕ, ◌⊎◌, inl, inr, true, false, Option, Some, None, refl, sym, ap, ◌∙◌, arith}
use Rattle.std.specs.Prelude.{slice_get}
use Rattle.pair_protocol.proofs.Words.{Acts, Alone, Backup, Copying, IsCopying, Joining, Lawful, Machine, Node, Primary, Reached, Role, Spare, World, winner_in}
use Rattle.pair_protocol.proofs.Invariant.{BackupWon, Inv, PrimaryWon, Stage, Undecided, winner_at}
use Rattle.pair_protocol.proofs.Invariant.Acting.{IsBackupRole, acting_backup, acting_primary}
use Rattle.pair_protocol.proofs.Promises.Faithful.{reached}
use Rattle.pair_protocol.proofs.Traces.Lists.{same_some}
use Rattle.host_law.proofs.Following.{host-shown}
use Rattle.host_law.proofs.Winners.{has_won, reached-past}
use Rattle.host_law.proofs.Words.{Fleet, Shows}

-- the host of a node that does not join has that node
pub host_there : {S : Type 0} (M : Machine S) (C : Copying S) (f : Fleet S) (w : World S) → Shows M C f w → (n : ℕ)
    (z : Node S) → slice_get w.nodes n ≡ Some z → (z.role ≡ Joining → ⊥) → slice_get f.hosts n ≡ Some z
host_there M C f w h n z there real =
    let r = host-shown (slice_get f.hosts n) (slice_get w.nodes n) z there (h.nodes n) in
    elim r.2 [ inl e ↦ r.1 ∙ ap Some e | inr p ↦ absurd (real p.1) ]

-- what a node is not
pub alone_joins : {S : Type 0} (x : Node S) → x.role ≡ Alone → x.role ≡ Joining → ⊥
alone_joins x is e = let k = sym is ∙ e in (cc)

pub alone_real : {S : Type 0} (x : Node S) → x.role ≡ Alone → x.role ≡ Spare → ⊥
alone_real x is e = let k = sym is ∙ e in (cc)

pub primary_joins : {S : Type 0} (x : Node S) → x.role ≡ Primary → x.role ≡ Joining → ⊥
primary_joins x is e = let k = sym is ∙ e in (cc)

pub primary_real : {S : Type 0} (x : Node S) → x.role ≡ Primary → x.role ≡ Spare → ⊥
primary_real x is e = let k = sym is ∙ e in (cc)

pub backup_joins : {S : Type 0} (x : Node S) → x.role ≡ Backup → x.role ≡ Joining → ⊥
backup_joins x is e = let k = sym is ∙ e in (cc)

pub backup_real : {S : Type 0} (x : Node S) → x.role ≡ Backup → x.role ≡ Spare → ⊥
backup_real x is e = let k = sym is ∙ e in (cc)

pub joining_real : {S : Type 0} (x : Node S) → x.role ≡ Joining → x.role ≡ Spare → ⊥
joining_real x is e = let k = sym is ∙ e in (cc)

-- whoever is named is the primary or the backup
who_won : (s : Stage) (primary backup k : ℕ) → winner_at s primary backup ≡ Some k → (k ≡ primary) ⊎ (k ≡ backup)
who_won Undecided primary backup k e = absurd (cc)
who_won PrimaryWon primary backup k e = inl (cc)
who_won BackupWon primary backup k e = inr (cc)

module _ {S : Type 0} (M : Machine S) (C : Copying S) (laws : Lawful M) (copies : IsCopying M C) (w : World S)
    (r : Reached M C w) (n m generation : ℕ) (x y : Node S) where
  -- a node that has not won its generation
  not_past : (k : ℕ) (z : Node S) → slice_get w.nodes k ≡ Some z → z.generation ≡ generation → has_won z.role ≡ false →
      winner_in w.winners generation ≡ Some k → ⊥
  not_past k z there g role won =
      let p = reached-past M C w r generation k won in
      let same : p.x ≡ z = same_some p.x z (slice_get w.nodes k) p.there there in
      let e = ap (λ (v : Node S). v.generation) same in
      elim p.is.past [
        | inl less ↦ omega (arith, less, e, g)
        | inr has ↦ (let b : true ≡ false = sym has.1 ∙ ap (λ (v : Node S). has_won v.role) same ∙ role in (cc))
      ]

  pub nobody_won : (role : Role) → Acts w n x Primary → Acts w m y role → IsBackupRole role → has_won role ≡ false →
      x.generation ≡ generation → y.generation ≡ generation → winner_in w.winners generation ≡ None
  nobody_won role primary backup is not gx gy = go (winner_in w.winners generation) refl
    where
      i : Inv M C w
      i = reached M C laws copies w r

      at_x : n ≡ (i.each generation).line.primary
      at_x = (acting_primary M C w i n x primary).spot ∙ ap (λ g. (i.each g).line.primary) gx

      at_y : m ≡ (i.each generation).line.backup
      at_y = (acting_backup M C w i m y role backup is).spot ∙ ap (λ g. (i.each g).line.backup) gy

      go : (o : Option ℕ) → winner_in w.winners generation ≡ o → winner_in w.winners generation ≡ None
      go None e = e
      go (Some k) e =
          let l = i.each generation in
          absurd
          (elim (who_won l.line.stage l.line.primary l.line.backup k (sym l.tied ∙ e)) [
            | inl a ↦ not_past n x primary.there gx (ap has_won primary.role_is) (e ∙ ap Some (a ∙ sym at_x))
            | inr b ↦ not_past m y backup.there gy (ap has_won backup.role_is ∙ not) (e ∙ ap Some (b ∙ sym at_y))
          ])
