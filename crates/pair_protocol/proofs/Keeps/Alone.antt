-- An alone node: whether it began as primary or as backup, its moves are the settled ones.
use Rattle.std.proofs.Common.{◌++◌, ◌∙◌, ◌≡◌, ◌⊎◌, ap, inl, inr, length, subst, sym, ℕ}
use Rattle.pair_protocol.proofs.Words.{Acts, Alone, Copying, Machine, Node, Primary, Runs, World, inputs, steps}
use Rattle.pair_protocol.proofs.Invariant.Acting.{Acting, ActingBackup, BackupActs, BackupAtTop, BackupEarlier, BackupPlace, PrimaryActs, PrimaryAtTop, PrimaryEarlier, PrimaryPlace, acting, acts-no_spare, line_at}
use Rattle.pair_protocol.proofs.Invariant.{AsAlone, AsBackup, AsDraining, AsJoining, BackupState, BackupWon, HasMade, Inv, Line, PrimaryWon, alone_moves, settled_moves}
use Rattle.pair_protocol.proofs.Keeps.Primary.{primary-runs}
use Rattle.pair_protocol.proofs.Traces.Moves.{runs-append, steps-append}

-- what an alone backup is
pub record BackupAlone {S : Type 0} (M : Machine S) (l : Line S) (x : Node S) : Type 0 where
  pub won : l.stage ≡ BackupWon
  pub made : HasMade M l.mid l.base (alone_moves l x.held) x.machine x.list
  pub open made use *

pub backup-alone : {S : Type 0} (M : Machine S) (C : Copying S) (l : Line S) (x : Node S) →
    BackupState M C l x → x.role ≡ Alone → BackupAlone M l x
backup-alone M C l x (AsAlone r s made) h = record { won = s; made = made }
backup-alone M C l x (AsJoining r s f) h = (cc)
backup-alone M C l x (AsBackup r s f) h = (cc)
backup-alone M C l x (AsDraining r s m f) h = (cc)

-- its moves are the settled ones
pub alone-trace : {S : Type 0} (M : Machine S) (C : Copying S) (w : World S) (i : Inv M C w) (n : ℕ) (x : Node S)
    (q : ActingBackup M C w i n x) → BackupAlone M (line_at i x) x →
    i.trace ≡ (line_at i x).base ++ alone_moves (line_at i x) x.held
alone-trace {S} M C w i n x q k = go q.place
  where
    l : Line S
    l = line_at i x

    go : BackupPlace M w.nodes i.top i.trace x.generation l → i.trace ≡ l.base ++ alone_moves l x.held
    go (BackupEarlier g s a) = let won = k.won in (cc)
    go (BackupAtTop g s a) = sym s ∙ ap (λ z. settled_moves z l.base l.own l.more (length l.held)) k.won
        ∙ ap (λ es. l.base ++ alone_moves l es) (sym q.held)

-- what an alone node is
pub record AloneAt {S : Type 0} (M : Machine S) (C : Copying S) (w : World S) (i : Inv M C w)
    (x : Node S) : Type 0 where
  pub at_top : x.generation ≡ i.top
  pub runs : Runs M M.boot i.trace x.machine
  pub list : x.list ≡ inputs 0 i.trace
  pub count : M.count x.machine ≡ steps i.trace

module _ {S : Type 0} (M : Machine S) (C : Copying S) (w : World S) (i : Inv M C w) (n : ℕ) (x : Node S) where
  abbrev l : Line S
  l = line_at i x

  pub alone_at : x.role ≡ Alone → Acting M C w i n x → AloneAt M C w i x
  alone_at role (PrimaryActs q place) = go q.is_primary.role place
    where
      go : (x.role ≡ Primary) ⊎ ((x.role ≡ Alone) × (l.stage ≡ PrimaryWon)) →
          PrimaryPlace M C w.nodes i.top i.trace x.generation l → AloneAt M C w i x
      go (inl r) p = (cc)
      go (inr r) (PrimaryEarlier g s b) = (let k = r.1 in (cc))
      go (inr r) (PrimaryAtTop g s b) =
          let t : l.base ++ l.own ≡ i.trace = ap (λ z. settled_moves z l.base l.own l.more (length l.held)) (sym r.1)
          ∙ s in
          record {
            at_top = g;
            runs = subst (λ zs. Runs M M.boot zs x.machine) t (primary-runs M C w i x q.is_primary);
            list = q.is_primary.list ∙ ap (inputs 0) t;
            count = q.is_primary.count ∙ sym (steps-append l.base l.own) ∙ ap steps t;
          }
  alone_at role (BackupActs q place) = go place
    where
      k : BackupAlone M l x
      k = backup-alone M C l x q.is_backup.state role

      go : BackupPlace M w.nodes i.top i.trace x.generation l → AloneAt M C w i x
      go (BackupEarlier g s a) = (let won = k.won in (cc))
      go (BackupAtTop g s a) =
          let t = sym (alone-trace M C w i n x q k) in
          record {
            at_top = g;
            runs = subst (λ zs. Runs M M.boot zs x.machine) t
                (runs-append M M.boot l.mid x.machine l.base (alone_moves l x.held)
                (i.each x.generation).sound.based k.runs);
            list = k.list ∙ ap (inputs 0) t;
            count = k.count ∙ sym (steps-append l.base (alone_moves l x.held)) ∙ ap steps t;
          }

  pub alone : Acts w n x Alone → AloneAt M C w i x
  alone acts = alone_at acts.role_is
      (acting M C w i n x acts.there (acts-no_spare w n x Alone acts (λ k. (cc))))
