-- What is known of a node that has not lost: it is of the highest generation; and the disk still has the sector that it has
-- come to read.
use Rattle.std.proofs.Common.{◌++◌, ◌+◌, ◌∙◌, ◌≡◌, ◌≤◌, List, None, Option, Some, ap, arith, inl, inr, length, refl, subst, sym, take, ℕ}
use Rattle.std.specs.Prelude.{slice_get}
use Rattle.guest_lockstep.specs.declared.timed.Bare.TheVariants as kind
use Rattle.log_entry.specs.declared.entry.Entry.TheVariants as entry
use Rattle.pair_protocol.proofs.Words.{Acts, Copying, Draining, Input, IsPrefix, Lawful, Machine, Move, Node, Reach, Replaying, Role, Runs, Spare, World, cut, inputs, inputs_of, sector_record, steps, winner_in}
use Rattle.pair_protocol.specs.ReadsKept.{StillReplays}
use Rattle.pair_protocol.proofs.Invariant.Acting.{Acting, ActingBackup, BackupActs, BackupAtTop, BackupEarlier, IsBackupRole, PrimaryActs, PrimaryAtTop, PrimaryEarlier, acting, acting_backup, line_at}
use Rattle.pair_protocol.proofs.Invariant.{AsAlone, AsBackup, AsDraining, AsJoining, BackupState, BackupWon, HasReplayed, Inv, Line, LineOf, PrimaryWon, settled, winner_at}
use Rattle.pair_protocol.proofs.Invariant.Settled.{covers-below}
use Rattle.pair_protocol.proofs.Keeps.BackupChanges.{backup_state-replayed}
use Rattle.pair_protocol.proofs.Keeps.Replay.{NextInput, next-input}
use Rattle.pair_protocol.proofs.Promises.ReadsKept.{reads_are_kept}
use Rattle.pair_protocol.proofs.Traces.Lists.{prefix-trans, prefix-under}
use Rattle.pair_protocol.proofs.Traces.Moves.{inputs-append, inputs_of-entries, owns-prefix, runs-append, steps-append}

pub nobody_and_one : {X : Type 0} (o : Option ℕ) (k : ℕ) → o ≡ None → o ≡ Some k → X
nobody_and_one o k none some = absurd (let both : ◌≡◌ {A = Option ℕ} None (Some k) = sym none ∙ some in cc)

-- a node of an undecided generation is of the highest one
pub undecided_top : {S : Type 0} (M : Machine S) (C : Copying S) (w : World S) (i : Inv M C w) (n : ℕ) (x : Node S) →
    slice_get w.nodes n ≡ Some x → (x.role ≡ Spare → ⊥) → winner_in w.winners x.generation ≡ None → x.generation ≡ i.top
undecided_top {S} M C w i n x h real none = go (acting M C w i n x h real)
  where
    o : LineOf M C w i.top i.trace x.generation
    o = i.each x.generation

    no_primary : o.line.stage ≡ PrimaryWon → x.generation ≡ i.top
    no_primary e = nobody_and_one (winner_in w.winners x.generation) o.line.primary none
        (o.tied ∙ ap (λ z. winner_at z o.line.primary o.line.backup) e)

    no_backup : o.line.stage ≡ BackupWon → x.generation ≡ i.top
    no_backup e = nobody_and_one (winner_in w.winners x.generation) o.line.backup none
        (o.tied ∙ ap (λ z. winner_at z o.line.primary o.line.backup) e)

    go : Acting M C w i n x → x.generation ≡ i.top
    go (PrimaryActs q (PrimaryAtTop g s b)) = g
    go (PrimaryActs q (PrimaryEarlier g s b)) = no_backup s
    go (BackupActs q (BackupAtTop g s a)) = g
    go (BackupActs q (BackupEarlier g s a)) = no_primary s

-- and so is a node that drains
pub draining_top : {S : Type 0} (M : Machine S) (C : Copying S) (w : World S) (i : Inv M C w) (n : ℕ) (x : Node S) →
    slice_get w.nodes n ≡ Some x → x.role ≡ Draining → x.generation ≡ i.top
draining_top {S} M C w i n x h role = go (acting M C w i n x h (λ k. (cc)))
  where
    won : BackupState M C (line_at i x) x → (line_at i x).stage ≡ PrimaryWon → x.generation ≡ i.top
    won (AsJoining r k f) s = absurd (cc)
    won (AsBackup r k f) s = absurd (cc)
    won (AsDraining r k m f) s = absurd (cc)
    won (AsAlone r k made) s = absurd (cc)

    go : Acting M C w i n x → x.generation ≡ i.top
    go (PrimaryActs q p) = absurd (elim q.is_primary.role [ inl r ↦ (cc) | inr r ↦ (let k = r.0 in (cc)) ])
    go (BackupActs q (BackupAtTop g s a)) = g
    go (BackupActs q (BackupEarlier g s a)) = won q.is_backup.state s

-- the sector that a node has come to read is on the disk as its primary read it
pub record_kept : {S : Type 0} (M : Machine S) (C : Copying S) (laws : Lawful M) (w : World S) (i : Inv M C w) (n : ℕ)
    (x : Node S) (r : Role) → Acts w n x r → Replaying r → StillReplays w n x → (drive sector number : ℕ) →
    slice_get x.held x.replayed ≡ Some (entry.Read (M.count x.machine) drive sector number) →
    (sector_record M w.puts (M.address x.machine drive sector)).number ≡ number
record_kept {S} M C laws w i n x r acts which still drive sector number at =
    (reads_are_kept M C laws w i).kept n x still x.replayed (M.count x.machine) drive sector number
    (let le : x.replayed ≤ x.replayed = omega arith in le) at moves reach
  where
    backs_up : IsBackupRole r
    backs_up = elim which [
      | inl z ↦ subst IsBackupRole (sym z) tt
      | inr z ↦ subst IsBackupRole (sym z) tt
    ]

    q : ActingBackup M C w i n x
    q = acting_backup M C w i n x r acts backs_up

    o : LineOf M C w i.top i.trace x.generation
    o = i.each x.generation

    l : Line S
    l = o.line

    f : HasReplayed M l x
    f = backup_state-replayed M C l x r acts.role_is which q.is_backup.state

    next : (j : Input) × NextInput M l o.sound.recorded.0 x q.is_backup.held o.sound.recorded.1 f
        (entry.Read (M.count x.machine) drive sector number) j
    next = next-input M l o.sound.recorded.0 x q.is_backup.held o.sound.recorded.1
        (entry.Read (M.count x.machine) drive sector number) (kind.Sector drive sector) at refl refl f

    moves : List Move
    moves = l.base ++ f.ms

    runs : Runs M M.boot moves x.machine
    runs = runs-append M M.boot l.mid x.machine l.base f.ms o.sound.based f.runs

    front : IsPrefix moves i.trace
    front =
        prefix-trans moves (l.base ++ cut (length x.held) l.own) i.trace
        (prefix-under l.base f.ms (cut (length x.held) l.own) f.within)
        (prefix-trans (l.base ++ cut (length x.held) l.own) (settled l) i.trace
        (covers-below l.stage l.base l.own l.more (length x.held) (length l.held)
        (let z = ap length q.held in omega (arith, z))) o.below)

    list_is : inputs 0 moves ≡ x.copy ++ inputs_of (take x.replayed x.held)
    list_is =
        inputs-append 0 l.base f.ms
        ∙ ap (λ c. inputs 0 l.base ++ inputs c f.ms) (let z : 0 + steps l.base ≡ steps l.base = omega arith in z)
        ∙ ap (λ ts. inputs 0 l.base ++ ts) (sym (inputs_of-entries l.reads (steps l.base) f.ms))
        ∙ ap (λ es. inputs 0 l.base ++ inputs_of es) next.1.at_place
        ∙ ap (λ ts. ts ++ inputs_of (take x.replayed x.held)) (sym q.is_backup.copy)

    reach : Reach M (x.copy ++ inputs_of (take x.replayed x.held)) (M.count x.machine) moves
    reach = record {
      last = x.machine;
      runs = runs;
      owns = owns-prefix M M.boot moves i.trace front i.global.owns;
      list_is = list_is;
      count_is = steps-append l.base f.ms ∙ sym f.count;
    }
