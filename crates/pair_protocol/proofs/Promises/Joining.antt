-- A joining node is the backup of its generation, and the parts of that generation are those of its first machine. The
-- moves to that machine begin the settled moves, so each sector that it took had its own disk's bytes.
use Rattle.std.proofs.Common.{[], ◌++◌, ◌∙◌, ◌≡◌, List, Some, ap, length, inl, inr, ℕ}
use Rattle.std.specs.Prelude.{slice_get}
use Rattle.pair_protocol.proofs.Words.{Among, Copying, ImagePart, IsPrefix, Move, IsCopying, Joining, Lawful, Machine, Makes, Node, Reached, World, cut}
use Rattle.pair_protocol.specs.Joining.{IsGiven, IsPartOf}
use Rattle.pair_protocol.proofs.Invariant.Acting.{Acting, BackupActs, PrimaryActs, acting}
use Rattle.pair_protocol.proofs.Invariant.{AsAlone, AsBackup, AsDraining, AsJoining, BackupState, BackupWon, Inv, Line, LineOf, PrimaryWon, Stage, Undecided, settled_moves}
use Rattle.pair_protocol.proofs.Keeps.BackupChanges.{gathered_is}
use Rattle.pair_protocol.proofs.Promises.Faithful.{reached}
use Rattle.pair_protocol.proofs.Traces.Moves.{owns-front, owns-prefix}
use Rattle.pair_protocol.proofs.Traces.Lists.{prefix-append, prefix-trans}

given : {S : Type 0} (M : Machine S) (C : Copying S) (makes : Makes M C) (w : World S) (i : Inv M C w) (n : ℕ)
    (x : Node S) → slice_get w.nodes n ≡ Some x → x.role ≡ Joining → IsGiven M C w x
given {S} M C makes w i n x there role = go (acting M C w i n x there (λ k. (cc)))
  where
    o : LineOf M C w i.top i.trace x.generation
    o = i.each x.generation

    l : Line S
    l = o.line

    from : BackupState M C l x → IsGiven M C w x
    from (AsBackup r s f) = (cc)
    from (AsDraining r s m f) = (cc)
    from (AsAlone r s made) = (cc)
    from (AsJoining r s g) =
        let owns = owns-front M [] M.boot l.base l.own (o.owns s) in
        record {
          machine = l.mid;
          moves = l.base;
          reached = o.sound.based;
          owns = owns;
          sent = o.says.parts;
          all = λ parts got. ap C.assemble (gathered_is x.parts (C.parts l.mid) parts g.long g.each got)
              ∙ makes l.base l.mid o.sound.based owns;
        }

    go : Acting M C w i n x → IsGiven M C w x
    go (PrimaryActs q p) = absurd (elim q.is_primary.role [ inl r ↦ (cc) | inr r ↦ (let k = r.0 in (cc)) ])
    go (BackupActs q p) = from q.is_backup.state

pub joining_is_given : {S : Type 0} (M : Machine S) (C : Copying S) → Lawful M → IsCopying M C → Makes M C →
    (w : World S) → Reached M C w → (n : ℕ) (x : Node S) → slice_get w.nodes n ≡ Some x → x.role ≡ Joining →
    IsGiven M C w x
joining_is_given M C laws copies makes w r n x there role =
    given M C makes w (reached M C laws copies w r) n x there role

-- the settled moves of a generation begin with its base
base_first : (stage : Stage) (base own more : List Move) (n : ℕ) → IsPrefix base (settled_moves stage base own more n)
base_first Undecided base own more n = prefix-append base (cut n own)
base_first PrimaryWon base own more n = prefix-append base own
base_first BackupWon base own more n = prefix-append base (cut n own ++ more)

part_of : {S : Type 0} (M : Machine S) (C : Copying S) (w : World S) (i : Inv M C w) (generation index : ℕ)
    (part : List ℕ) → Among (ImagePart generation index part) w.messages → IsPartOf M C index part
part_of M C w i generation index part sent =
    let o = i.each generation in
    let l = o.line in
    record {
      machine = l.mid;
      moves = l.base;
      reached = o.sound.based;
      owns = owns-prefix M M.boot l.base i.trace
          (prefix-trans l.base (settled_moves l.stage l.base l.own l.more (length l.held)) i.trace
          (base_first l.stage l.base l.own l.more (length l.held)) o.below) i.global.owns;
      is_part = o.says.parts index part sent;
    }

pub parts_are_of_machines : {S : Type 0} (M : Machine S) (C : Copying S) → Lawful M → IsCopying M C →
    (w : World S) → Reached M C w → (generation index : ℕ) (part : List ℕ) →
    Among (ImagePart generation index part) w.messages → IsPartOf M C index part
parts_are_of_machines M C laws copies w r generation index part sent =
    part_of M C w (reached M C laws copies w r) generation index part sent
