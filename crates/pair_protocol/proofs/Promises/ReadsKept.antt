-- If no write after a read has arrived, the disk still has what was read. And none has arrived after a read that is
-- held and not replayed, since each write was released, and waited for that read.
use Rattle.std.proofs.Common.{[], ◌++◌, ◌+◌, ◌∙◌, ◌∷◌, ◌≡◌, ◌≤◌, ◌⊎◌, List, None, Some, ap, arith, inl, inr, length, refl, subst, suc, sym, take, true, zero, ℕ}
use Rattle.std.proofs.lemmas.List.{take-append-le}
use Rattle.std.proofs.lemmas.Option.{slice_get_within}
use Rattle.std.specs.Prelude.{slice_get}
use Rattle.pair_protocol.proofs.Words.{Among, Backup, Copying, Do, Draining, IsPrefix, IsUnwritten, IsWritten, Lawful, Machine, Mark, Move, Node, Reach, Recorded, Replaying, Runs, SectorAddress, SectorRecord, SectorWrite, Take, Timed, World, Write, address_of, count_of, cut, entries, entry_of, inputs, inputs_of, operations, refusal_of, sector_record, steps, winner_in, Reads}
use Rattle.guest_lockstep.specs.Recorded.{Accepts}
use Rattle.guest_lockstep.specs.declared.input.Input.TheVariants.{Sector}
use Rattle.log_entry.specs.declared.entry.Entry.TheVariants as entry
use Rattle.pair_protocol.specs.ReadsKept.{ReadsKept, StillReplays}
use Rattle.pair_protocol.proofs.Invariant.Acting.{Acting, BackupActs, PrimaryActs, acting}
use Rattle.pair_protocol.proofs.Invariant.Settled.{covers-below}
use Rattle.pair_protocol.proofs.Invariant.{ArePut, AsAlone, AsBackup, AsDraining, AsJoining, BackupState, Inv, Line, LineOf, PrimaryWon, settled, winner_at}
use Rattle.pair_protocol.proofs.Keeps.Disk.{AsBefore, LatestIs, OfPut, latest_all, latest_is}
use Rattle.pair_protocol.proofs.Keeps.PrimaryMoves.{sector-passed}
use Rattle.pair_protocol.proofs.Keeps.Reads.{read_move}
use Rattle.pair_protocol.proofs.Promises.Settling.{highest_is}
use Rattle.pair_protocol.proofs.Traces.Lists.{get-prefix, prefix-cons, prefix-trans, prefix-under, same_some}
use Rattle.pair_protocol.proofs.Traces.Moves.{count_entry, inputs-append, inputs_of-entries, operations-append, owns-prefix, put-prefix, runs-append, steps-append}
use Rattle.pair_protocol.proofs.Traces.OneTrace.{one_end, one_trace}
use Rattle.pair_protocol.proofs.Traces.Recorded.{recorded-prefix, recorded-rest, recorded-runs}

read_is_kept : {S : Type 0} (M : Machine S) → Lawful M → (base xs : List Move) (mid s : S)
    (puts : List SectorWrite) (drive sector number : ℕ) (bytes : List ℕ) → Runs M M.boot base mid →
    Recorded M mid xs s →
    refusal_of M s (Sector drive sector number bytes) ≡ None → ArePut puts (inputs 0 (base ++ xs)) →
    ((v : SectorWrite) → Among v puts → Among (Write v) (operations (base ++ xs))) →
    (sector_record M puts (M.address s drive sector)).number ≡ number
read_is_kept {S} M laws base xs mid s puts drive sector number bytes based run ok put before =
    go (latest_is start puts q) (laws.own_disk (base ++ xs) s q runs)
  where
    q : SectorAddress
    q = M.address s drive sector

    runs : Runs M M.boot (base ++ xs) s
    runs = runs-append M M.boot mid s base xs based (recorded-runs M mid s xs run)

    last : M.done s q ≡ number
    last = (sector-passed M s q number ok).1

    start : SectorRecord
    start = record { number = 0; bytes = M.boot_sector q }

    here : SectorRecord
    here = sector_record M puts q

    -- no write of the sector that arrived comes after the last completed one
    early : (v : SectorWrite) → Among v puts → address_of v ≡ q → v.number ≤ M.done s q
    early v m e = elim (laws.write_is (base ++ xs) s v runs (before v m)) [
      | inl l ↦ subst (λ z. v.number ≤ M.done s z) e l
      | inr p ↦ (let b : M.busy s q ≡ true = laws.busy (base ++ xs) s v drive sector runs p e in
          let c = (sector-passed M s q number ok).0 in absurd (cc))
    ]

    -- and the last completed one has arrived
    late : IsUnwritten M (base ++ xs) s q ⊎ IsWritten M (base ++ xs) s q → M.done s q ≤ here.number
    late (inl o) = (let n = o.none in omega (arith, n))
    late (inr o) =
        let p = put o.write.number o.completed in
        let same : p.0 ≡ o.write = laws.write_once (base ++ xs) s p.0 o.write runs (before p.0 p.1) o.issued p.2 in
        let g = latest_all start puts q p.0 p.1 (ap address_of same ∙ o.there) in
        let l = o.last in
        let n = p.2 in
        omega (arith, g, l, n)

    go : LatestIs start puts q here → IsUnwritten M (base ++ xs) s q ⊎ IsWritten M (base ++ xs) s q
        → here.number ≡ number
    go (AsBefore h) o =
        let zero_is : here.number ≡ 0 = ap (λ (z : SectorRecord). z.number) h in
        let l = late o in
        let d = last in
        omega (arith, zero_is, l, d)
    go (OfPut v m e h) o =
        let is : here.number ≡ v.number = ap (λ (z : SectorRecord). z.number) h in
        let f = early v m e in
        let l = late o in
        let d = last in
        omega (arith, is, f, l, d)

-- the moves before a read of a log, and the bytes that its primary took
record Before (reads : Reads) (c : ℕ) (own : List Move) (k count drive sector number : ℕ) : Type 0 where
  front : List Move
  rest : List Move
  bytes : List ℕ
  own_is : own ≡ front ++ Take (Sector drive sector number bytes) ∷ rest
  entries_are : entries reads c front ≡ take k (entries reads c own)
  count_is : count ≡ c + steps front
  operations_are : operations (cut k own) ≡ operations front
  within : IsPrefix front (cut (suc k) own)

before : (reads : Reads) (c : ℕ) (own : List Move) (k count drive sector number : ℕ)
    → slice_get (entries reads c own) k ≡ Some (entry.Read count drive sector number)
    → Before reads c own k count drive sector number
before reads c [] k count drive sector number h = (cc)
before reads c (Do None ∷ own) k count drive sector number h =
    let b = before reads (suc c) own k count drive sector number h in
    let n = b.count_is in
    record {
      front = Do None ∷ b.front;
      rest = b.rest;
      bytes = b.bytes;
      own_is = ap (λ zs. Do None ∷ zs) b.own_is;
      entries_are = b.entries_are;
      count_is = omega (arith, n);
      operations_are = quiet k b.front b.operations_are;
      within = prefix-cons (Do None) b.front (cut (suc k) own) b.within;
    }
  where
    quiet : (k : ℕ) (front : List Move) → operations (cut k own) ≡ operations front
        → operations (cut k (Do None ∷ own)) ≡ operations (Do None ∷ front)
    quiet zero front e = e
    quiet (suc k) front e = e
before reads c (Do (Some o) ∷ own) zero count drive sector number h = (cc)
before reads c (Do (Some o) ∷ own) (suc k) count drive sector number h =
    let b = before reads (suc c) own k count drive sector number h in
    let n = b.count_is in
    record {
      front = Do (Some o) ∷ b.front;
      rest = b.rest;
      bytes = b.bytes;
      own_is = ap (λ zs. Do (Some o) ∷ zs) b.own_is;
      entries_are = ap (λ es. Mark (suc c) ∷ es) b.entries_are;
      count_is = omega (arith, n);
      operations_are = ap (λ os. o ∷ os) b.operations_are;
      within = prefix-cons (Do (Some o)) b.front (cut (suc k) own) b.within;
    }
before reads c (Take i ∷ own) zero count drive sector number h =
    let is = same_some (entry_of reads c i) (entry.Read count drive sector number) (Some (entry_of reads c i)) refl h in
    let e = read_move reads c count drive sector number i is in
    let n = sym (count_entry reads c i) ∙ ap count_of is in
    record {
      front = [];
      rest = own;
      bytes = e.0;
      own_is = ap (λ j. Take j ∷ own) e.1;
      entries_are = refl;
      count_is = omega (arith, n);
      operations_are = refl;
      within = (cut (suc zero) (Take i ∷ own), refl);
    }
before reads c (Take i ∷ own) (suc k) count drive sector number h =
    let b = before reads c own k count drive sector number h in
    record {
      front = Take i ∷ b.front;
      rest = b.rest;
      bytes = b.bytes;
      own_is = ap (λ zs. Take i ∷ zs) b.own_is;
      entries_are = ap (λ es. entry_of reads c i ∷ es) b.entries_are;
      count_is = b.count_is;
      operations_are = b.operations_are;
      within = prefix-cons (Take i) b.front (cut (suc k) own) b.within;
    }

-- a trace leads to a read, and the disk's record of its sector has its number
record KeepsRead {S : Type 0} (M : Machine S) (w : World S) (list : List Timed) (count drive sector number : ℕ) : Type 0 where
  moves : List Move
  trace : Reach M list count moves
  kept : (sector_record M w.puts (M.address trace.last drive sector)).number ≡ number

reads_kept : {S : Type 0} (M : Machine S) (C : Copying S) (laws : Lawful M) (w : World S) (i : Inv M C w) (n : ℕ)
    (x : Node S) → StillReplays w n x → (k count drive sector number : ℕ) →
    x.replayed ≤ k → slice_get x.held k ≡ Some (entry.Read count drive sector number) →
    KeepsRead M w (x.copy ++ inputs_of (take k x.held)) count drive sector number
reads_kept {S} M C laws w i n x still k count drive sector number low got =
    go (acting M C w i n x still.there
    (λ z. by_role (λ q. (cc)) (λ q. (cc)) still.who))
  where
    by_role : {X : Type 0} → ((x.role ≡ Backup) → X) → ((x.role ≡ Draining) → X)
        → ((x.role ≡ Backup) × (winner_in w.winners x.generation ≡ None)) ⊎ (x.role ≡ Draining) → X
    by_role f g (inl h) = f h.0
    by_role f g (inr h) = g h

    o : LineOf M C w i.top i.trace x.generation
    o = i.each x.generation

    l : Line S
    l = o.line

    go : Acting M C w i n x → KeepsRead M w (x.copy ++ inputs_of (take k x.held)) count drive sector number
    go (PrimaryActs a p) = absurd (by_role
        (λ q. elim a.is_primary.role [ inl z ↦ (cc) | inr z ↦ (let y = z.0 in (cc)) ])
        (λ q. elim a.is_primary.role [ inl z ↦ (cc) | inr z ↦ (let y = z.0 in (cc)) ]) still.who)
    go (BackupActs a p) = record {
      moves = l.base ++ b.front;
      trace = trace;
      kept = read_is_kept M laws l.base b.front l.mid u.0 w.puts drive sector number b.bytes o.sound.based u.1
          accepts.1.allowed
          (put-prefix w.puts (l.base ++ b.front) (l.base ++ l.own) whole o.came.put) written;
    }
      where
        there : slice_get (entries l.reads (steps l.base) l.own) k ≡ Some (entry.Read count drive sector number)
        there = get-prefix x.held (entries l.reads (steps l.base) l.own) k _ a.is_backup.held got

        b : Before l.reads (steps l.base) l.own k count drive sector number
        b = before l.reads (steps l.base) l.own k count drive sector number there

        whole : IsPrefix (l.base ++ b.front) (l.base ++ l.own)
        whole = prefix-under l.base b.front l.own (Take (Sector drive sector number b.bytes) ∷ b.rest, sym b.own_is)

        u : (v : S) × Recorded M l.mid b.front v
        u = recorded-prefix M l.mid o.sound.recorded.0 b.front l.own
            (Take (Sector drive sector number b.bytes) ∷ b.rest, sym b.own_is)
            o.sound.recorded.1

        accepts : (v : S) × Accepts M u.0 (Sector drive sector number b.bytes) v × Recorded M v b.rest o.sound.recorded.0
        accepts = recorded-rest M l.mid u.0 o.sound.recorded.0 b.front
            (Take (Sector drive sector number b.bytes) ∷ b.rest)
            (recorded-runs M l.mid u.0 b.front u.1)
            (subst (λ zs. Recorded M l.mid zs o.sound.recorded.0) b.own_is o.sound.recorded.1)

        not_primary : l.stage ≡ PrimaryWon → ⊥
        not_primary = won still.who a.is_backup.state
          where
            won : ((x.role ≡ Backup) × (winner_in w.winners x.generation ≡ None)) ⊎ (x.role ≡ Draining)
                → BackupState M C l x → l.stage ≡ PrimaryWon → ⊥
            won (inl h) state z =
                let f : winner_in w.winners x.generation ≡ Some l.primary =
                o.tied ∙ ap (λ q. winner_at q l.primary l.backup) z in
                let y = h.1 in (cc)
            won (inr h) (AsDraining q y m f) z = (cc)
            won (inr h) (AsJoining q y f) z = (cc)
            won (inr h) (AsBackup q y f) z = (cc)
            won (inr h) (AsAlone q y made) z = (cc)

        repeats : Replaying x.role
        repeats = by_role (λ q. inl q) (λ q. inr q) still.who

        written : (v : SectorWrite) → Among v w.puts → Among (Write v) (operations (l.base ++ b.front))
        written v m =
            let z = o.reads.waits (still.highest_is ∙ highest_is M C w i) not_primary x
            (subst (λ j. slice_get w.nodes j ≡ Some x) a.spot still.there) refl repeats v
            (i.global.puts_are v m).1 k _ low got refl
            in
            subst (Among (Write v))
            (operations-append l.base (cut k l.own) ∙ ap (λ os. operations l.base ++ os) b.operations_are
            ∙ sym (operations-append l.base b.front)) z

        runs : Runs M M.boot (l.base ++ b.front) u.0
        runs = runs-append M M.boot l.mid u.0 l.base b.front o.sound.based (recorded-runs M l.mid u.0 b.front u.1)

        settled_so : IsPrefix (l.base ++ b.front) i.trace
        settled_so =
            let few = slice_get_within x.held k _ got in
            let same = ap length a.held in
            prefix-trans (l.base ++ b.front) (l.base ++ cut (suc k) l.own) i.trace
            (prefix-under l.base b.front (cut (suc k) l.own) b.within)
            (prefix-trans (l.base ++ cut (suc k) l.own) (settled l) i.trace
            (covers-below l.stage l.base l.own l.more (suc k) (length l.held) (omega (arith, few, same))) o.below)

        taken : take k x.held ≡ entries l.reads (steps l.base) b.front
        taken =
            let few = slice_get_within x.held k _ got in
            sym (take-append-le k x.held a.is_backup.held.0 (omega (arith, few))) ∙ ap (take k) a.is_backup.held.1
            ∙ sym b.entries_are

        list_is : inputs 0 (l.base ++ b.front) ≡ x.copy ++ inputs_of (take k x.held)
        list_is =
            inputs-append 0 l.base b.front
            ∙ ap (λ c. inputs 0 l.base ++ inputs c b.front) (let z : 0 + steps l.base ≡ steps l.base = omega arith in z)
            ∙ ap (λ ts. inputs 0 l.base ++ ts) (sym (inputs_of-entries l.reads (steps l.base) b.front))
            ∙ ap (λ es. inputs 0 l.base ++ inputs_of es) (sym taken)
            ∙ ap (λ ts. ts ++ inputs_of (take k x.held)) (sym a.is_backup.copy)

        trace : Reach M (x.copy ++ inputs_of (take k x.held)) count (l.base ++ b.front)
        trace = record {
          last = u.0;
          runs = runs;
          owns = owns-prefix M M.boot (l.base ++ b.front) i.trace settled_so i.global.owns;
          list_is = list_is;
          count_is = (let n = steps-append l.base b.front in let c = b.count_is in omega (arith, n, c));
        }

-- there is no other trace, so whatever trace leads to the read gives the track
whichever : {S : Type 0} (M : Machine S) (w : World S) (list : List Timed) (count drive sector number : ℕ)
    → KeepsRead M w list count drive sector number → (moves : List Move) (r : Reach M list count moves)
    → (sector_record M w.puts (M.address r.last drive sector)).number ≡ number
whichever M w list count drive sector number k moves r =
    let same = one_end M M.boot r.last k.trace.last k.moves
    (subst (λ zs. Runs M M.boot zs r.last) (one_trace M list count moves k.moves r k.trace) r.runs) k.trace.runs in
    subst (λ v. (sector_record M w.puts (M.address v drive sector)).number ≡ number) (sym same) k.kept

pub reads_are_kept : {S : Type 0} (M : Machine S) (C : Copying S) → Lawful M → (w : World S) → Inv M C w → ReadsKept M w
reads_are_kept M C laws w i = record {
  trace = λ n x still k count drive sector number low got.
      let r = reads_kept M C laws w i n x still k count drive sector number low got in (r.moves, r.trace);
  kept = λ n x still k count drive sector number low got.
      whichever M w (x.copy ++ inputs_of (take k x.held)) count drive sector number
      (reads_kept M C laws w i n x still k count drive sector number low got);
}
