-- The invariant gives every promise of a faithful world, and the growth of what is settled.
use Rattle.std.proofs.Common.{[], ◌++◌, ◌+◌, ◌∙◌, ◌∷◌, ◌≡◌, ◌≤◌, ◌⊎◌, List, Some, ap, arith, inl, inr, refl, subst, suc, sym, ℕ}
use Rattle.std.specs.Prelude.{slice_get}
use Rattle.pair_protocol.proofs.Words.{After, Alone, Among, AtBoot, Copying, Do, Faithful, IsCopying, IsImage, IsOutstanding, IsPrefix, IsUnwritten, IsWritten, Lawful, Machine, MayHave, Move, Node, Reached, Runs, SectorAddress, SectorRecord, SectorWrite, Settled, Take, Timed, World, Write, address_of, highest, image, inputs, operations, sector_record, steps}
use Rattle.pair_protocol.specs.Grows.{AllFrom, Extends}
use Rattle.pair_protocol.proofs.Invariant.Acting.{Acting, BackupActs, BackupAtTop, BackupEarlier, PrimaryActs, PrimaryAtTop, PrimaryEarlier, acting, line_at}
use Rattle.pair_protocol.proofs.Invariant.{BackupWon, Inv, PrimaryWon}
use Rattle.pair_protocol.proofs.Keeps.All.{keep}
use Rattle.pair_protocol.proofs.Keeps.Alone.{backup-alone}
use Rattle.pair_protocol.proofs.Keeps.Boot.{at_boot}
use Rattle.pair_protocol.proofs.Keeps.Fetched.{reached-fetched}
use Rattle.pair_protocol.proofs.Keeps.Disk.{AsBefore, LatestIs, OfPut, latest_all, latest_is}
use Rattle.pair_protocol.proofs.Promises.Outputs.{output_is, trace_runs}
use Rattle.pair_protocol.proofs.Promises.ReadsKept.{reads_are_kept}
use Rattle.pair_protocol.proofs.Promises.Settling.{highest_is, settled_is, settles_trace}
use Rattle.pair_protocol.proofs.Traces.Moves.{inputs-append, steps-append}

-- At most one node is alone.

pub data HasWon {S : Type 0} (M : Machine S) (C : Copying S) (w : World S) (i : Inv M C w) (n : ℕ) : Type 0 where
  WonAsPrimary : n ≡ (i.each i.top).line.primary → (i.each i.top).line.stage ≡ PrimaryWon → HasWon M C w i n
  WonAsBackup : n ≡ (i.each i.top).line.backup → (i.each i.top).line.stage ≡ BackupWon → HasWon M C w i n

pub won_at : {S : Type 0} (M : Machine S) (C : Copying S) (w : World S) (i : Inv M C w) (n g : ℕ) → g ≡ i.top →
    ((n ≡ (i.each g).line.primary) × ((i.each g).line.stage ≡ PrimaryWon))
    ⊎ ((n ≡ (i.each g).line.backup) × ((i.each g).line.stage ≡ BackupWon)) → HasWon M C w i n
won_at M C w i n g e h = elim (subst (λ k. ((n ≡ (i.each k).line.primary) × ((i.each k).line.stage ≡ PrimaryWon))
    ⊎ ((n ≡ (i.each k).line.backup) × ((i.each k).line.stage ≡ BackupWon))) e h) [
      | inl q ↦ WonAsPrimary q.0 q.1
      | inr q ↦ WonAsBackup q.0 q.1
    ]

pub alone_won : {S : Type 0} (M : Machine S) (C : Copying S) (w : World S) (i : Inv M C w) (n : ℕ) (x : Node S) →
    slice_get w.nodes n ≡ Some x → x.role ≡ Alone → HasWon M C w i n
alone_won {S} M C w i n x h role = go (acting M C w i n x h (λ k. (cc)))
  where
    go : Acting M C w i n x → HasWon M C w i n
    go (PrimaryActs q (PrimaryAtTop g s b)) =
        won_at M C w i n x.generation g (inl (q.spot, elim q.is_primary.role [ inl r ↦ absurd (cc) | inr r ↦ r.1 ]))
    go (PrimaryActs q (PrimaryEarlier g s b)) =
        absurd (elim q.is_primary.role [ inl r ↦ (cc) | inr r ↦ (let k = r.1 in (cc)) ])
    go (BackupActs q (BackupAtTop g s a)) =
        won_at M C w i n x.generation g (inr (q.spot, (backup-alone M C (line_at i x) x q.is_backup.state role).won))
    go (BackupActs q (BackupEarlier g s a)) =
        (let k = (backup-alone M C (line_at i x) x q.is_backup.state role).won in absurd (cc))

-- and it is of the highest generation
pub alone_highest : {S : Type 0} (M : Machine S) (C : Copying S) (w : World S) (i : Inv M C w) (n : ℕ) (x : Node S) →
    slice_get w.nodes n ≡ Some x → x.role ≡ Alone → x.generation ≡ i.top
alone_highest {S} M C w i n x h role = go (acting M C w i n x h (λ k. (cc)))
  where
    go : Acting M C w i n x → x.generation ≡ i.top
    go (PrimaryActs q (PrimaryAtTop g s b)) = g
    go (PrimaryActs q (PrimaryEarlier g s b)) =
        absurd (elim q.is_primary.role [ inl r ↦ (cc) | inr r ↦ (let k = r.1 in (cc)) ])
    go (BackupActs q (BackupAtTop g s a)) = g
    go (BackupActs q (BackupEarlier g s a)) =
        (let k = (backup-alone M C (line_at i x) x q.is_backup.state role).won in absurd (cc))

pub live_once : {S : Type 0} (M : Machine S) (C : Copying S) (w : World S) (i : Inv M C w) (n m : ℕ) (x y : Node S) →
    slice_get w.nodes n ≡ Some x → slice_get w.nodes m ≡ Some y → x.role ≡ Alone → y.role ≡ Alone → n ≡ m
live_once {S} M C w i n m x y h k a b = go (alone_won M C w i n x h a) (alone_won M C w i m y k b)
  where
    go : HasWon M C w i n → HasWon M C w i m → n ≡ m
    go (WonAsPrimary e s) (WonAsPrimary f t) = e ∙ sym f
    go (WonAsPrimary e s) (WonAsBackup f t) = (cc)
    go (WonAsBackup e s) (WonAsPrimary f t) = (cc)
    go (WonAsBackup e s) (WonAsBackup f t) = e ∙ sym f

-- every sector has the machine's own bytes, or those of an outstanding write
pub disk_is : {S : Type 0} (M : Machine S) (C : Copying S) (laws : Lawful M) (w : World S) (i : Inv M C w) (t : S) →
    Runs M M.boot i.trace t → (q : SectorAddress) → MayHave M i.trace t q (sector_record M w.puts q).bytes
disk_is {S} M C laws w i t runs q = go (latest_is start w.puts q) (laws.own_disk i.trace t q runs)
  where
    start : SectorRecord
    start = record { number = 0; bytes = M.boot_sector q }

    here : SectorRecord
    here = sector_record M w.puts q

    -- a write that arrived, no earlier than the last completed one
    late : (v : SectorWrite) → Among (Write v) (operations i.trace) → address_of v ≡ q → here.bytes ≡ v.bytes →
        ((v.number ≤ M.done t q) → v.bytes ≡ image M i.trace q) → MayHave M i.trace t q here.bytes
    late v a k e exact = elim (laws.write_is i.trace t v runs a) [
      | inl l ↦ IsImage (e ∙ exact (subst (λ z. v.number ≤ M.done t z) k l))
      | inr p ↦ IsOutstanding v p k e
    ]

    go : LatestIs start w.puts q here → IsUnwritten M i.trace t q ⊎ IsWritten M i.trace t q →
        MayHave M i.trace t q here.bytes
    go (AsBefore h) (inl o) = IsImage (ap (λ (z : SectorRecord). z.bytes) h ∙ sym o.bytes)
    go (OfPut v put k h) (inl o) = late v (i.global.puts_are v put).0 k (ap (λ (z : SectorRecord). z.bytes) h) (λ l.
        (let m = laws.write_some i.trace t v runs (i.global.puts_are v put).0 in
        let e = o.none in absurd (omega arith)))
    go (AsBefore h) (inr o) =
        let p = i.global.came.put o.write.number o.completed in
        let same : p.0 ≡ o.write = laws.write_once i.trace t p.0 o.write runs
        (i.global.puts_are p.0 p.1).0 o.issued p.2 in
        let g = latest_all start w.puts q p.0 p.1 (ap address_of same ∙ o.there) in
        let m = laws.write_some i.trace t o.write runs o.issued in
        let e = ap (λ (z : SectorRecord). z.number) h in
        let n = p.2 in
        absurd (omega arith)
    go (OfPut v put k h) (inr o) = late v (i.global.puts_are v put).0 k (ap (λ (z : SectorRecord). z.bytes) h) (λ l.
        (let p = i.global.came.put o.write.number o.completed in
        let same : p.0 ≡ o.write = laws.write_once i.trace t p.0 o.write runs
        (i.global.puts_are p.0 p.1).0 o.issued p.2 in
        let g = latest_all start w.puts q p.0 p.1 (ap address_of same ∙ o.there) in
        let e = ap (λ (z : SectorRecord). z.number) h in
        let f = o.last in
        let n = p.2 in
        let eq : o.write.number ≡ v.number = omega arith in
        let u : o.write ≡ v = laws.write_once i.trace t o.write v runs o.issued (i.global.puts_are v put).0 eq in
        ap (λ (z : SectorWrite). z.bytes) (sym u) ∙ o.bytes))

pub faithful : {S : Type 0} (M : Machine S) (C : Copying S) → Lawful M → (w : World S) → Inv M C w → Faithful M w
faithful M C laws w i =
    let r = trace_runs M C w i in
    record {
      list = inputs 0 i.trace;
      count = steps i.trace;
      settled = settled_is M C w i;
      trace = i.trace;
      reach = record { last = r.0; runs = r.1; owns = i.global.owns; list_is = refl; count_is = refl };
      disk = λ q. disk_is M C laws w i r.0 r.1 q;
      output = output_is M C laws w i;
      typed = i.global.came.typed;
      told = i.global.told;
      one_live = live_once M C w i;
      reads = reads_are_kept M C laws w i;
    }

-- What is settled only grows.

pub inputs_later : (d c : ℕ) (ms : List Move) → d ≤ c → AllFrom d (inputs c ms)
inputs_later d c [] h = tt
inputs_later d c (Do o ∷ ms) h = inputs_later d (suc c) ms (omega arith)
inputs_later d c (Take i ∷ ms) h = (h, inputs_later d c ms h)

pub extends : (old new : List Move) → IsPrefix old new → Extends (inputs 0 old) (steps old) (inputs 0 new) (steps new)
extends old new p = record {
  added = inputs (0 + steps old) p.0;
  goes_on = sym (inputs-append 0 old p.0) ∙ ap (inputs 0) p.1;
  count_grows = (let e = steps-append old p.0 in let f = ap steps p.1 in omega arith);
  added_later = inputs_later (steps old) (0 + steps old) p.0 (omega arith);
}

pub extends_at : (l l' k k' : List Timed) (n n' m m' : ℕ) → l ≡ k → n ≡ m → l' ≡ k' → n' ≡ m' → Extends k m k' m' →
    Extends l n l' n'
extends_at l l' k k' n n' m m' a b c d e = record {
  added = e.added;
  goes_on = ap (λ ts. ts ++ e.added) a ∙ e.goes_on ∙ sym c;
  count_grows = (let f = e.count_grows in omega arith);
  added_later = subst (λ z. AllFrom z e.added) (sym b) e.added_later;
}

module _ {S : Type 0} (M : Machine S) (C : Copying S) where
  -- What is settled grows if the settled moves do.
  pub grows_by : (w new : World S) (i : Inv M C w) (j : Inv M C new) → IsPrefix i.trace j.trace → (l : List Timed)
      (n : ℕ) (l' : List Timed) (n' : ℕ) → Settled M w l n → Settled M new l' n' → Extends l n l' n'
  grows_by w new i j p l n l' n' h k =
      let a = settles_trace M C w i h.n h.x h.settles in
      let b = settles_trace M C new j k.n k.x k.settles in
      extends_at l l' (inputs 0 i.trace) (inputs 0 j.trace) n n' (steps i.trace) (steps j.trace) (sym h.list_is
      ∙ a.0) (sym h.count_is ∙ a.1) (sym k.list_is ∙ b.0) (sym k.count_is ∙ b.1) (extends i.trace j.trace p)

  -- Every world that actions reach has the invariant.
  pub reached : Lawful M → IsCopying M C → (w : World S) → Reached M C w → Inv M C w
  reached laws copies w (AtBoot reads) = at_boot M C reads laws
  reached laws copies w (After {w = v} r c) =
      (keep M C laws copies v w (reached laws copies v r) (reached-fetched M C v r) c).inv

pub alone_is_highest : {S : Type 0} (M : Machine S) (C : Copying S) → Lawful M → IsCopying M C → (w : World S) →
    Reached M C w → (n : ℕ) (x : Node S) → slice_get w.nodes n ≡ Some x → x.role ≡ Alone → x.generation ≡ highest w.nodes
alone_is_highest M C laws copies w r n x h role =
    let i = reached M C laws copies w r in alone_highest M C w i n x h role ∙ sym (highest_is M C w i)
