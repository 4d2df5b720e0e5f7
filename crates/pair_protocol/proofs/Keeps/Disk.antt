-- What the disk has for a sector is its record at boot, or the write of greatest number that arrived there.
use Rattle.std.proofs.Common.{[], ◌++◌, ◌<◌, ◌∙◌, ◌∷◌, ◌≡◌, ◌≤◌, Bool, List, ap, arith, cond, false, inl, inr, ltb-false, ltb-true, refl, subst, sym, true, ℕ}
use Rattle.std.specs.Prelude.{nat_lt}
pub use Rattle.disk_dcdd.proofs.Addresses.{same_address-is, same_address-refl}
use Rattle.pair_protocol.proofs.Words.{Among, Copying, Machine, Released, SectorAddress, SectorRead, SectorRecord, SectorWrite, World, Write, WriteDone, address_of, latest, operations, record_after, same_address, sector_record, with_message, with_put}
use Rattle.pair_protocol.proofs.Invariant.{AtStart, HasPut, Inv, IsRecord, Next, OfWrite}
use Rattle.pair_protocol.proofs.Keeps.Link.{message-true}
use Rattle.pair_protocol.proofs.Traces.Lists.{among-left, among-right, among-split}

-- the record of a sector is its record at boot or a settled write's

abbrev pub record_of : SectorWrite → SectorRecord
record_of v = record { number = v.number; bytes = v.bytes }

-- a write that arrives leaves the record of a sector, or replaces one with a lower number
pub data Replaced (r : SectorRecord) (v : SectorWrite) (q : SectorAddress) (new : SectorRecord) : Type 0 where
  Kept : new ≡ r → (address_of v ≡ q → v.number ≤ r.number) → Replaced r v q new
  Came : address_of v ≡ q → r.number < v.number → new ≡ record_of v → Replaced r v q new

pub replaced : (r : SectorRecord) (v : SectorWrite) (q : SectorAddress) → Replaced r v q (record_after r v q)
replaced r v q = go (same_address (address_of v) q) (nat_lt r.number v.number) refl refl
  where
    go : (a l : Bool) → same_address (address_of v) q ≡ a → nat_lt r.number v.number ≡ l →
        Replaced r v q (cond a (cond l (record_of v) r) r)
    go false l e f = Kept refl (λ k. (let t = same_address-refl (address_of v) q k in (cc)))
    go true false e f = Kept refl (λ k. ltb-false r.number v.number f)
    go true true e f = Came (same_address-is (address_of v) q e) (ltb-true r.number v.number f) refl

-- the record of a sector is as it was before the writes, or comes from one of them
pub data LatestIs (r : SectorRecord) (ws : List SectorWrite) (q : SectorAddress) (new : SectorRecord) : Type 0 where
  AsBefore : new ≡ r → LatestIs r ws q new
  OfPut : (v : SectorWrite) → Among v ws → address_of v ≡ q → new ≡ record_of v → LatestIs r ws q new

pub latest_is : (r : SectorRecord) (ws : List SectorWrite) (q : SectorAddress) → LatestIs r ws q (latest r ws q)
latest_is r [] q = AsBefore refl
latest_is r (v ∷ ws) q = go (replaced r v q) (latest_is (record_after r v q) ws q)
  where
    go : Replaced r v q (record_after r v q) → LatestIs (record_after r v q) ws q (latest (record_after r v q) ws q) →
        LatestIs r (v ∷ ws) q (latest (record_after r v q) ws q)
    go x (OfPut u m a e) = OfPut u (inr m) a e
    go (Kept k l) (AsBefore e) = AsBefore (e ∙ k)
    go (Came a l k) (AsBefore e) = OfPut v (inl refl) a (e ∙ k)

-- and no write of the sector that arrived has a greater number
pub latest_ge : (r : SectorRecord) (ws : List SectorWrite) (q : SectorAddress) → r.number ≤ (latest r ws q).number
latest_ge r [] q = omega arith
latest_ge r (v ∷ ws) q = go (replaced r v q) (latest_ge (record_after r v q) ws q)
  where
    go : Replaced r v q (record_after r v q) →
        (record_after r v q).number ≤ (latest (record_after r v q) ws q).number →
        r.number ≤ (latest (record_after r v q) ws q).number
    go (Kept k l) h = (let e = ap (λ (z : SectorRecord). z.number) k in omega arith)
    go (Came a l k) h = (let e = ap (λ (z : SectorRecord). z.number) k in omega arith)

pub latest_all : (r : SectorRecord) (ws : List SectorWrite) (q : SectorAddress) (u : SectorWrite) → Among u ws →
    address_of u ≡ q → u.number ≤ (latest r ws q).number
latest_all r [] q u h k = absurd h
latest_all r (v ∷ ws) q u (inr h) k = latest_all (record_after r v q) ws q u h k
latest_all r (v ∷ ws) q u (inl h) k = go (replaced r v q) (latest_ge (record_after r v q) ws q)
  where
    number : u.number ≡ v.number
    number = ap (λ (z : SectorWrite). z.number) h

    go : Replaced r v q (record_after r v q) →
        (record_after r v q).number ≤ (latest (record_after r v q) ws q).number →
        u.number ≤ (latest (record_after r v q) ws q).number
    go (Kept e l) g = (let a = ap (λ (z : SectorRecord). z.number) e in let b = l (ap address_of (sym h) ∙ k) in
        let n = number in omega arith)
    go (Came a l e) g = (let b = ap (λ (z : SectorRecord). z.number) e in let n = number in omega arith)

pub record-is : {S : Type 0} (M : Machine S) (C : Copying S) (w : World S) (i : Inv M C w) (q : SectorAddress) →
    IsRecord M q (sector_record M w.puts q).number (sector_record M w.puts q).bytes i.trace
record-is {S} M C w i q = go (latest_is (record { number = 0; bytes = M.boot_sector q }) w.puts q)
  where
    go : LatestIs (record { number = 0; bytes = M.boot_sector q }) w.puts q (sector_record M w.puts q) →
        IsRecord M q (sector_record M w.puts q).number (sector_record M w.puts q).bytes i.trace
    go (AsBefore e) = AtStart (ap (λ (z : SectorRecord). z.number) e) (ap (λ (z : SectorRecord). z.bytes) e)
    go (OfPut v m a e) = OfWrite v (i.global.puts_are v m).0 a (ap (λ (z : SectorRecord). z.number) (sym e))
        (ap (λ (z : SectorRecord). z.bytes) (sym e))

-- The disk: a write arrives, a sector is read.

put-more : (ws : List SectorWrite) (v : SectorWrite) (n : ℕ) → HasPut ws n → HasPut (ws ++ v ∷ []) n
put-more ws v n h = (h.0, among-left h.0 ws (v ∷ []) h.1, h.2)

module _ {S : Type 0} (M : Machine S) (C : Copying S) (w : World S) (i : Inv M C w) where
  pub keep-puts : (v : SectorWrite) → Among (Write v) (operations i.trace) → Among (Released (Write v)) w.messages →
      Next M C i.trace (with_put w v)
  keep-puts v h sent = message-true M C w i (WriteDone v.number) (w.puts ++ v ∷ [])
      (λ ts came. record { done = came.done; typed = came.typed; put = λ n q. put-more w.puts v n (came.put n q) })
      (put-more w.puts v) (λ u k. elim (among-split u w.puts (v ∷ []) k) [
        | inl q ↦ inl q
        | inr (inl e) ↦ inr (
          subst (λ z. Among (Write z) (operations i.trace)) (sym e) h,
          subst (λ z. Among (Released (Write z)) w.messages) (sym e) sent,
        )
        | inr (inr e) ↦ absurd e
      ])
      (λ k. tt) (λ k u. tt) (v, among-right v w.puts (v ∷ []) (inl refl), refl) (λ k. tt)

  pub keep-reads : (q : SectorAddress) (n : ℕ) (bytes : List ℕ) → IsRecord M q n bytes i.trace →
      Next M C i.trace (with_message w (SectorRead q n bytes))
  keep-reads q n bytes h = message-true M C w i (SectorRead q n bytes) w.puts (λ ts came. came) (λ j k. k)
      (λ v k. inl k) (λ k. tt) (λ k u. tt) h (λ k. tt)
