-- The disk's worker. A write that arrives replaces the record of its sector if its number is greater, as the writes
-- answered do one after another; so a sector that is read has what they left, and if none has, what it booted with.
use Rattle.std.proofs.Common.{◌≡◌, ℕ, ◌<◌, ◌⊎◌, Bool, true, false, cond, List, [], ◌∷◌, ◌++◌, Some, None, Option, Ok, IsSome, inl, inr, refl, sym, ap, subst, ◌∙◌, arith}
use Rattle.std.proofs.lemmas.Bool.{ltb-true}
use Rattle.std.specs.Prelude.{nat_lt}
use Rattle.std.specs.Option.{option_map, option_map_or}
use Rattle.pair_threads.proofs.Words.{AllAre, Core, DiskAnswer, DiskView, Empties, Fills, Has, IsDiskOf, IsFirst, IsStore, Record, SectorAddress, SectorRead, SectorRecord, SectorWrite, Serves, address_of, all_more, at_boot, bytes_in, latest, put_by, record_after, same_address, same_some}
use Rattle.shared_disk.specs.Arrivals.{after_put, read_address, read_at, read_of}
use Rattle.shared_disk.specs.Records.{IsThere, IsUnwritten, record_at}
use Rattle.pair_threads.specs.Ending.{KeepsSectors}
use Rattle.pair_threads.specs.Turns.{Leaves}
use Rattle.pair_threads.specs.declared.worker.Turn.{Turn}
use Rattle.pair_threads.specs.declared.worker.Turn.TheVariants.{Moved, Looks, Waits, Ends}
use Rattle.shared_disk.proofs.Arriving.{known_put, record_at-put}
use Rattle.pair_protocol.proofs.Promises.OneMore.{latest-one}
use Rattle.pair_rule.specs.declared.mailbox.Mailbox.TheVariants.{Answers, Requests}
use Rattle.pair_rule.specs.declared.payload.DiskAnswer.TheVariants as answer
use Rattle.pair_rule.specs.declared.payload.DiskRequest.{DiskRequest}
use Rattle.pair_rule.specs.declared.payload.DiskRequest.TheVariants as ask
use Rattle.pair_rule.specs.declared.payload.Payload.TheVariants.{Answer, Request}

-- ---- a write arrives

abbrev brought : SectorWrite → SectorRecord
brought write = record { number = write.number; bytes = write.bytes }

pub after_write : (boots : SectorAddress → List ℕ) (rs : List Record) (puts : List SectorWrite) → IsDiskOf boots rs puts
    → (write : SectorWrite) (met : Record) → record_at rs (address_of write) ≡ Some met
    → IsDiskOf boots (after_put rs write) (puts ++ write ∷ [])
after_write boots rs puts is write met at a r e =
    subst (Has r) (sym (latest-one (at_boot (boots a)) puts write a))
    (known_put (λ k r. Has r k) (λ (k : SectorRecord). k.number) (λ k r has. has.0) rs write (brought write) (refl, refl)
    met at a (latest (at_boot (boots a)) puts a) (is a) r e)

pub is_there : (o : Option Record) → IsSome o → (met : Record) × (o ≡ Some met)
is_there None t = absurd cc
is_there (Some met) t = (met, refl)

pub written : (old new : List Record) (write : SectorWrite) → IsThere old (address_of write) → new ≡ after_put old write
    → Serves old (ask.Write write) (answer.Written write.number) new
written old new write there is boots view taken disk =
    let met = is_there (record_at old (address_of write)) there in (
      (write, taken, refl),
      tt,
      subst (λ t. IsDiskOf boots new (put_by t view.puts)) (sym taken)
          (subst (λ rs. IsDiskOf boots rs (view.puts ++ write ∷ [])) (sym is)
          (after_write boots old view.puts disk write met.0 met.1)),
    )

-- ---- the sectors stay

one_or_other : (here : Bool) (r : Record) (o : Option Record) → IsSome o → IsSome (cond here (Some r) o)
one_or_other true r o there = refl
one_or_other false r o there = there

-- a write takes none away
pub put_keeps : (old new : List Record) (write : SectorWrite) → IsThere old (address_of write) → new ≡ after_put old write
    → KeepsSectors old new
put_keeps old new write there is a at =
    let met = is_there (record_at old (address_of write)) there in
    subst (λ rs. IsThere rs a) (sym is)
    (subst (λ (o : Option Record). IsSome o) (sym (record_at-put old write met.0 a met.1))
    (one_or_other (same_address (address_of write) a) _ (record_at old a) at))

pub same_keep : (old new : List Record) → new ≡ old → KeepsSectors old new
same_keep old new same a at = subst (λ rs. IsThere rs a) (sym same) at

-- ---- a sector is read

-- writes leave a record as it was, or bring a greater number
as_it_was : (puts : List SectorWrite) (a : SectorAddress) (p : SectorRecord)
    → (latest p puts a ≡ p) ⊎ (p.number < (latest p puts a).number)
as_it_was [] a p = inl refl
as_it_was (write ∷ puts) a p =
    go (same_address (address_of write) a) (nat_lt p.number write.number) refl (as_it_was puts a (record_after p write a))
  where
    go : (here less : Bool) → nat_lt p.number write.number ≡ less
        → (latest (cond here (cond less (brought write) p) p) puts a ≡ cond here (cond less (brought write) p) p)
        ⊎ ((cond here (cond less (brought write) p) p).number
        < (latest (cond here (cond less (brought write) p) p) puts a).number)
        → (latest (cond here (cond less (brought write) p) p) puts a ≡ p)
        ⊎ (p.number < (latest (cond here (cond less (brought write) p) p) puts a).number)
    go false less e both = both
    go true false e both = both
    go true true e (inl same) =
        let greater : p.number < write.number = ltb-true p.number write.number e in
        inr (subst (λ (k : SectorRecord). p.number < k.number) (sym same) greater)
    go true true e (inr more) =
        let greater : p.number < write.number = ltb-true p.number write.number e in
        inr (let further = more in omega (arith, greater, further))

-- what has number 0 after the writes is what was there
still_first : (puts : List SectorWrite) (a : SectorAddress) (bytes : List ℕ) → (latest (at_boot bytes) puts a).number ≡ 0
    → (latest (at_boot bytes) puts a).bytes ≡ bytes
still_first puts a bytes zero = go (as_it_was puts a (at_boot bytes))
  where
    go : (latest (at_boot bytes) puts a ≡ at_boot bytes) ⊎ (0 < (latest (at_boot bytes) puts a).number)
        → (latest (at_boot bytes) puts a).bytes ≡ bytes
    go (inl same) = ap (λ (k : SectorRecord). k.bytes) same
    go (inr greater) = absurd (omega (arith, zero, greater))

-- of two records under one number: after the same writes both are as before, or they are one
both_after : (puts : List SectorWrite) (a : SectorAddress) (p q : SectorRecord) → p.number ≡ q.number
    → ((latest p puts a ≡ p) × (latest q puts a ≡ q)) ⊎ (latest p puts a ≡ latest q puts a)
both_after [] a p q same = inl (refl, refl)
both_after (write ∷ puts) a p q same =
    go (same_address (address_of write) a) (nat_lt p.number write.number) (ap (λ n. nat_lt n write.number) (sym same))
    (both_after puts a p q same)
  where
    go : (here less : Bool) → nat_lt q.number write.number ≡ less
        → ((latest p puts a ≡ p) × (latest q puts a ≡ q)) ⊎ (latest p puts a ≡ latest q puts a)
        → ((latest (cond here (cond less (brought write) p) p) puts a ≡ p)
        × (latest (cond here (cond (nat_lt q.number write.number) (brought write) q) q) puts a ≡ q))
        ⊎ (latest (cond here (cond less (brought write) p) p) puts a
        ≡ latest (cond here (cond (nat_lt q.number write.number) (brought write) q) q) puts a)
    go false less e both = both
    go true true e both = inr (ap (λ b. latest (cond b (brought write) q) puts a) (sym e))
    go true false e both =
        subst (λ b. ((latest p puts a ≡ p) × (latest (cond b (brought write) q) puts a ≡ q))
        ⊎ (latest p puts a ≡ latest (cond b (brought write) q) puts a)) (sym e) both

-- what was read is what the writes leave of a sector that booted with it
read_again : (puts : List SectorWrite) (a : SectorAddress) (bytes : List ℕ) (n : ℕ) (found : List ℕ)
    → latest (at_boot bytes) puts a ≡ record { number = n; bytes = found }
    → latest (at_boot found) puts a ≡ record { number = n; bytes = found }
read_again puts a bytes n found is = go (both_after puts a (at_boot bytes) (at_boot found) refl)
  where
    go : ((latest (at_boot bytes) puts a ≡ at_boot bytes) × (latest (at_boot found) puts a ≡ at_boot found))
        ⊎ (latest (at_boot bytes) puts a ≡ latest (at_boot found) puts a)
        → latest (at_boot found) puts a ≡ record { number = n; bytes = found }
    go (inl as_before) =
        let e : at_boot bytes ≡ record { number = n; bytes = found } = sym as_before.0 ∙ is in
        as_before.1 ∙ ap (λ m. record { number = m; bytes = found }) (ap (λ (k : SectorRecord). k.number) e)
    go (inr same) = sym same ∙ is

record_is : (k : SectorRecord) (n : ℕ) (bytes : List ℕ) → n ≡ k.number → bytes ≡ k.bytes
    → k ≡ record { number = n; bytes = bytes }
record_is k n bytes e d =
    subst (λ m. k ≡ record { number = m; bytes = bytes }) (sym e)
    (subst (λ b. k ≡ record { number = k.number; bytes = b }) (sym d) refl)

-- what was found has the address at which it was read; it is what the writes leave, and what the sector booted with if there
-- is none of them
found_so : (boots : SectorAddress → List ℕ) (old : List Record) (puts : List SectorWrite) (address : SectorAddress)
    (r : SectorRead) → IsDiskOf boots old puts → read_at old address ≡ Some r
    → (address ≡ read_address r) × (latest (at_boot r.bytes) puts address ≡ record { number = r.number; bytes = r.bytes })
    × IsFirst boots (answer.Read r)
found_so boots old puts address r disk is = go (record_at old address) refl is
  where
    go : (found : Option Record) → record_at old address ≡ found → option_map (read_of address) found ≡ Some r
        → (address ≡ read_address r)
        × (latest (at_boot r.bytes) puts address ≡ record { number = r.number; bytes = r.bytes })
        × IsFirst boots (answer.Read r)
    go None at e = absurd cc
    go (Some met) at e =
        let came : read_of address met ≡ r = same_some (read_of address met) r _ refl e in
        let has : Has met (latest (at_boot (boots address)) puts address) = disk address met at in
        subst (λ (z : SectorRead). (address ≡ read_address z)
        × (latest (at_boot z.bytes) puts address ≡ record { number = z.number; bytes = z.bytes })
        × IsFirst boots (answer.Read z)) came (
          refl,
          read_again puts address (boots address) met.number met.bytes
              (record_is (latest (at_boot (boots address)) puts address) met.number met.bytes has.0 has.1),
          (λ zero. has.1 ∙ still_first puts address (boots address) (sym has.0 ∙ zero)),
        )

pub read : (old new : List Record) (address : SectorAddress) (r : SectorRead) → read_at old address ≡ Some r → new ≡ old
    → Serves old (ask.Read address) (answer.Read r) new
read old new address r is same boots view taken disk =
    let so = found_so boots old view.puts address r disk is in (
      (address, taken, so.0, so.1),
      so.2,
      subst (λ t. IsDiskOf boots new (put_by t view.puts)) (sym taken)
          (subst (λ rs. IsDiskOf boots rs view.puts) (sym same) disk),
    )

-- ---- the worker's turn

-- a worker that is ready and may end has left what it should, whatever its turn was
pub goes_on : (turn : Turn) → (ready ended : Type 0) → ready → ended → Leaves (Ok turn) ready ended
goes_on Moved ready ended is end = is
goes_on Looks ready ended is end = is
goes_on Waits ready ended is end = is
goes_on Ends ready ended is end = end

-- an answer is given
pub replied : (boots : SectorAddress → List ℕ) (old new : List Record) (request : DiskRequest) (a : DiskAnswer)
    (core after : Core) → Serves old request a new → core.known.disk.taken ≡ Some request
    → Fills Answers (Answer a) core after → IsStore boots old core.known.disk → IsStore boots new after.known.disk
replied boots old new request a core after serves taken fills store =
    let served = serves boots core.known.disk taken store.kept in
    subst (λ (c : Core). IsStore boots new c.known.disk) (sym fills.0.1) record {
      kept = served.2;
      firsts = all_more core.known.disk.given a (IsFirst boots) store.firsts served.1;
    }

-- a request is taken, or none is there
pub took : (boots : SectorAddress → List ℕ) (records : List Record) (found : Option DiskRequest) (core after : Core)
    → Empties Requests (option_map Request found) core after → IsStore boots records core.known.disk
    → IsStore boots records after.known.disk
took boots records None core after empties store =
    subst (λ (c : Core). IsStore boots records c.known.disk) (sym empties.0.1)
    (record { kept = store.kept; firsts = store.firsts })
took boots records (Some request) core after empties store =
    subst (λ (c : Core). IsStore boots records c.known.disk) (sym empties.1.1)
    (record { kept = store.kept; firsts = store.firsts })

-- the disk fails a request
pub failed : (boots : SectorAddress → List ℕ) (old new : List Record) (view : DiskView) → new ≡ old
    → IsStore boots old view → IsStore boots new view
failed boots old new view same store = subst (λ records. IsStore boots records view) (sym same) store

-- ---- the beginning

first_sectors : (records : List Record) → IsUnwritten records → IsDiskOf (bytes_in records) records []
first_sectors records unwritten a r at =
    (unwritten a r at, ap (λ found. option_map_or (λ (x : Record). x.bytes) found []) (sym at))

pub first_disk : (records : List Record) (view : DiskView) → view.puts ≡ [] → view.given ≡ [] → IsUnwritten records
    → IsStore (bytes_in records) records view
first_disk records view no_puts none_given unwritten = record {
  kept = subst (λ puts. IsDiskOf (bytes_in records) records puts) (sym no_puts) (first_sectors records unwritten);
  firsts = subst (λ given. AllAre given (IsFirst (bytes_in records))) (sym none_given) tt;
}
