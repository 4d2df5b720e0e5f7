-- If nothing is outstanding, the disk's record of a sector has the number of the machine's own last completed write of it;
-- so the answer to a live host is not stale, and the sector is taken.
use Rattle.std.proofs.Common.{◌≡◌, ℕ, ◌≤◌, ◌⊎◌, inl, inr, false, cond, not, Some, None, is_none, [], ◌∷◌, refl, sym, ap, subst, ◌∙◌, arith, eq-eqb}
use Rattle.std.specs.Prelude.{◌==◌}
use Rattle.disk_dcdd.proofs.Addresses.{same_address-refl}
use Rattle.disk_dcdd.specs.declared.address.SectorAddress.{SectorAddress}
use Rattle.disk_dcdd.specs.declared.sector.SectorWrite.{SectorWrite}
use Rattle.event_callbacks.specs.declared.operations.OpId.TheVariants as id
use Rattle.guest_lockstep.specs.Machine.{refusal_of, sector_refusal}
use Rattle.guest_lockstep.specs.declared.input.Input.TheVariants.{Sector}
use Rattle.i8080_words.specs.declared.refusal.Fault.TheVariants.{NotDue, SectorBusy, StaleRead}
use Rattle.pair_protocol.proofs.Words.{Alone, Among, Copying, IsCopying, IsUnwritten, IsWritten, Lawful, Machine, Node, SectorRead, SectorRecord, World, Write, address_of, alone_takes, same_address, sector_record}
use Rattle.pair_protocol.specs.Effects.{took}
use Rattle.pair_protocol.specs.Refusals.{fault_if, first_of, get_refusal, get_reply_refusal, log_full, log_spent, serves}
use Rattle.pair_protocol.proofs.Invariant.{Inv}
use Rattle.pair_protocol.proofs.Keeps.Alone.{AloneAt, alone}
use Rattle.pair_protocol.proofs.Keeps.Disk.{AsBefore, LatestIs, OfPut, latest_all, latest_is}
use Rattle.pair_protocol.proofs.Promises.Faithful.{reached}
use Rattle.pair_progress.specs.Completion.{IsAtRest, Responds}
use Rattle.pair_progress.specs.Reading.{HasTaken, IsDue, ReadsSectors}
use Rattle.pair_progress.proofs.Completing.{live_not_full, live_not_spent, live_serves}
use Rattle.pair_progress.proofs.Passing.{passed}
use Rattle.pair_progress.proofs.Resting.{none_and_some}
use Rattle.host_law.specs.Host.{Passes}
use Rattle.host_law.specs.Host as host
use Rattle.host_law.proofs.Words.{AsksSector, Carries, Fleet, Shows}
use Rattle.host_progress.specs.Exchanges.{HostsReach}
use Rattle.host_progress.specs.Laws.{Only}
use Rattle.host_progress.proofs.Answering.{in_three}
use Rattle.host_progress.proofs.Exchanging.{is_there}
use Rattle.host_progress.proofs.Fetching.{passes_at, reads_as}
use Rattle.host_progress.proofs.Going.{live_as}
use Rattle.host_progress.proofs.Resting.{there_in}

module _ {S : Type 0} (M : Machine S) (C : Copying S) (laws : Lawful M) (copies : IsCopying M C) (responds : Responds M)
    (reads : ReadsSectors M) (f : Fleet S) (w : World S) (h : Shows M C f w) (n generation : ℕ)
    (rest : IsAtRest M w n generation) where
  abbrev x : Node S
  x = rest.live.x

  abbrev i : Inv M C w
  i = reached M C laws copies w h.reached

  at : AloneAt M C w i x
  at = alone M C w i n x (record { there = rest.live.there; up = rest.live.up; role_is = rest.live.alone })

  record_done : (q : SectorAddress) → (sector_record M w.puts q).number ≡ M.done x.machine q
  record_done q = go (latest_is start w.puts q) (laws.own_disk i.trace x.machine q at.runs)
    where
      start : SectorRecord
      start = record { number = 0; bytes = M.boot_sector q }

      early : (v : SectorWrite) → Among v w.puts → address_of v ≡ q → v.number ≤ M.done x.machine q
      early v m e = elim (laws.write_is i.trace x.machine v at.runs (i.global.puts_are v m).0) [
        | inl l ↦ subst (λ z. v.number ≤ M.done x.machine z) e l
        | inr p ↦ none_and_some (M.find x.machine (id.Write v.number)) (Write v) (rest.none (id.Write v.number)) p
      ]

      late : IsUnwritten M i.trace x.machine q ⊎ IsWritten M i.trace x.machine q →
          M.done x.machine q ≤ (sector_record M w.puts q).number
      late (inl o) = (let k = o.none in omega (arith, k))
      late (inr o) =
          let p = i.global.came.put o.write.number o.completed in
          let same : p.0 ≡ o.write = laws.write_once i.trace x.machine p.0 o.write at.runs
          (i.global.puts_are p.0 p.1).0 o.issued p.2 in
          let g = latest_all (record { number = 0; bytes = M.boot_sector q }) w.puts q p.0 p.1 (ap address_of same ∙ o.there) in
          let l = o.last in
          let k = p.2 in
          omega (arith, g, l, k)

      go : LatestIs (record { number = 0; bytes = M.boot_sector q }) w.puts q (sector_record M w.puts q) →
          IsUnwritten M i.trace x.machine q ⊎ IsWritten M i.trace x.machine q →
          (sector_record M w.puts q).number ≡ M.done x.machine q
      go (AsBefore h) o =
          let zero_is : (sector_record M w.puts q).number ≡ 0 = ap (λ (z : SectorRecord). z.number) h in
          let l = late o in
          omega (arith, zero_is, l)
      go (OfPut v m e h) o =
          let is : (sector_record M w.puts q).number ≡ v.number = ap (λ (z : SectorRecord). z.number) h in
          let f = early v m e in
          let l = late o in
          omega (arith, is, f, l)

  module _ (drive sector : ℕ) (due : IsDue M x.machine drive sector) where
    abbrev q : SectorAddress
    q = M.address x.machine drive sector

    abbrev here : SectorRecord
    here = sector_record M w.puts q

    may_ask : Passes x (get_refusal M)
    may_ask = passes_at x Alone (get_refusal M) rest.live.alone refl
        (passed (serves x) (fault_if (is_none (M.selected x.machine)) NotDue ∷ [])
        (live_serves M x rest.live.up rest.live.alone)
        (ap (λ o. first_of (fault_if (is_none o) NotDue ∷ [])) due.selected))

    -- the address has the drive and the sector by which it is asked for
    drive_is : q.drive ≡ drive
    drive_is = ap (λ (z : SectorAddress). z.drive) (laws.placed x.machine drive sector)

    sector_is : q.sector ≡ sector
    sector_is = ap (λ (z : SectorAddress). z.sector) (laws.placed x.machine drive sector)

    again : M.address x.machine q.drive q.sector ≡ q
    again = ap (λ d. M.address x.machine d q.sector) drive_is ∙ ap (λ k. M.address x.machine drive k) sector_is

    free : M.busy x.machine q ≡ false
    free = reads.free i.trace x.machine q at.runs rest.none

    passes : refusal_of M x.machine (Sector q.drive q.sector here.number here.bytes) ≡ None
    passes =
        ap (λ z. sector_refusal M x.machine z here.number) again
        ∙ ap (λ b. cond (not b) (Some NotDue) (cond (M.busy x.machine q) (Some SectorBusy)
        (cond (not (M.done x.machine q == here.number)) (Some StaleRead) None))) due.ready
        ∙ ap (λ b. cond b (Some SectorBusy) (cond (not (M.done x.machine q == here.number)) (Some StaleRead) None)) free
        ∙ ap (λ b. cond (not b) (Some StaleRead) None)
        (eq-eqb (M.done x.machine q) here.number (sym (record_done q)))

    may_come : Passes x (get_reply_refusal M q here.number here.bytes)
    may_come = passes_at x Alone (get_reply_refusal M q here.number here.bytes) rest.live.alone refl
        (passed (serves x) _ (live_serves M x rest.live.up rest.live.alone)
        (passed (fault_if (not (same_address (M.address x.machine q.drive q.sector) q)) NotDue) _
        (ap (λ b. fault_if (not b) NotDue) (same_address-refl (M.address x.machine q.drive q.sector) q again))
        (passed (refusal_of M x.machine (Sector q.drive q.sector here.number here.bytes)) _ passes
        (passed (log_full x) _ (live_not_full M x rest.live.up rest.live.alone)
        (passed (log_spent x) [] (live_not_spent M x rest.live.up rest.live.alone) refl)))))

    took_it : (t : S) × (M.take x.machine (Sector drive sector here.number here.bytes) ≡ Some t)
    took_it = reads.takes i.trace x.machine drive sector here.number here.bytes at.runs due.ready free

    same_take : M.take x.machine (Sector q.drive q.sector here.number here.bytes) ≡ Some took_it.0
    same_take = ap (λ d. M.take x.machine (Sector d q.sector here.number here.bytes)) drive_is
        ∙ ap (λ k. M.take x.machine (Sector drive k here.number here.bytes)) sector_is ∙ took_it.1

    abbrev y : Node S
    y = alone_takes M x took_it.0 (Sector q.drive q.sector here.number here.bytes)

    pub sector_comes : HostsReach M C f (Only n) 3 (λ new. HasTaken M new n generation x.machine drive sector)
    sector_comes =
        let there = there_in M C laws copies responds n generation f w h rest.live in
        in_three M C laws copies (Only n) (λ new. HasTaken M new n generation x.machine drive sector) f w h n x there refl 0
        (AsksSector q)
        (host.AsksUnder sector q may_ask (record { drive = drive; selected = due.selected; address_is = refl }))
        (Carries (SectorRead q here.number here.bytes)) f.outside (reads_as M f.outside w.puts q h.puts) n x y there refl
        (host.TakesSector q here.number here.bytes y may_come
        (record {
          s = took_it.0;
          takes = same_take;
          after = ap (λ z. took M x z took_it.0 (Sector q.drive q.sector here.number here.bytes)) (sym rest.live.alone);
        }))
        (λ l v shown hosts o. is_there M C (Only n) (λ new. HasTaken M new n generation x.machine drive sector) l v 0 shown
        (record {
          live = live_as M C laws copies responds f w h n generation rest.live y rest.live.up rest.live.alone
              rest.live.generation_is l v shown hosts;
          number = here.number;
          bytes = here.bytes;
          taken = took_it.1;
        }))
