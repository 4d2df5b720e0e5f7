-- The verdict on a pair of Altairs that is shown: it is faithful, its trace is one of the single machine, and no other
-- list is settled.
use Rattle.std.proofs.Common.{◌≡◌, ℕ, Bool, true, false, List, Some, IsTrue, ap, arith, refl, subst, sym, ◌∙◌}
use Rattle.std.specs.Prelude.{IsSome, if◌then◌else◌}
use Rattle.altair_laws.specs.Copies.{image_copy}
use Rattle.clone_state.specs.Parts.{part_count}
use Rattle.disk_dcdd.specs.Address.{has_sector}
use Rattle.disk_dcdd.specs.declared.address.SectorAddress.{SectorAddress}
use Rattle.disk_dcdd.specs.declared.sector.SectorWrite.{SectorWrite}
use Rattle.ft_world.proofs.Applying.{shown_is_faithful}
use Rattle.guest_parts.specs.Guest.{Guest}
use Rattle.guest_board.specs.Guest.{altair}
use Rattle.guest_board.specs.Inputs.{some_altair}
use Rattle.guest_lockstep.specs.Machine.{Machine, Move}
use Rattle.guest_board.specs.declared.setup.Setup.{Setup}
use Rattle.guest_lockstep.specs.Reach.{Reach, image, output, writes}
use Rattle.guest_lockstep.specs.declared.timed.Timed.{Timed}
use Rattle.pair_protocol.specs.OnDisk.{StaysOnDisk}
use Rattle.pair_protocol.specs.Copying.{Copying}
use Rattle.pair_protocol.specs.Faithful.{Faithful}
use Rattle.pair_protocol.specs.Settled.{Settled}
use Rattle.pair_protocol.specs.World.{World}
use Rattle.pair_protocol.proofs.Invariant.{Inv}
use Rattle.pair_protocol.proofs.Promises.Faithful.{reached}
use Rattle.pair_protocol.proofs.Promises.Settling.{settles_trace}
use Rattle.pair_protocol.proofs.Traces.OneTrace.{one_trace}
use Rattle.plain_single.specs.Image.{boot_sectors}
use Rattle.plain_single.specs.Reaching.{NeverFall}
use Rattle.plain_single.proofs.Tracing.{only_memory}
use Rattle.shared_disk.specs.Records.{IsThere, record_at}
use Rattle.shared_disk.specs.declared.store.Record.{Record}
use Rattle.altair_pair.specs.Alike.{FaithfulIsAlike, ShownIsSame, altair_course}
use Rattle.altair_pair.specs.Comparing.{Deeds, Falls, IsAlike, IsAnswer, IsVerdict, Lacks, Ran, Stops, Unlike, deeds_of}
use Rattle.shared_disk.specs.Failing.{records_in}
use Rattle.altair_pair.specs.declared.verdict.Verdict.{Verdict}
use Rattle.altair_pair.specs.declared.verdict.Verdict.TheVariants.{Same, Differs}
use Rattle.altair_pair.proofs.Comparisons.{alike_by}
use Rattle.altair_pair.proofs.SameTraces.{image_alike, inputs_never_fall, reach_alike}

-- ---- the verdict, if the machine's trace is alike

same_answer : (drives : ℕ) (d : Deeds) (records : List Record) (count : ℕ) (o : ℕ → List ℕ) (w : List SectorWrite)
    (i : SectorAddress → List ℕ) (answer : Bool) → IsAlike drives d o w i
    → ((address : SectorAddress) → IsTrue (has_sector drives address) → IsThere records address)
    → IsAnswer drives d records o w i answer → (if answer then Same count else Differs) ≡ Same count
same_answer drives d records count o w i true alike there is = refl
same_answer drives d records count o w i false alike there (Unlike not) = absurd (not alike)
same_answer drives d records count o w i false alike there (Lacks address on missing) =
    absurd (missing (there address on))

same_verdict : (M : Machine Guest) (drives : ℕ) (d : Deeds) (records : List Record) (count : ℕ) (verdict : Verdict)
    (trace : List Move) → Reach M d.settled count trace
    → IsAlike drives d (λ port. output port trace) (writes trace) (image M trace)
    → ((address : SectorAddress) → IsTrue (has_sector drives address) → IsThere records address)
    → IsVerdict M drives d records count verdict → verdict ≡ Same count
same_verdict M drives d records count verdict trace reach alike there (Ran moves answer other is) =
    same_answer drives d records count (λ port. output port trace) (writes trace) (image M trace) answer alike there
    (subst (λ t. IsAnswer drives d records (λ port. output port t) (writes t) (image M t) answer)
    (one_trace M d.settled count moves trace other reach) is)
same_verdict M drives d records count verdict trace reach alike there (Falls not) =
    absurd (not (subst (λ l. NeverFall 0 l) reach.list_is (inputs_never_fall 0 0 trace (omega arith))))
same_verdict M drives d records count verdict trace reach alike there (Stops fault other fails) =
    absurd (other (only_memory M d.settled count trace fault reach fails))

-- ---- what is settled

settled_once : {S : Type 0} (M : Machine S) (C : Copying S) (w : World S) → Inv M C w → (list other : List Timed) (count n : ℕ)
    → Settled M w list count → Settled M w other n → (other ≡ list) × (n ≡ count)
settled_once M C w i list other count n h k =
    let a = settles_trace M C w i h.n h.x h.settles in
    let b = settles_trace M C w i k.n k.x k.settles in
    (sym k.list_is ∙ b.0 ∙ sym a.0 ∙ h.list_is, sym k.count_is ∙ b.1 ∙ sym a.1 ∙ h.count_is)

-- ---- the disk

-- an image has its number of parts from its drives alone
drives_are : (drives other : ℕ) → (image_copy drives).part_count ≡ part_count other → other ≡ drives
unfolding image_copy
drives_are drives other e = omega arith

there_at : (records : List Record) (address : SectorAddress) (r : Record) → record_at records address ≡ Some r
    → IsThere records address
there_at records address r is = subst (λ o. IsSome o) (sym is) refl

-- ---- the law

pub shown_is_same : {B H : Type 0} → FaithfulIsAlike
    → ((setup : Setup) (start : SectorAddress → List ℕ) → StaysOnDisk (altair setup start) setup.drives) → ShownIsSame B H
shown_is_same alike stays state copied setup sectors start w v verdict begin shows on = record {
  list = f.list;
  count = f.count;
  settled = f.settled;
  only = λ other n s. settled_once N C w inv f.list other f.count n f.settled s;
  same = same_verdict (altair setup (boot_sectors sectors)) setup.drives (deeds_of N w on.list) v.disk.store on.count verdict
      f.trace reach (subst (λ l. IsAlike setup.drives (deeds_of N w l) (λ port. output port f.trace) (writes f.trace)
      (image (altair setup (boot_sectors sectors)) f.trace)) (sym once.0) is_alike) there on.judged ∙ ap Same once.1;
}
  where
    N : Machine Guest
    N = altair setup start

    C : Copying Guest
    C = image_copy setup.drives

    inv : Inv N C w
    inv = reached N C shows.machine.lawful shows.machine.copies w shows.reached

    f : Faithful N w
    f = shown_is_faithful state copied some_altair records_in v (altair_course setup start w) shows

    once : (on.list ≡ f.list) × (on.count ≡ f.count)
    once = settled_once N C w inv f.list on.list f.count on.count f.settled on.settled

    reach : Reach (altair setup (boot_sectors sectors)) on.list on.count f.trace
    reach =
        subst (λ l. Reach (altair setup (boot_sectors sectors)) l on.count f.trace) (sym once.0)
        (subst (λ n. Reach (altair setup (boot_sectors sectors)) f.list n f.trace) (sym once.1)
        (reach_alike setup start (boot_sectors sectors) begin (stays setup start) f.list f.count f.trace f.reach))

    is_alike : IsAlike setup.drives (deeds_of N w f.list) (λ port. output port f.trace) (writes f.trace)
        (image (altair setup (boot_sectors sectors)) f.trace)
    is_alike =
        alike_by setup.drives (deeds_of N w f.list) (λ port. output port f.trace) (λ port. output port f.trace)
        (writes f.trace) (writes f.trace) (image N f.trace) (image (altair setup (boot_sectors sectors)) f.trace)
        (λ port low. refl) refl
        (λ address there. image_alike setup start (boot_sectors sectors) address (begin address there) f.trace)
        (alike setup start w f)

    there : (address : SectorAddress) → IsTrue (has_sector setup.drives address) → IsThere v.disk.store address
    there address on_disk =
        let drives = drives_are setup.drives shows.drives shows.copies_as.counted in
        let r = shows.parts.disk.there address
        (subst (λ n. IsTrue (has_sector n address)) (sym drives) on_disk) in
        there_at v.disk.store address r.0 r.1
