-- A host that waits for a sector asks the disk for it, and the answer is the one that it waits for.
use Rattle.std.proofs.Common.{◌≡◌, ℕ, suc, ◌≤◌, inl, inr, true, false, not, Option, Some, None, is_none, List, [], ◌∷◌, refl, sym, ap, subst, ◌∙◌, eq-eqb}
use Rattle.std.specs.Prelude.{slice_get, slice_set, ◌==◌}
use Rattle.disk_dcdd.proofs.Addresses.{same_address-refl}
use Rattle.disk_dcdd.specs.declared.address.SectorAddress.{SectorAddress}
use Rattle.disk_dcdd.specs.declared.sector.SectorWrite.{SectorWrite}
use Rattle.i8080_words.specs.declared.refusal.Fault.{Fault}
use Rattle.i8080_words.specs.declared.refusal.Fault.TheVariants.{NotDue, StaleRead}
use Rattle.pair_protocol.proofs.Words.{Acts, Backup, Copying, Draining, IsCopying, Lawful, Machine, Node, Replaying, Role, SectorRead, SectorRecord, Spare, World, fetches, is_role, same_address, sector_record}
use Rattle.pair_protocol.specs.Effects.{wanted}
use Rattle.pair_protocol.specs.ReadsKept.{StillReplays}
use Rattle.pair_protocol.specs.Refusals.{fault_if, fetch_refusal, fetched_refusal, first_of, role_refusal, unwanted}
use Rattle.pair_protocol.proofs.Promises.Faithful.{reached}
use Rattle.pair_progress.specs.Takeover.{to_fetch}
use Rattle.pair_progress.proofs.Acting.{record_kept}
use Rattle.pair_progress.proofs.Fetching.{Waiting, answered_fewer}
use Rattle.pair_progress.proofs.Passing.{acts_first, acts_later, at_here, in_role, not_spare, passed}
use Rattle.host_law.specs.Frame.{answering, sending, taking}
use Rattle.host_law.specs.Host.{Passes}
use Rattle.host_law.specs.Host as host
use Rattle.host_law.specs.Outside as outside
use Rattle.host_law.proofs.Following.{node-there}
use Rattle.host_law.proofs.Words.{AsksSector, Carries, Fleet, HostStep, Outside, OutsideStep, Shows}
use Rattle.host_progress.specs.Exchanges.{HostsReach}
use Rattle.host_progress.proofs.Answering.{Then, in_three}

-- a node that is no spare host passes what its part does not refuse
pub passes_at : {S : Type 0} (x : Node S) (r : Role) (part : Node S → Option Fault) → x.role ≡ r → is_role r Spare ≡ false →
    part x ≡ None → Passes x part
passes_at x r part role real free = at_here (Some x) x part refl (not_spare x.role r role real) free

-- the disk answers with its record
pub reads_as : {S : Type 0} (M : Machine S) (o : Outside) (puts : List SectorWrite) (address : SectorAddress) → o.puts ≡ puts →
    OutsideStep M o
    (answering (AsksSector address)
    (Carries (SectorRead address (sector_record M puts address).number (sector_record M puts address).bytes))) o
reads_as M o puts address same = subst
    (λ ps. OutsideStep M o
    (answering (AsksSector address)
    (Carries (SectorRead address (sector_record M ps address).number (sector_record M ps address).bytes))) o)
    same (outside.Reads address)

module _ {S : Type 0} (M : Machine S) (C : Copying S) (laws : Lawful M) (copies : IsCopying M C) (f : Fleet S) (w : World S)
    (h : Shows M C f w) (n : ℕ) (y : Node S) (there : slice_get f.hosts n ≡ Some y) (up : y.running ≡ true) (role : Role)
    (role_is : y.role ≡ role) (which : Replaying role) (still : StillReplays w n y) (a : Waiting M y) where
  abbrev address : SectorAddress
  address = M.address y.machine a.drive a.sector

  abbrev here : SectorRecord
  here = sector_record M w.puts address

  real : is_role role Spare ≡ false
  real = elim which [
    | inl k ↦ not_spare role Backup k refl
    | inr k ↦ not_spare role Draining k refl
  ]

  no_spare : y.role ≡ Spare → ⊥
  no_spare s = elim which [
    | inl k ↦ (let e : Backup ≡ Spare = sym (role_is ∙ k) ∙ s in (cc))
    | inr k ↦ (let e : Draining ≡ Spare = sym (role_is ∙ k) ∙ s in (cc))
  ]

  pub acts_here : Acts w n y role
  acts_here = record { there = node-there M C f w h n y there no_spare; up = up; role_is = role_is }

  replays : role_refusal (Backup ∷ Draining ∷ []) y ≡ None
  replays = in_role y (Backup ∷ Draining ∷ []) (elim which [
    | inl k ↦ acts_first y Backup (Draining ∷ []) up (role_is ∙ k) refl
    | inr k ↦ acts_later y Backup (Draining ∷ []) (acts_first y Draining [] up (role_is ∙ k) refl)
  ])

  asks : HostStep M C n y (sending (AsksSector address)) y
  asks = host.AsksWanted address
      (passes_at y role (fetch_refusal M) role_is real
      (passed (role_refusal (Backup ∷ Draining ∷ []) y) (fault_if (is_none (wanted M y)) NotDue ∷ []) replays
      (ap (λ o. first_of (fault_if (is_none o) NotDue ∷ [])) a.is_wanted)))
      (record { drive = a.drive; sector = a.sector; number = a.number; read = a.is_wanted; address_is = refl })

  kept : here.number ≡ a.number
  kept = record_kept M C laws w (reached M C laws copies w h.reached) n y role acts_here which still a.drive a.sector a.number a.at

  not_unwanted : unwanted M y address here.number (wanted M y) ≡ None
  not_unwanted =
      ap (unwanted M y address here.number) a.is_wanted
      ∙ passed (fault_if (not (same_address address address)) NotDue)
      (fault_if (not (a.number == here.number)) StaleRead ∷ [])
      (ap (λ b. fault_if (not b) NotDue) (same_address-refl address address refl))
      (ap (λ b. first_of (fault_if (not b) StaleRead ∷ [])) (eq-eqb a.number here.number (sym kept)))

  takes : HostStep M C n y (taking (Carries (SectorRead address here.number here.bytes))) (fetches y here.bytes)
  takes = host.TakesRead address here.number here.bytes (fetches y here.bytes)
      (passes_at y role (fetched_refusal M address here.number) role_is real
      (passed (role_refusal (Backup ∷ Draining ∷ []) y) (unwanted M y address here.number (wanted M y) ∷ []) replays
      (ap (λ o. first_of (o ∷ [])) not_unwanted)))
      refl

  -- the node afterwards, which has a sector fewer to fetch
  abbrev pub has_fetched : Node S
  has_fetched = fetches y here.bytes

  pub fewer_left : (k : ℕ) → to_fetch y ≤ suc k → to_fetch has_fetched ≤ k
  fewer_left = answered_fewer M C laws copies w h.reached n y role acts_here which still a

  pub fetches_it : (Who : ℕ → Type 0) (End : World S → Type 0) → Who n → (most : ℕ) →
      Then M C laws copies Who End (slice_set f.hosts n has_fetched) f.outside most → HostsReach M C f Who (suc (suc (suc most))) End
  fetches_it Who End who most rest =
      in_three M C laws copies Who End f w h n y there who most (AsksSector address) asks
      (Carries (SectorRead address here.number here.bytes)) f.outside (reads_as M f.outside w.puts address h.puts) n y
      has_fetched there who takes rest
