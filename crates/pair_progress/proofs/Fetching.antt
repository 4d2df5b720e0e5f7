-- A node that waits for a sector asks the disk for it, and the answer is the one that it waits for.
use Rattle.std.proofs.Common.{◌≡◌, ℕ, suc, ◌-◌, ◌≤◌, inl, inr, false, not, Option, Some, None, is_none, List, [], ◌∷◌, length, drop, refl, sym, ap, ◌∙◌, arith, eq-eqb}
use Rattle.std.specs.Prelude.{slice_get, ◌==◌}
use Rattle.disk_dcdd.specs.declared.address.SectorAddress.{SectorAddress}
use Rattle.disk_dcdd.proofs.Addresses.{same_address-refl}
use Rattle.i8080_words.specs.declared.refusal.Fault.TheVariants.{NotDue, StaleRead}
use Rattle.log_entry.specs.declared.entry.Entry.TheVariants as entry
use Rattle.pair_events.specs.declared.event.Event.{Event}
use Rattle.pair_events.specs.declared.event.Event.TheVariants.{Fetch, Fetched}
use Rattle.pair_protocol.proofs.Words.{Acts, Backup, Copying, Draining, IsCopying, Lawful, Machine, Node, Reached, Replaying, Role, SectorRead, SectorRecord, Spare, World, fetches, is_role, same_address, sector_record, with_node}
use Rattle.pair_protocol.specs.World.{with_read}
use Rattle.pair_protocol.specs.Effects.{next_read, wanted, wanted_of}
use Rattle.pair_protocol.specs.ReadsKept.{StillReplays}
use Rattle.pair_protocol.specs.Refusals.{at_fetched, fault_if, fetch_refusal, fetched_refusal, first_of, refusal, role_refusal, unwanted}
use Rattle.pair_protocol.specs.Reply.{MessageIs, Taken}
use Rattle.pair_protocol.specs.Rows.{Fetches, TakesFetched}
use Rattle.pair_protocol.proofs.OneNode.{is-at-read}
use Rattle.pair_protocol.proofs.Promises.Faithful.{reached}
use Rattle.pair_protocol.proofs.Promises.NodeStands.{nodes_stand}
use Rattle.pair_protocol.proofs.Traces.Lists.{drop-at, get-at, get_set}
use Rattle.pair_progress.specs.Leads.{Leads}
use Rattle.pair_progress.specs.Takeover.{less_fetched, reads_among, to_fetch}
use Rattle.pair_progress.proofs.Acting.{record_kept}
use Rattle.pair_progress.proofs.Leading.{and_then, one_reaches}
use Rattle.pair_progress.proofs.Passing.{acts_first, acts_later, at_here, in_role, not_spare, passed}
use Rattle.pair_progress.proofs.Replaying.{Far, far}

pub some_of : {A : Type 0} (o : Option A) → is_none o ≡ false → (x : A) × (o ≡ Some x)
some_of None h = absurd (cc)
some_of (Some x) h = (x, refl)

pub wants : (fetched : Option (List ℕ)) (read : Option (ℕ × ℕ × ℕ)) (r : ℕ × ℕ × ℕ) → wanted_of fetched read ≡ Some r →
    (read ≡ Some r) × (fetched ≡ None)
wants None read r h = (h, refl)
wants (Some bytes) read r h = absurd (cc)

-- what a node waits for
pub record Waiting {S : Type 0} (M : Machine S) (y : Node S) : Type 0 where
  pub drive : ℕ
  pub sector : ℕ
  pub number : ℕ
  pub is_wanted : wanted M y ≡ Some (drive, sector, number)
  pub at : slice_get y.held y.replayed ≡ Some (entry.Read (M.count y.machine) drive sector number)
  pub some : 1 ≤ to_fetch y
  pub left : reads_among (drop y.replayed y.held) ≡ to_fetch y

pub waiting : {S : Type 0} (M : Machine S) (y : Node S) → is_none (wanted M y) ≡ false → Waiting M y
waiting {S} M y h =
    let o = some_of (wanted M y) h in
    let read = o.0 in
    let k = wants y.fetched (next_read M y) read o.1 in
    let at = is-at-read (M.count y.machine) read.0 read.1 read.2 (slice_get y.held y.replayed) k.0 in
    let same : reads_among (drop y.replayed y.held) ≡ to_fetch y =
    ap (λ f. less_fetched f (reads_among (drop y.replayed y.held))) (sym k.1) in
    let more : reads_among (drop y.replayed y.held) ≡ suc (reads_among (drop (suc y.replayed) y.held)) =
    ap reads_among (drop-at y.held y.replayed (entry.Read (M.count y.machine) read.0 read.1 read.2) at) in
    record {
      drive = read.0;
      sector = read.1;
      number = read.2;
      is_wanted = o.1;
      at = at;
      some = omega (arith, same, more);
      left = same;
    }

module _ {S : Type 0} (M : Machine S) (C : Copying S) (laws : Lawful M) (copies : IsCopying M C) where
  -- a node that replays goes on as far as it can
  pub far_at : (w : World S) → Reached M C w → (n : ℕ) (x : Node S) → slice_get w.nodes n ≡ Some x → Replaying x.role →
      Far M x
  far_at w r n x there which =
      let s = nodes_stand M C laws copies w r n x there in
      far M laws x (s.machine (inr which)) (s.replayed which) (s.on_trace which)

  module _ (w : World S) (r : Reached M C w) (n : ℕ) (y : Node S) (role : Role) (acts : Acts w n y role)
      (which : Replaying role) (still : StillReplays w n y) (a : Waiting M y) where
    abbrev pub address : SectorAddress
    address = M.address y.machine a.drive a.sector

    abbrev pub here : SectorRecord
    here = sector_record M w.puts address

    -- the world after it has asked, and the world after the answer
    abbrev pub asked : World S
    asked = with_read M w address

    abbrev pub answered : World S
    answered = with_node asked n (fetches y here.bytes)

    real : is_role y.role Spare ≡ false
    real = elim which [
      | inl k ↦ not_spare y.role Backup (acts.role_is ∙ k) refl
      | inr k ↦ not_spare y.role Draining (acts.role_is ∙ k) refl
    ]

    replays : role_refusal (Backup ∷ Draining ∷ []) y ≡ None
    replays = in_role y (Backup ∷ Draining ∷ []) (elim which [
      | inl k ↦ acts_first y Backup (Draining ∷ []) acts.up (acts.role_is ∙ k) refl
      | inr k ↦ acts_later y Backup (Draining ∷ []) (acts_first y Draining [] acts.up (acts.role_is ∙ k) refl)
    ])

    asks : refusal M C w (Fetch n) ≡ None
    asks = at_here (slice_get w.nodes n) y (fetch_refusal M) acts.there real
        (passed (role_refusal (Backup ∷ Draining ∷ []) y) (fault_if (is_none (wanted M y)) NotDue ∷ []) replays
        (ap (λ o. first_of (fault_if (is_none o) NotDue ∷ [])) a.is_wanted))

    asking : Fetches M w n (MessageIs (length w.messages)) asked
    asking = record {
      address = address;
      node = record {
        x = y;
        there = acts.there;
        said = record {
          drive = a.drive;
          sector = a.sector;
          number = a.number;
          read = a.is_wanted;
          address_is = refl;
        };
      };
      reply = refl;
      after = refl;
    }

    then_reached : Reached M C asked
    then_reached = one_reaches M C w asked (Fetch n) (MessageIs (length w.messages)) r asks asking

    message : slice_get asked.messages (length w.messages) ≡ Some (SectorRead address here.number here.bytes)
    message = get-at w.messages [] (SectorRead address here.number here.bytes)

    kept : here.number ≡ a.number
    kept = record_kept M C laws w (reached M C laws copies w r) n y role acts which still a.drive a.sector a.number a.at

    not_unwanted : unwanted M y address here.number (wanted M y) ≡ None
    not_unwanted =
        ap (unwanted M y address here.number) a.is_wanted
        ∙ passed (fault_if (not (same_address address address)) NotDue)
        (fault_if (not (a.number == here.number)) StaleRead ∷ [])
        (ap (λ b. fault_if (not b) NotDue) (same_address-refl address address refl))
        (ap (λ b. first_of (fault_if (not b) StaleRead ∷ [])) (eq-eqb a.number here.number (sym kept)))

    comes : refusal M C asked (Fetched (length w.messages) n) ≡ None
    comes = ap (λ z. at_fetched M (slice_get w.nodes n) z) message
        ∙ at_here (slice_get w.nodes n) y (fetched_refusal M address here.number) acts.there real
        (passed (role_refusal (Backup ∷ Draining ∷ []) y) (unwanted M y address here.number (wanted M y) ∷ []) replays
        (ap (λ o. first_of (o ∷ [])) not_unwanted))

    coming : TakesFetched asked (length w.messages) n Taken answered
    coming = record {
      address = address;
      number = here.number;
      bytes = here.bytes;
      message = message;
      at = record { x = y; there = acts.there; y = fetches y here.bytes; done = refl; after = refl };
      reply = refl;
    }

    pub answered_reached : Reached M C answered
    answered_reached = one_reaches M C asked answered (Fetched (length w.messages) n) Taken then_reached comes coming

    pub answered_there : slice_get answered.nodes n ≡ Some (fetches y here.bytes)
    answered_there = get_set w.nodes n y (fetches y here.bytes) acts.there

    -- one sector fewer is to be fetched
    pub answered_fewer : (k : ℕ) → to_fetch y ≤ suc k → to_fetch (fetches y here.bytes) ≤ k
    answered_fewer k le = let l = a.left in let n = same in omega (arith, le, l, n)
      where
        same : to_fetch (fetches y here.bytes) ≡ reads_among (drop y.replayed y.held) - 1
        same = refl

    pub fetch_first : (Kind : Event → Type 0) (most : ℕ) (End : World S → Type 0) → Kind (Fetch n) →
        ((m : ℕ) → Kind (Fetched m n)) → Leads M C answered Kind most End → Leads M C w Kind (suc (suc most)) End
    fetch_first Kind most End ask come rest =
        and_then M C w Kind (suc most) End asked (Fetch n) (MessageIs (length w.messages)) (λ f. f) ask asks asking
        (and_then M C asked Kind most End answered (Fetched (length w.messages) n) Taken (λ f. f)
        (come (length w.messages)) comes coming rest)
