-- A live node begins a generation with a spare host, which is then sent all parts of its image.
use Rattle.std.proofs.Common.{◌≡◌, ℕ, zero, suc, ◌+◌, ◌*◌, ◌<◌, not, Some, None, [], ◌∷◌, replicate, refl, sym, ap, ◌∙◌, arith}
use Rattle.std.specs.Prelude.{slice_get, slice_set, nat_le}
use Rattle.i8080_words.specs.declared.refusal.Fault.TheVariants.{Spent, WrongRole}
use Rattle.pair_events.specs.declared.event.Event.{Event}
use Rattle.pair_events.specs.declared.event.Event.TheVariants.{BeginPair, PartComes, SendPart}
use Rattle.pair_protocol.proofs.Words.{Acts, Alone, Copying, IsCopying, Lawful, Machine, Makes, Node, Reached, Spare, World, begun, gathered, is_role, joiner, winner_in, with_pair}
use Rattle.pair_protocol.specs.Refusals.{at_host, begin_pair_refusal, fault_if, first_of, last_generation, pair_refusal, refusal, role_refusal}
use Rattle.pair_protocol.specs.Reply.{GenerationIs}
use Rattle.pair_protocol.specs.Rows.{BeginsPair}
use Rattle.pair_protocol.proofs.Invariant.{Inv, Unseen}
use Rattle.pair_protocol.proofs.Promises.Faithful.{reached}
use Rattle.pair_protocol.proofs.Traces.Lists.{get_set, get_set_other, same_some}
use Rattle.pair_progress.specs.Always.{AsksParts}
use Rattle.pair_progress.specs.CatchingUp.{IsPair}
use Rattle.pair_progress.specs.Leads.{Leads}
use Rattle.pair_progress.specs.Renewal.{HasBegun, IsOfParts, IsRenewal, Renews, missing}
use Rattle.pair_progress.specs.Takeover.{IsLive}
use Rattle.pair_progress.proofs.Completing.{not_up_to}
use Rattle.pair_progress.proofs.Imaged.{unseen_next}
use Rattle.pair_progress.proofs.Joining.{hosts_join}
use Rattle.pair_progress.proofs.Leading.{and_then, as_kind, at_most, one_reaches}
use Rattle.pair_progress.proofs.Passing.{acts_first, at_here, in_role, not_spare, passed}
use Rattle.pair_progress.proofs.Slots.{all_missing}

-- what is sent and arrives is of a renewal
of_parts : (n host : ℕ) (e : Event) → IsOfParts n host e → IsRenewal n host e
of_parts n host (SendPart a index) k = k
of_parts n host (PartComes message b) k = k
of_parts n host e k = absurd k

pub none_yet : (k : ℕ) → 0 < k → gathered (replicate k None) ≡ None
none_yet zero some = absurd (omega (arith, some))
none_yet (suc k) some = refl

module _ {S : Type 0} (M : Machine S) (C : Copying S) (laws : Lawful M) (copies : IsCopying M C) (makes : Makes M C)
    (some : 0 < C.part_count) (w : World S) (r : Reached M C w) (n host generation : ℕ) (live : IsLive w n generation)
    (left : generation < last_generation) (y : Node S) (spare : slice_get w.nodes host ≡ Some y) (role : y.role ≡ Spare) where
  abbrev i : Inv M C w
  i = reached M C laws copies w r

  apart_hosts : n ≡ host → ⊥
  apart_hosts same =
      let e : live.x ≡ y =
      same_some live.x y (slice_get w.nodes n) live.there (ap (slice_get w.nodes) same ∙ spare) in
      let k : Alone ≡ Spare = sym live.alone ∙ ap (λ (z : Node S). z.role) e ∙ role in
      (cc)

  abbrev begun_world : World S
  begun_world = with_pair M C w n host live.x

  may_begin : refusal M C w (BeginPair n host) ≡ None
  may_begin = ap (λ z. at_host z (slice_get w.nodes n)) spare
      ∙ at_here (slice_get w.nodes n) live.x (pair_refusal y) live.there (not_spare live.x.role Alone live.alone refl)
      (passed (fault_if (not (is_role y.role Spare)) WrongRole) (begin_pair_refusal live.x ∷ [])
      (ap (λ q. fault_if (not (is_role q Spare)) WrongRole) role)
      (passed (begin_pair_refusal live.x) []
      (passed (role_refusal (Alone ∷ []) live.x) (fault_if (nat_le last_generation live.x.generation) Spent ∷ [])
      (in_role live.x (Alone ∷ []) (acts_first live.x Alone [] live.up live.alone refl))
      (ap (λ b. first_of (fault_if b Spent ∷ []))
      (not_up_to last_generation live.x.generation (let g = live.generation_is in omega (arith, g, left))))) refl))

  begins : BeginsPair M C w n host (GenerationIs (suc live.x.generation)) begun_world
  begins = record { x = live.x; there = live.there; y = y; spare = spare; reply = refl; after = refl }

  acts : Acts w n live.x Alone
  acts = record { there = live.there; up = live.up; role_is = live.alone }

  unseen : Unseen w.nodes w.messages w.winners (suc live.x.generation)
  unseen = unseen_next M C w i n live.x acts

  abbrev has_begun : HasBegun begun_world n host (suc generation)
  has_begun = record {
    x = begun M live.x;
    y = joiner M C live.x;
    primary = get_set_other (slice_set w.nodes n (begun M live.x)) host n (joiner M C live.x) apart_hosts
        ∙ get_set w.nodes n live.x (begun M live.x) live.there;
    joining = get_set (slice_set w.nodes n (begun M live.x)) host y (joiner M C live.x)
        (get_set_other w.nodes n host (begun M live.x) (λ same. apart_hosts (sym same)) ∙ spare);
    primary_up = refl;
    joining_up = refl;
    primary_role = refl;
    joining_role = refl;
    primary_generation = ap (λ k. suc k) live.generation_is;
    joining_generation = ap (λ k. suc k) live.generation_is;
    undecided = ap (λ k. winner_in w.winners (suc k)) (sym live.generation_is) ∙ unseen.no_winner;
    lacks_some = none_yet C.part_count some;
  }

  filled : Leads M C begun_world (IsOfParts n host) (2 * missing (replicate C.part_count None))
      (λ new. IsPair new n host (suc generation))
  filled = hosts_join M C laws copies makes n host (suc generation) begun_world
      (one_reaches M C w begun_world (BeginPair n host) (GenerationIs (suc live.x.generation)) r may_begin begins) has_begun

  pub renewed : Leads M C w (IsRenewal n host) (2 * C.part_count + 1) (λ new. IsPair new n host (suc generation))
  renewed =
      let k = all_missing C.part_count in
      at_most M C w (IsRenewal n host) (suc (2 * missing (replicate C.part_count None)))
      (λ new. IsPair new n host (suc generation)) (2 * C.part_count + 1) (omega (arith, k))
      (and_then M C w (IsRenewal n host) (2 * missing (replicate C.part_count None))
      (λ new. IsPair new n host (suc generation)) begun_world
      (BeginPair n host) (GenerationIs (suc live.x.generation)) (λ f. f) (refl, refl) may_begin begins
      (as_kind M C begun_world (IsOfParts n host) (IsRenewal n host) (2 * missing (replicate C.part_count None))
      (λ new. IsPair new n host (suc generation)) (of_parts n host) filled))

pub renews : {S : Type 0} (M : Machine S) (C : Copying S) → Lawful M → IsCopying M C → AsksParts M C → (w : World S) →
    Reached M C w → Renews M C w
renews M C laws copies asks w r n host generation live left y spare role =
    renewed M C laws copies asks.0 asks.1 w r n host generation live left y spare role
