-- Processes that have booted are a fleet that has.
use Rattle.std.proofs.Common.{ℕ, zero, suc, ◌≡◌, ◌≢◌, ◌+◌, ◌<◌, ◌≤◌, Some, List, [], ◌∷◌, length, arith, refl, sym, ◌∙◌, subst, inl, inr}
use Rattle.std.specs.Prelude.{slice_get}
use Rattle.std.proofs.lemmas.List.{length-append}
use Rattle.std.proofs.lemmas.Option.{slice_get_within}
use Rattle.guest_lockstep.specs.Machine.{Machine}
use Rattle.guest_lockstep.specs.declared.reads.Reads.TheVariants.{Shared}
use Rattle.guest_parts.specs.Guest.{Guest}
use Rattle.host_calls.specs.Follows as follows
use Rattle.host_law.specs.Fleet.{booted, with_spares}
use Rattle.host_law.specs.Frame as law
use Rattle.host_law.specs.Outside.{at_first}
use Rattle.host_node.specs.Hosts.{HasJoined, HasNode}
use Rattle.host_node.specs.declared.host.HostNode.{HostNode}
use Rattle.host_node.specs.declared.host.Hosted.TheVariants as hosted
use Rattle.outside_switch.specs.Shown.{Shows}
use Rattle.outside_switch.proofs.Passing.{none_passed}
use Rattle.outside_switch.proofs.Running.{begins}
use Rattle.outside_switch.specs.Lines.{number_at}
use Rattle.pair_protocol.proofs.Traces.Lists.{get-at, get-longer, le-cases}
use Rattle.pair_protocol.specs.Copying.{Copying}
use Rattle.pair_protocol.specs.Lawful.{Among}
use Rattle.pair_protocol.specs.Node.{Node, Primary, Backup, Role, Spare, first_node, spare}
use Rattle.pair_protocol.specs.World.{World, opening, with_host}
use Rattle.command_console.proofs.Fleets.{nothing_happened}
use Rattle.command_console.proofs.Standing.{AllSaid, HostStands, Stands}
use Rattle.command_console.specs.Processes.{BeginsAs, HasBooted, HaveBooted, Processes}

-- ---- the fleet

module _ {S : Type 0} (M : Machine S) where
  pub spares_many : (k : ℕ) (w : World S) → length (with_spares M k w).nodes ≡ length w.nodes + k
  spares_many zero w = omega arith
  spares_many (suc k) w =
      let rest = spares_many k (with_host M w) in
      let one = length-append w.nodes (spare M ∷ []) in
      omega (arith, rest, one)

  -- those that were there are there
  spares_before : (k : ℕ) (w : World S) (n : ℕ) (x : Node S) → slice_get w.nodes n ≡ Some x →
      slice_get (with_spares M k w).nodes n ≡ Some x
  spares_before zero w n x there = there
  spares_before (suc k) w n x there =
      spares_before k (with_host M w) n x (get-longer w.nodes (spare M ∷ []) n x there)

  -- and the others are spare
  spares_after : (k : ℕ) (w : World S) (n : ℕ) → length w.nodes ≤ n → n < length w.nodes + k →
      slice_get (with_spares M k w).nodes n ≡ Some (spare M)
  spares_after zero w n past low = absurd (omega (arith, past, low))
  spares_after (suc k) w n past low = elim (le-cases (length w.nodes) n past) [
    | inl more ↦ (let one = length-append w.nodes (spare M ∷ []) in
        spares_after k (with_host M w) n (omega (arith, one, more)) (omega (arith, one, low)))
    | inr same ↦ spares_before k (with_host M w) n (spare M)
        (subst (λ i. slice_get (with_host M w).nodes i ≡ Some (spare M)) same (get-at w.nodes [] (spare M)))
  ]

  pub first_there : (k : ℕ) → slice_get (booted M Shared k).hosts 0 ≡ Some (first_node M Shared Primary)
  first_there k = spares_before k (opening M Shared) 0 (first_node M Shared Primary) refl

  pub second_there : (k : ℕ) → slice_get (booted M Shared k).hosts 1 ≡ Some (first_node M Shared Backup)
  second_there k = spares_before k (opening M Shared) 1 (first_node M Shared Backup) refl

  pub spare_there : (k n : ℕ) → 2 ≤ n → n < 2 + k → slice_get (booted M Shared k).hosts n ≡ Some (spare M)
  spare_there k n past low = spares_after k (opening M Shared) n past low

-- ---- its hosts

nothing_said : (drives n : ℕ) (frames : List law.Frame) (gone : List (List ℕ)) → gone ≡ [] → AllSaid drives n frames gone
nothing_said drives n frames gone none bytes among = absurd (subst (λ l. Among bytes l) none among)

module _ {B S : Type 0} {H : Type 0} (state : B → S) (M : Machine S) (copied : B → Guest) (C : Copying S) (drives spares : ℕ)
    (num : ℕ → ℕ) where
  -- a host of generation 1
  first_stands : (place : ℕ) (role : Role) (h : HostNode B H) → role ≢ Spare → num place ≡ place →
      slice_get (booted M Shared spares).hosts place ≡ Some (first_node M Shared role) →
      BeginsAs state M C drives place role h → h.drives ≡ drives → h.mail.gone ≡ [] →
      HostStands drives num state M copied C (booted M Shared spares) (num place) h
  first_stands place role h other is there b drives_are gone = record {
    x = first_node M Shared role;
    there = subst (λ n. slice_get (booted M Shared spares).hosts n ≡ Some (first_node M Shared role)) (sym is) there;
    is = subst (λ t. HasNode state M C drives h.number (num place) t (first_node M Shared role)) (sym b.has)
        (b.number ∙ sym is, record { y = first_node M Shared role; follows = follows.Same; is = b.is; other = other; reads = refl });
    drives_are = drives_are;
    number = λ joined. b.number ∙ sym is;
    said = nothing_said drives (num place) (booted M Shared spares).sent h.mail.gone gone;
  }

  spare_stands : (n : ℕ) (h : HostNode B H) (callbacks : H) → 2 ≤ n → n < 2 + spares → h.node ≡ hosted.Spare callbacks →
      h.drives ≡ drives → h.mail.gone ≡ [] → HostStands drives num state M copied C (booted M Shared spares) n h
  spare_stands n h callbacks past low has drives_are gone = record {
    x = spare M;
    there = spare_there M spares n past low;
    is = subst (λ t. HasNode state M C drives h.number n t (spare M)) (sym has) refl;
    drives_are = drives_are;
    number = λ joined. absurd (subst (λ t. HasJoined t) has joined);
    said = nothing_said drives n (booted M Shared spares).sent h.mail.gone gone;
  }

  module _ (p : Processes B H) (b : HaveBooted state M C drives p)
      (fits : (place n : ℕ) → number_at p.outside.lines place ≡ Some n → num place ≡ n)
      (apart : (m n : ℕ) → num m ≡ num n → m ≡ n)
      (low : (place : ℕ) → place < length p.hosts → num place < 2 + spares) where
    -- the places of generation 1 have their own numbers
    zero_is : 0 < length p.hosts → num 0 ≡ 0
    zero_is there = fits 0 0 (b.outside.numbers 0 there)

    one_is : 1 < length p.hosts → num 1 ≡ 1
    one_is there = fits 1 1 (b.outside.numbers 1 there)

    -- and no other has
    past_first : (place : ℕ) → suc (suc place) < length p.hosts → 2 ≤ num (suc (suc place))
    past_first place there = go (num (suc (suc place))) refl
      where
        go : (n : ℕ) → num (suc (suc place)) ≡ n → 2 ≤ n
        go zero e = absurd (let same = apart (suc (suc place)) 0 (e ∙ sym (zero_is (omega (arith, there)))) in omega (arith, same))
        go (suc zero) e =
            absurd (let same = apart (suc (suc place)) 1 (e ∙ sym (one_is (omega (arith, there)))) in omega (arith, same))
        go (suc (suc n)) e = omega arith

    at_boot : (place : ℕ) (h : HostNode B H) → place < length p.hosts → HasBooted state M C drives place h →
        HostStands drives num state M copied C (booted M Shared spares) (num place) h
    at_boot zero h there is =
        first_stands 0 Primary h (λ e. cc) (zero_is there) (first_there M spares) is.begins is.drives_are is.gone
    at_boot (suc zero) h there is =
        first_stands 1 Backup h (λ e. cc) (one_is there) (second_there M spares) is.begins is.drives_are is.gone
    at_boot (suc (suc place)) h there is =
        spare_stands (num (suc (suc place))) h is.begins.0 (past_first place there) (low (suc (suc place)) there) is.begins.1
        is.drives_are is.gone

    pub boot_stands : Stands drives num state M copied C (booted M Shared spares) (length (booted M Shared spares).hosts) [] p
    boot_stands = record {
      deeds = [];
      fleet = booted M Shared spares;
      happened = nothing_happened M C (booted M Shared spares);
      shows = subst (λ d. Shows M drives d (at_first (length (booted M Shared spares).hosts))) (sym b.outside.devices)
          (begins S M drives b.outside.records b.outside.may_fail (length (booted M Shared spares).hosts) b.outside.disk
          (let many = spares_many M spares (opening M Shared) in omega (arith, many)));
      counts = refl;
      passes = none_passed (booted M Shared spares).outside (booted M Shared spares).outside refl;
      hosts = λ place h at. at_boot place h (slice_get_within p.hosts place h at) (b.hosts place h at);
      pushed = λ x among. absurd (subst (λ l. Among x l) b.pushed among);
    }
