-- A generation begins with a spare host: why the hosts may refuse that, and the hosts after it.
use Rattle.std.proofs.Common.{◌≡◌, ◌∙◌, ◌∷◌, [], ◌<◌, ℕ, zero, suc, Err, List, None, Ok, Option, Result, Some, ap, arith, inl, inr, refl, subst, sym}
use Rattle.std.proofs.lemmas.List.{length-map, length-set}
use Rattle.std.specs.List.{insert, remove}
use Rattle.std.specs.Option.{option_map}
use Rattle.std.specs.Prelude.{length, map, slice_get, slice_set}
use Rattle.pair_protocol.proofs.Traces.Lists.{get_set_cases}
use Rattle.ft_world.proofs.Words.{Event, Fault, HasJoined, HasSpare, Host, JoinsHosts, Machine, Opening, Reply, SpareHostsStay, SparesAfter, SparesLeft, Station, Unknown, WithStation, WrongRole, answered, get_set_other, host_refusal, spare_of}
use Rattle.pair_events.specs.declared.event.Event.TheVariants as event
use Rattle.ft_world.specs.declared.host.Host.TheVariants as host

-- what is taken out and put back has replaced it
pub put_in_place : {A : Type 0} (xs : List A) (n : ℕ) (y : A) → n < length xs
    → insert (remove xs n) n y ≡ slice_set xs n y
put_in_place [] n y e = absurd (omega (arith, e))
put_in_place (x ∷ xs) zero y e = refl
put_in_place (x ∷ xs) (suc n) y e = ap (λ rest. x ∷ rest) (put_in_place xs n y (omega (arith, e)))

-- only that host is no longer spare
pub spares_less : {B H : Type 0} (hosts : List (Host B H)) (n : ℕ) (station : Station B H)
    → map (spare_of {B = B} {H = H}) (slice_set hosts n (host.Node station))
    ≡ slice_set (map (spare_of {B = B} {H = H}) hosts) n None
spares_less [] n station = refl
spares_less (x ∷ hosts) zero station = refl
spares_less {B} {H} (x ∷ hosts) (suc n) station =
    ap (λ rest. spare_of {B = B} {H = H} x ∷ rest) (spares_less hosts n station)

-- a host that has joined is spare no more, and the others are as they were
pub spares_after : {B H S : Type 0} (state : B → S) (M : Machine S) (old lent new : List (Host B H)) (n at : ℕ)
    (s : Station B H) (opening : Opening) → WithStation old n s lent → JoinsHosts state M lent at opening new
    → map (spare_of {B = B} {H = H}) new ≡ slice_set (map (spare_of {B = B} {H = H}) old) at None
spares_after {B} {H} state M old lent new n at s opening w j =
    ap (map (spare_of {B = B} {H = H})) j.put ∙ go j.joined j.is ∙ ap (λ spares. slice_set spares at None) w.spares
  where
    go : (joined : Host B H) → HasJoined state M opening joined
        → map (spare_of {B = B} {H = H}) (slice_set lent at joined)
        ≡ slice_set (map (spare_of {B = B} {H = H}) lent) at None
    go (host.Node station) is = spares_less lent at station
    go (host.Spare resources) is = absurd is

-- what the check of the hosts says, as a refusal
pub check_refused : (o : Option Fault) (fault : Fault) → Err fault ≡ answered o → o ≡ Some fault
check_refused None fault e = absurd (cc)
check_refused (Some k) fault e = let same : k ≡ fault = (cc) in ap Some same

-- what the hosts tell: there is no such host, the host has a role, or it is spare
module _ {B H : Type 0} (there here : Option (Host B H)) where
  pub check_absent : there ≡ None → ◌≡◌ {A = Result (Unit {0}) Fault} (Err Unknown) (answered (host_refusal there here))
  check_absent none = ap (λ o. answered (host_refusal o here)) (sym none)

  pub check_role : (station node : Station B H) → there ≡ Some (host.Node station) → here ≡ Some (host.Node node)
      → ◌≡◌ {A = Result (Unit {0}) Fault} (Err WrongRole) (answered (host_refusal there here))
  check_role station node is at = ap (λ o. answered (host_refusal (Some (host.Node station)) o)) (sym at)
      ∙ ap (λ o. answered (host_refusal o here)) (sym is)

  pub check_spare : (resources : H) (node : Station B H) → there ≡ Some (host.Spare resources)
      → here ≡ Some (host.Node node) → ◌≡◌ {A = Result (Unit {0}) Fault} (Ok tt) (answered (host_refusal there here))
  check_spare resources node is at = ap (λ o. answered (host_refusal (Some (host.Spare resources)) o)) (sym at)
      ∙ ap (λ o. answered (host_refusal o here)) (sym is)

-- nothing refuses it: the host is spare, and the node is one
pub record Pairs {B H : Type 0} (a here : Option (Host B H)) : Type 0 where
  pub resources : H
  pub spare : a ≡ Some (host.Spare resources)
  pub station : Station B H
  pub node : here ≡ Some (host.Node station)

pub pairs : {B H : Type 0} (a here : Option (Host B H)) → host_refusal a here ≡ None → Pairs a here
pairs None here e = absurd (cc)
pairs (Some a) None e = absurd (cc)
pairs (Some a) (Some (host.Spare resources)) e = absurd (cc)
pairs (Some (host.Node other)) (Some (host.Node station)) e = absurd (cc)
pairs (Some (host.Spare resources)) (Some (host.Node station)) e =
    record { resources = resources; spare = refl; station = station; node = refl }

-- the host is still spare once the node's station was lent
pub spare_still : {B H : Type 0} (old lent : List (Host B H)) (n at : ℕ) (s : Station B H)
    → host_refusal (slice_get old at) (slice_get old n) ≡ None → WithStation old n s lent → HasSpare lent at
spare_still {B} {H} old lent n at s free w =
    let p = pairs (slice_get old at) (slice_get old n) free in (
      p.resources,
      subst (λ hosts. slice_get hosts at ≡ Some (host.Spare p.resources)) (sym w.put)
          (get_set_other old n at (host.Node s) (λ e. (let k = ap (slice_get old) e in absurd (cc))) ∙ p.spare),
    )

-- ---- after a list of events

module _ {B H : Type 0} where
  spare_at : (hosts : List (Host B H)) (n : ℕ) (resources : H)
      → slice_get (map (spare_of {B = B} {H = H}) hosts) n ≡ Some (Some resources)
      → slice_get hosts n ≡ Some (host.Spare resources)
  spare_at [] n resources e = (cc)
  spare_at (host.Node station ∷ hosts) zero resources e = (cc)
  spare_at (host.Spare other ∷ hosts) zero resources e = (cc)
  spare_at (x ∷ hosts) (suc n) resources e = spare_at hosts n resources e

  at_spare : (hosts : List (Host B H)) (n : ℕ) (resources : H) → slice_get hosts n ≡ Some (host.Spare resources)
      → slice_get (map (spare_of {B = B} {H = H}) hosts) n ≡ Some (Some resources)
  at_spare [] n resources e = (cc)
  at_spare (x ∷ hosts) zero resources e = ap (option_map (spare_of {B = B} {H = H})) e
  at_spare (x ∷ hosts) (suc n) resources e = at_spare hosts n resources e

  -- what is spare afterwards was spare, with the same resources
  same_left : (old new : List (Host B H)) → SpareHostsStay old new → SparesLeft old new
  same_left old new stay = record {
    count = sym (length-map new (spare_of {B = B} {H = H})) ∙ ap length stay ∙ length-map old (spare_of {B = B} {H = H});
    same = λ n resources e. spare_at old n resources
        (ap (λ spares. slice_get spares n) (sym stay) ∙ at_spare new n resources e);
  }

  less_left : (old new : List (Host B H)) (at : ℕ)
      → map (spare_of {B = B} {H = H}) new ≡ slice_set (map (spare_of {B = B} {H = H}) old) at None
      → SparesLeft old new
  less_left old new at less = record {
    count = sym (length-map new (spare_of {B = B} {H = H})) ∙ ap length less ∙ length-set (map (spare_of {B = B} {H = H}) old) at None
        ∙ length-map old (spare_of {B = B} {H = H});
    same = λ n resources e. spare_at old n resources
        (still n resources (ap (λ spares. slice_get spares n) (sym less) ∙ at_spare new n resources e));
  }
    where
      still : (n : ℕ) (resources : H)
          → slice_get (slice_set (map (spare_of {B = B} {H = H}) old) at None) n ≡ Some (Some resources)
          → slice_get (map (spare_of {B = B} {H = H}) old) n ≡ Some (Some resources)
      still n resources e = elim (get_set_cases (map (spare_of {B = B} {H = H}) old) at n None (Some resources) e) [
        | inl p ↦ absurd (let k = p.1 in (cc))
        | inr q ↦ q
      ]

  pub left_here : (hosts : List (Host B H)) → SparesLeft hosts hosts
  left_here hosts = record { count = refl; same = λ n resources e. e }

  pub left_then : {old mid new : List (Host B H)} → SparesLeft old mid → SparesLeft mid new → SparesLeft old new
  left_then a b = record {
    count = b.count ∙ a.count;
    same = λ n resources e. a.same n resources (b.same n resources e);
  }

  -- only an event that begins a generation takes a spare host
  pub after_event : (e : Event) (answer : Result Reply Fault) (old new : List (Host B H))
      → SparesAfter e answer old new → SparesLeft old new
  after_event (event.BeginPair n at) (Ok r) old new h = less_left old new at h
  after_event e answer old new h = same_left old new h
