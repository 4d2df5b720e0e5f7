-- The node that settles is the winner of the highest generation, or its backup if nobody has won; its host has the list
-- and the count.
use Rattle.ft_world.proofs.Words.{Agree, Alone, Backup, Copying, Course, Draining, Guest, Host, IsHost, Joining, Machine, Node, Primary, Record, Role, Running, Settled, Settles, Shows, Spare, Station, always_faithful, count_in, list_of, machine_of, winner_in, winner_of}
use Rattle.std.proofs.Common.{◌≡◌, ◌∙◌, List, None, Some, ap, inl, inr, refl, subst, sym, ℕ}
use Rattle.std.specs.Prelude.{Option, slice_get, unwrap_or}
use Rattle.guest_lockstep.specs.declared.timed.Timed.{Timed}
use Rattle.ft_world.specs.declared.host.Host.TheVariants as host

count_same : {S : Type 0} (M : Machine S) (c : Course S) (x : Node S) (role : Role) →
    count_in (machine_of M c) x role ≡ count_in M x role
count_same M c x Primary = refl
count_same M c x Backup = refl
count_same M c x Joining = refl
count_same M c x Draining = refl
count_same M c x Alone = refl
count_same M c x Spare = refl

-- the host of a node that has a role is a station with its list and its count
at_station : {B H S : Type 0} (state : B → S) (M : Machine S) (C : Copying S) (drives : ℕ) (here : Option (Host B H)) (there : Option (Node S))
    (x : Node S) (list : List Timed) (count : ℕ) → Agree (IsHost state M C drives) here there → there ≡ Some x →
    (x.role ≡ Spare → ⊥) →
    ((station : Station B H) → here ≡ Some (host.Node station) →
    (list ≡ station.inputs) × (count ≡ station.count)) →
    (list_of x x.role ≡ list) × (count_in M x x.role ≡ count)
at_station {B} {H} state M C drives (Some (host.Node station)) there x list count agree e a_node tells =
    let is = subst (λ q. Agree (IsHost {B = B} {H = H} state M C drives) (Some (host.Node station)) q) e agree in
    let told = tells station refl in
    (sym is.inputs ∙ sym told.0, sym is.count ∙ sym told.1)
at_station {B} {H} state M C drives (Some (host.Spare resources)) there x list count agree e a_node tells =
    absurd (a_node (subst (λ q. Agree (IsHost {B = B} {H = H} state M C drives) (Some (host.Spare resources)) q) e agree))
at_station {B} {H} state M C drives None there x list count agree e a_node tells =
    absurd (subst (λ q. Agree (IsHost {B = B} {H = H} state M C drives) None q) e agree)

-- it is the node that the code finds
who_settles : {B H D S : Type 0} (state : B → S) (copied : B → Guest) (M : Machine S) (records : D → List Record) (old : Running B H D)
    (c : Course S) (node n : ℕ) (x : Node S) → Shows state copied M records old c → Settles c.world n x →
    node ≡ unwrap_or (winner_of old.askings old.generation) old.backup → node ≡ n
who_settles state copied M records old c node n x h s found =
    let same : x.generation ≡ old.generation = s.highest_is ∙ sym h.parts.generation in
    elim s.who [
      | inl won ↦ found ∙ ap (λ o. unwrap_or o old.backup)
          (h.parts.winners old.generation ∙ subst (λ g. winner_in c.world.winners g ≡ Some n) same won)
      | inr none ↦ found ∙ ap (λ o. unwrap_or o old.backup)
          (h.parts.winners old.generation ∙ subst (λ g. winner_in c.world.winners g ≡ None) same none.0)
          ∙ sym (h.parts.backup n x s.there same none.1)
    ]

pub settled_is : {B H D S : Type 0} (state : B → S) (copied : B → Guest) (M : Machine S) (records : D → List Record) (old : Running B H D)
    (c : Course S) (node : ℕ) (list : List Timed) (count : ℕ) → Shows state copied M records old c →
    node ≡ unwrap_or (winner_of old.askings old.generation) old.backup →
    ((station : Station B H) → slice_get old.hosts node ≡ Some (host.Node station) →
    (list ≡ station.inputs) × (count ≡ station.count)) →
    Settled (machine_of M c) c.world list count
settled_is {B} state copied M records old c node list count h found tells =
    let N = machine_of M c in
    let f = (always_faithful N c.copying h.machine.lawful h.machine.copies c.world h.reached).settled in
    let same = who_settles state copied M records old c node f.n f.x h f.settles found in
    let here = at_station state M c.copying h.drives (slice_get old.hosts f.n) (slice_get c.world.nodes f.n) f.x list count
    (h.parts.hosts f.n) f.settles.there f.settles.a_node
    (λ station e. tells station (subst (λ k. slice_get old.hosts k ≡ Some (host.Node station)) (sym same) e)) in
    record {
      n = f.n;
      x = f.x;
      settles = f.settles;
      list_is = here.0;
      count_is = count_same M c f.x f.x.role ∙ here.1;
    }
