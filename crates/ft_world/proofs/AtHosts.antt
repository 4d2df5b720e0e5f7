-- What an event does at one host is what it does at its station: every other host stays, and so does every other node.
use Rattle.ft_world.proofs.Words.{Agree, Alone, AreHosts, Ask, Asking, Backup, Call, Copying, Course, Draining, Fault, Gives, Guest, HasNoNode, Host, IsHost, IsNode, IsStation, Joining, Machine, Makes, Node, OfNode, Primary, Record, Role, Running, Shows, Spare, Station, Suspects, SuspectsOf, Unknown, Unless, WithStation, Won, World, at_node, get_set, get_set_other, halts, is_role, same_or_not, set_get, suspect_refusal, winner_of, wins}
use Rattle.std.proofs.Common.{◌≡◌, ℕ, List, Err, None, Ok, Option, Result, Some, inl, inr, refl, subst, sym}
use Rattle.std.specs.Prelude.{slice_get, slice_set, if◌then◌else◌}
use Rattle.ft_world.specs.declared.host.Host.TheVariants as host
use Rattle.ft_world.proofs.Answering.{asked, unless}

-- the node of a number becomes another one, and every other host stays
pub record Becomes {B H S : Type 0} (state : B → S) (M : Machine S) (C : Copying S) (drives : ℕ) (nodes : List (Node S)) (n : ℕ)
    (new : List (Host B H)) (does : Node S → Node S → Type 0) : Type 0 where
  pub x : Node S
  pub there : slice_get nodes n ≡ Some x
  pub y : Node S
  pub done : does x y
  pub after : AreHosts state M C drives new (slice_set nodes n y)

-- a call of the node of a number: what it returns, and what the hosts are then
pub record AtHost {A B H S : Type 0} (state : B → S) (M : Machine S) (C : Copying S) (drives : ℕ) (w : World S) (n : ℕ)
    (part : Node S → Option Fault) (needs : Node S → Type 0) (does : A → Node S → Node S → Type 0)
    (result : Result A Fault) (new : List (Host B H)) : Type 0 where
  pub answer :
      Unless (at_node (slice_get w.nodes n) part) result (AreHosts state M C drives new w.nodes)
      (Gives result (OfNode w n needs × AreHosts state M C drives new w.nodes)
      (λ value. Becomes state M C drives w.nodes n new (does value)))

-- a node is asked, and stays as it is
pub record AsksNode {A S : Type 0} (w : World S) (n : ℕ) (part : Node S → Option Fault) (needs : Node S → Type 0)
    (says : A → Node S → Type 0) (result : Result A Fault) : Type 0 where
  pub answer :
      Unless (at_node (slice_get w.nodes n) part) result (Unit {0})
      (Gives result (OfNode w n needs) (λ value. OfNode w n (says value)))

-- the refusal of the node's part, or what asking the arbiter does there
pub record Asked {B H S : Type 0} (state : B → S) (M : Machine S) (C : Copying S) (drives : ℕ) (nodes : List (Node S)) (n : ℕ) (old : List Asking)
    (result : Result Won Fault) (hosts : List (Host B H)) (new : List Asking) : Type 0 where
  pub x : Node S
  pub there : slice_get nodes n ≡ Some x
  pub answer : SuspectsOf (winner_of old x.generation) old n x result new
      (λ y. AreHosts state M C drives hosts (slice_set nodes n y))

abbrev pub AsksHost : {B H S : Type 0} → (B → S) → Machine S → Copying S → ℕ → List (Node S) → ℕ → List Asking → Result Won Fault
    → List (Host B H) → List Asking → Type 0
AsksHost state M C drives nodes n old result hosts new =
    Unless (at_node (slice_get nodes n) suspect_refusal) result (AreHosts state M C drives hosts nodes × (new ≡ old))
    (Asked state M C drives nodes n old result hosts new)

-- ---- from a station to the hosts

pub not_spare : {S : Type 0} (x : Node S) (part : Node S → Option Fault) → (x.role ≡ Spare → ⊥)
    → part x ≡ at_node (Some x) part
not_spare x part a = go x.role a
  where
    go : (q : Role) → (q ≡ Spare → ⊥) → part x ≡ (if is_role q Spare then Some Unknown else part x)
    go Primary a = refl
    go Backup a = refl
    go Joining a = refl
    go Draining a = refl
    go Alone a = refl
    go Spare a = absurd (a refl)

module _ {B H S : Type 0} (state : B → S) (M : Machine S) (C : Copying S) (drives : ℕ) (hosts : List (Host B H)) (nodes : List (Node S)) (n : ℕ)
    (are : AreHosts state M C drives hosts nodes) where
  pub with_host : (h new : Host B H) (x y : Node S) → slice_get hosts n ≡ Some h → slice_get nodes n ≡ Some x
      → IsHost state M C drives new y → AreHosts state M C drives (slice_set hosts n new) (slice_set nodes n y)
  with_host h new x y at there is = λ m. elim (same_or_not m n) [
    | inl e ↦ subst
        (λ k. Agree (IsHost {H = H} state M C drives) (slice_get (slice_set hosts n new) k) (slice_get (slice_set nodes n y) k))
        (sym e)
        (subst (λ o. Agree (IsHost {H = H} state M C drives) o (slice_get (slice_set nodes n y) n))
        (sym (get_set hosts n h new at))
        (subst (λ o. Agree (IsHost {H = H} state M C drives) (Some new) o) (sym (get_set nodes n x y there)) is))
    | inr other ↦ subst (λ o. Agree (IsHost {H = H} state M C drives) o (slice_get (slice_set nodes n y) m))
        (sym (get_set_other hosts n m new other))
        (subst (λ o. Agree (IsHost {H = H} state M C drives) (slice_get hosts m) o) (sym (get_set_other nodes n m y other)) (are
        m))
  ]

  -- what the node's part returns at a station is what it returns at the number of that station
  at_station : {A : Type 0} (h : Station B H) (part : Node S → Option Fault) (result : Result A Fault) (P D : Type 0)
      → slice_get hosts n ≡ Some (host.Node h)
      → ((x : Node S) → slice_get nodes n ≡ Some x → IsStation state M C drives h x → Unless (part x) result P D)
      → Unless (at_node (slice_get nodes n) part) result P D
  at_station h part result P D at says =
      go (slice_get nodes n) refl (subst (λ o. Agree (IsHost {H = H} state M C drives) o (slice_get nodes n)) at (are n))
    where
      go : (o : Option (Node S)) → slice_get nodes n ≡ o → Agree (IsHost {H = H} state M C drives) (Some (host.Node h)) o
          → Unless (at_node o part) result P D
      go None e is = absurd is
      go (Some x) e is = subst (λ r. Unless r result P D) (not_spare x part is.a_node) (says x e is)

  -- no node has this number
  at_nobody : (A : Type 0) (part : Node S → Option Fault) (P D : Type 0) → HasNoNode hosts n → P
      → Unless {A = A} (at_node (slice_get nodes n) part) (Err Unknown) P D
  at_nobody A part P D none p = go (slice_get hosts n) (slice_get nodes n) refl (are n)
    where
      go : (h : Option (Host B H)) (o : Option (Node S)) → slice_get hosts n ≡ h → Agree (IsHost {H = H} state M C drives) h o
          → Unless {A = A} (at_node o part) (Err Unknown) P D
      go None None e is = (refl, p)
      go None (Some x) e is = absurd is
      go (Some h) None e is = absurd is
      go (Some (host.Node h)) (Some x) e is = absurd (none h e)
      go (Some (host.Spare resources)) (Some x) e is =
          subst (λ q. Unless {A = A} (if is_role q Spare then Some Unknown else part x) (Err Unknown) P D)
          (sym is) (refl, p)

  module _ (h s : Station B H) (new : List (Host B H)) (at : slice_get hosts n ≡ Some (host.Node h))
      (w : WithStation hosts n s new) where
    moved : (x y : Node S) → slice_get nodes n ≡ Some x → IsStation state M C drives s y
        → AreHosts state M C drives new (slice_set nodes n y)
    moved x y there is =
        subst (λ hs. AreHosts state M C drives hs (slice_set nodes n y)) (sym w.put)
        (with_host (host.Node h) (host.Node s) x y at there is)

    stayed : (x : Node S) → slice_get nodes n ≡ Some x → IsStation state M C drives s x → AreHosts state M C drives new nodes
    stayed x there is =
        subst (λ ns. AreHosts state M C drives new ns) (set_get nodes n x there) (moved x x there is)

-- ---- in a world that is shown

module _ {B H D S : Type 0} {state : B → S} {copied : B → Guest} {M : Machine S} {records : D → List Record} {old : Running B H D}
    {c : Course S} (h : Shows state copied M records old c) where
  module _ {n : ℕ} {here s : Station B H} {new : List (Host B H)} (at : slice_get old.hosts n ≡ Some (host.Node here))
      (w : WithStation old.hosts n s new) where
    -- what is said of the station's node in this world
    pub at_this_host : {A : Type 0} {part : Node S → Option Fault} {needs : Node S → Type 0}
        {does : A → Node S → Node S → Type 0} {result : Result A Fault}
        → ((x : Node S) → slice_get c.world.nodes n ≡ Some x → IsStation state M c.copying h.drives here x
        → Call (part x) needs does x result (IsStation state M c.copying h.drives s))
        → AtHost state M c.copying h.drives c.world n part needs does result new
    at_this_host {A} {part} {needs} {does} {result} says = record {
      answer =
          at_station state M c.copying h.drives old.hosts c.world.nodes n h.parts.hosts here part result
          (AreHosts state M c.copying h.drives new c.world.nodes)
          (Gives result (OfNode c.world n needs × AreHosts state M c.copying h.drives new c.world.nodes)
          (λ v. Becomes state M c.copying h.drives c.world.nodes n new (does v))) at
          (λ x there is. unless (part x) result (IsStation state M c.copying h.drives s x) (AreHosts state M c.copying h.drives new c.world.nodes) _ _
          (stay x there) (gives x there result) (says x there is));
    }
      where
        stay : (x : Node S) → slice_get c.world.nodes n ≡ Some x → IsStation state M c.copying h.drives s x
            → AreHosts state M c.copying h.drives new c.world.nodes
        stay x there = stayed state M c.copying h.drives old.hosts c.world.nodes n h.parts.hosts here s new at w x there

        gives : (x : Node S) → slice_get c.world.nodes n ≡ Some x → (r : Result A Fault)
            → Gives r (needs x × IsStation state M c.copying h.drives s x) (λ v. Makes x (does v) (IsStation state M c.copying h.drives s))
            → Gives r (OfNode c.world n needs × AreHosts state M c.copying h.drives new c.world.nodes)
            (λ v. Becomes state M c.copying h.drives c.world.nodes n new (does v))
        gives x there (Ok v) m = record {
          x = x;
          there = there;
          y = m.y;
          done = m.done;
          after = moved state M c.copying h.drives old.hosts c.world.nodes n h.parts.hosts here s new at w x m.y there m.after;
        }
        gives x there (Err fault) d =
            (d.0, (record { x = x; there = there; said = d.1.0 }, stay x there d.1.1))

    -- and if it is said in every world
    pub at_host : {A : Type 0} {part : Node S → Option Fault} {needs : Node S → Type 0}
        {does : A → Node S → Node S → Type 0} {result : Result A Fault}
        → ((C : Copying S) (drives : ℕ) (x : Node S) → IsStation state M C drives here x
        → Call (part x) needs does x result (IsStation state M C drives s))
        → AtHost state M c.copying h.drives c.world n part needs does result new
    at_host says = at_this_host (λ x there is. says c.copying h.drives x is)

    -- a node asks the arbiter
    pub suspects_host : (result : Result Won Fault) (askings : List Asking)
        → ((C : Copying S) (drives : ℕ) (x : Node S) → IsStation state M C drives here x
        → Suspects old.askings n x result askings (IsStation state M C drives s))
        → AsksHost state M c.copying h.drives c.world.nodes n old.askings result new askings
    suspects_host result askings says =
        at_station state M c.copying h.drives old.hosts c.world.nodes n h.parts.hosts here suspect_refusal result
        (AreHosts state M c.copying h.drives new c.world.nodes × (askings ≡ old.askings))
        (Asked state M c.copying h.drives c.world.nodes n old.askings result new askings) at
        (λ x there is. unless (suspect_refusal x) result (IsStation state M c.copying h.drives s x × (askings ≡ old.askings))
        (AreHosts state M c.copying h.drives new c.world.nodes × (askings ≡ old.askings))
        (SuspectsOf (winner_of old.askings x.generation) old.askings n x result askings (IsStation state M c.copying h.drives s))
        (Asked state M c.copying h.drives c.world.nodes n old.askings result new askings)
        (λ p. (stayed state M c.copying h.drives old.hosts c.world.nodes n h.parts.hosts here s new at w x there p.0, p.1))
        (λ d. record {
          x = x;
          there = there;
          answer = asked (winner_of old.askings x.generation) old.askings n x result askings (IsStation state M c.copying h.drives s)
              (λ y. AreHosts state M c.copying h.drives new (slice_set c.world.nodes n y))
              (moved state M c.copying h.drives old.hosts c.world.nodes n h.parts.hosts here s new at w x x there)
              (moved state M c.copying h.drives old.hosts c.world.nodes n h.parts.hosts here s new at w x (wins x) there)
              (moved state M c.copying h.drives old.hosts c.world.nodes n h.parts.hosts here s new at w x (halts x) there) d;
        })
        (says c.copying h.drives x is))

  -- a node is asked, in this world
  pub asks_this_node : {A : Type 0} {n : ℕ} {here : Station B H} {part : Node S → Option Fault} {needs : Node S → Type 0}
      {says : A → Node S → Type 0} {result : Result A Fault} → slice_get old.hosts n ≡ Some (host.Node here)
      → ((x : Node S) → IsNode state M c.copying h.drives here.node x → Ask (part x) needs says x result)
      → AsksNode c.world n part needs says result
  asks_this_node {A} {n} {here} {part} {needs} {says} {result} at answers = record {
    answer =
        at_station state M c.copying h.drives old.hosts c.world.nodes n h.parts.hosts here part result (Unit {0})
        (Gives result (OfNode c.world n needs) (λ v. OfNode c.world n (says v))) at
        (λ x there is. unless (part x) result (Unit {0}) (Unit {0}) _ _ (λ p. p) (gives x there result)
        (answers x is.node));
  }
    where
      gives : (x : Node S) → slice_get c.world.nodes n ≡ Some x → (r : Result A Fault)
          → Gives r (needs x) (λ v. says v x)
          → Gives r (OfNode c.world n needs) (λ v. OfNode c.world n (says v))
      gives x there (Ok v) s = record { x = x; there = there; said = s }
      gives x there (Err fault) d = (d.0, record { x = x; there = there; said = d.1 })

  -- and in every world
  pub asks_node : {A : Type 0} {n : ℕ} {here : Station B H} {part : Node S → Option Fault} {needs : Node S → Type 0}
      {says : A → Node S → Type 0} {result : Result A Fault} → slice_get old.hosts n ≡ Some (host.Node here)
      → ((C : Copying S) (drives : ℕ) (x : Node S) → IsNode state M C drives here.node x
      → Ask (part x) needs says x result)
      → AsksNode c.world n part needs says result
  asks_node at answers = asks_this_node at (λ x is. answers c.copying h.drives x is)

  -- no node has this number, and nothing changes
  pub no_host : (A : Type 0) (n : ℕ) (part : Node S → Option Fault) {fault : Fault} (P D' : Type 0) → fault ≡ Unknown
      → HasNoNode old.hosts n → P → Unless {A = A} (at_node (slice_get c.world.nodes n) part) (Err fault) P D'
  no_host A n part P D' unknown none p =
      subst (λ f. Unless {A = A} (at_node (slice_get c.world.nodes n) part) (Err f) P D') (sym unknown)
      (at_nobody state M c.copying h.drives old.hosts c.world.nodes n h.parts.hosts A part P D' none p)

  pub same_hosts : (hosts : List (Host B H)) → hosts ≡ old.hosts → AreHosts state M c.copying h.drives hosts c.world.nodes
  same_hosts hosts same = subst (λ hs. AreHosts state M c.copying h.drives hs c.world.nodes) (sym same) h.parts.hosts

  pub no_call : {A : Type 0} {n : ℕ} {part : Node S → Option Fault} {needs : Node S → Type 0}
      {does : A → Node S → Node S → Type 0} {fault : Fault} {hosts : List (Host B H)} → fault ≡ Unknown
      → HasNoNode old.hosts n → hosts ≡ old.hosts → AtHost state M c.copying h.drives c.world n part needs does (Err fault) hosts
  no_call {A} {n} {part} unknown none same =
      record { answer = no_host A n part _ _ unknown none (same_hosts _ same) }

  pub asks_nobody : {A : Type 0} {n : ℕ} {part : Node S → Option Fault} {needs : Node S → Type 0}
      {says : A → Node S → Type 0} {fault : Fault} → fault ≡ Unknown → HasNoNode old.hosts n
      → AsksNode c.world n part needs says (Err fault)
  asks_nobody {A} {n} {part} unknown none = record { answer = no_host A n part _ _ unknown none tt }
