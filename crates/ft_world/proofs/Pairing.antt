-- An alone node begins the next generation with a spare host: the row. What refuses it is said of hosts and of nodes alike.
-- An alone node is of the highest generation, so the new one is higher than all, and its only backup is the host.
use Rattle.ft_world.proofs.Words.{Accepts, Agree, Alone, Applies, AreHosts, Backup, Call, Copying, Course, Draining, Ever, Fault, Guest, HasJoined, Host, IsHost, IsOnlyBackup, IsStation, Joining, JoinsHosts, Machine, Node, Opening, Opens, Primary, Record, Role, Running, Shows, Spare, Station, Unknown, WithStation, WrongRole, at_host, at_node, begin_pair_refusal, begun, count_in, fault_if, first_of, get_set, get_set_other, highest, host_refusal, is_backup, is_role, joiner, keys, list_of, machine_of, nodes_stand, pair_refusal, with_pair}
use Rattle.std.proofs.Common.{◌≡◌, ◌∙◌, ◌≤◌, [], ◌∷◌, ℕ, suc, Err, List, None, Ok, Option, Some, ap, append-nil, arith, false, inl, inr, not, refl, subst, sym, true}
use Rattle.std.proofs.Math.Nat.{le_antisymm}
use Rattle.std.specs.Prelude.{if◌then◌else◌, length, slice_get, slice_set}
use Rattle.guest_lockstep.specs.declared.timed.Timed.{Timed}
use Rattle.pair_protocol.specs.Reply as protocol
use Rattle.pair_protocol.proofs.Promises.Faithful.{alone_is_highest}
use Rattle.pair_protocol.proofs.Promises.Settling.{highest_ge, highest_le}
use Rattle.pair_protocol.proofs.Traces.Lists.{get_set_cases}
use Rattle.ft_node.specs.Calls as calls
use Rattle.ft_world.specs.declared.host.Host.TheVariants as host
use Rattle.pair_events.specs.declared.event.Event.TheVariants as event
use Rattle.pair_events.specs.declared.reply.Reply.TheVariants as reply
use Rattle.ft_world.proofs.Agreeing.{agree-other}
use Rattle.ft_world.proofs.Applying.{applies, refuses}
use Rattle.ft_world.proofs.AtHosts.{AtHost, not_spare, with_host}
use Rattle.ft_world.proofs.AtOneNode.{call_done, node_refused, second_of}
use Rattle.ft_world.proofs.CopiedStations.{alone_role}

-- ---- what refuses it

no_spare : (q : Role) → (q ≡ Spare → ⊥) → not (is_role q Spare) ≡ true
no_spare Primary a = refl
no_spare Backup a = refl
no_spare Joining a = refl
no_spare Draining a = refl
no_spare Alone a = refl
no_spare Spare a = absurd (a refl)

module _ {B H S : Type 0} (state : B → S) (M : Machine S) (C : Copying S) (drives : ℕ) where
  -- what refuses it by the hosts refuses it by the nodes
  refused_too : (fault : Fault) (a here : Option (Host B H)) (b x : Option (Node S))
      → Agree (IsHost {H = H} state M C drives) a b → Agree (IsHost {H = H} state M C drives) here x
      → host_refusal a here ≡ Some fault → at_host b x ≡ Some fault
  refused_too fault None here None x is at e = e
  refused_too fault None here (Some y) x is at e = absurd is
  refused_too fault (Some a) here None x is at e = absurd is
  refused_too fault (Some a) None (Some y) None is at e = e
  refused_too fault (Some a) None (Some y) (Some x) is at e = absurd at
  refused_too fault (Some a) (Some here) (Some y) None is at e = absurd at
  refused_too fault (Some a) (Some (host.Spare resources)) (Some y) (Some x) is at e =
      ap (λ q. if is_role q Spare then Some Unknown else pair_refusal y x) at ∙ e
  refused_too fault (Some (host.Spare other)) (Some (host.Node station)) (Some y) (Some x) is at e = absurd (cc)
  refused_too fault (Some (host.Node other)) (Some (host.Node station)) (Some y) (Some x) is at e =
      sym (not_spare x (pair_refusal y) at.a_node)
      ∙ ap (λ b. first_of (fault_if b WrongRole ∷ begin_pair_refusal x ∷ [])) (no_spare y.role is.a_node) ∙ e

  -- and if they refuse nothing, what is left is the node's part
  allowed : (a here : Option (Host B H)) (b x : Option (Node S)) → Agree (IsHost {H = H} state M C drives) a b
      → Agree (IsHost {H = H} state M C drives) here x → host_refusal a here ≡ None
      → at_host b x ≡ at_node x begin_pair_refusal
  allowed None here b x is at e = absurd (cc)
  allowed (Some a) None b x is at e = absurd (cc)
  allowed (Some a) (Some (host.Spare resources)) b x is at e = absurd (cc)
  allowed (Some (host.Node other)) (Some (host.Node station)) b x is at e = absurd (cc)
  allowed (Some (host.Spare resources)) (Some (host.Node station)) None x is at e = absurd is
  allowed (Some (host.Spare resources)) (Some (host.Node station)) (Some y) None is at e = absurd at
  allowed (Some (host.Spare resources)) (Some (host.Node station)) (Some y) (Some x) is at e =
      ap (λ r. if is_role x.role Spare then Some Unknown else r)
      (second_of (fault_if (not (is_role y.role Spare)) WrongRole) (begin_pair_refusal x)
      (ap (λ q. fault_if (not (is_role q Spare)) WrongRole) is))

-- ---- the nodes after it

-- the new generation is the highest, and the host is its only backup
record IsNewest {S : Type 0} (nodes : List (Node S)) (generation host : ℕ) : Type 0 where
  pub highest_is : highest nodes ≡ generation
  pub backup : IsOnlyBackup nodes generation host

newest : {S : Type 0} (nodes : List (Node S)) (n at generation : ℕ) (x y joins : Node S)
    → slice_get nodes n ≡ Some x → (n ≡ at → ⊥) → (z : Node S) → slice_get nodes at ≡ Some z
    → generation ≡ suc (highest nodes) → y.generation ≡ generation → is_backup y.role ≡ false
    → joins.generation ≡ generation → IsNewest (slice_set (slice_set nodes n y) at joins) generation at
newest {S} nodes n at generation x y joins there other z spare next ours no_backup theirs =
    record { highest_is = le_antisymm (highest_le later generation below) above; backup = only }
  where
    later : List (Node S)
    later = slice_set (slice_set nodes n y) at joins

    -- a node afterwards is one of the two, or was there before
    below : (k : ℕ) (u : Node S) → slice_get later k ≡ Some u → u.generation ≤ generation
    below k u here = elim (get_set_cases (slice_set nodes n y) at k joins u here) [
      | inl p ↦ (let e = ap (λ (v : Node S). v.generation) p.1 in omega (arith, e, theirs))
      | inr q ↦ elim (get_set_cases nodes n k y u q) [
        | inl p ↦ (let e = ap (λ (v : Node S). v.generation) p.1 in omega (arith, e, ours))
        | inr r ↦ (let e = highest_ge nodes k u r in omega (arith, e, next))
      ]
    ]

    there_still : slice_get (slice_set nodes n y) at ≡ Some z
    there_still = get_set_other nodes n at y (λ e. other (sym e)) ∙ spare

    above : generation ≤ highest later
    above =
        let e = highest_ge later at joins (get_set (slice_set nodes n y) at z joins there_still) in
        omega (arith, e, theirs)

    only : IsOnlyBackup later generation at
    only k u here is role = elim (get_set_cases (slice_set nodes n y) at k joins u here) [
      | inl p ↦ p.0
      | inr q ↦ elim (get_set_cases nodes n k y u q) [
        | inl p ↦ absurd (let e = ap (λ (v : Node S). is_backup v.role) p.1 in (cc))
        | inr r ↦ absurd (let e = highest_ge nodes k u r in omega (arith, e, next, is))
      ]
    ]

-- ---- in a world that is shown

module _ {B H D S : Type 0} (state : B → S) (copied : B → Guest) (M : Machine S) (records : D → List Record)
    (old : Running B H D) (c : Course S) (n at : ℕ) (h : Shows state copied M records old c) where
  abbrev N : Machine S
  N = machine_of M c

  pub refused_by_hosts : (fault : Fault) → host_refusal (slice_get old.hosts at) (slice_get old.hosts n) ≡ Some fault
      → Applies state copied M records c (event.BeginPair n at) (Err fault) old
  refused_by_hosts fault refuses_it =
      refuses state copied M records old old c (event.BeginPair n at) fault h refl
      (refused_too state M c.copying h.drives fault (slice_get old.hosts at) (slice_get old.hosts n)
      (slice_get c.world.nodes at) (slice_get c.world.nodes n) (h.parts.hosts at) (h.parts.hosts n) refuses_it) refl

  module _ (free : host_refusal (slice_get old.hosts at) (slice_get old.hosts n) ≡ None) where
    only_the_node : at_host (slice_get c.world.nodes at) (slice_get c.world.nodes n)
        ≡ at_node (slice_get c.world.nodes n) begin_pair_refusal
    only_the_node = allowed state M c.copying h.drives (slice_get old.hosts at) (slice_get old.hosts n)
        (slice_get c.world.nodes at) (slice_get c.world.nodes n) (h.parts.hosts at) (h.parts.hosts n) free

    pub refused_by_node : (fault : Fault) (inputs : List Timed) (count : ℕ) (hosts : List (Host B H))
        → AtHost state M c.copying h.drives c.world n begin_pair_refusal Ever
        (λ opening. Opens M h.drives opening inputs count) (Err fault) hosts
        → Applies state copied M records c (event.BeginPair n at) (Err fault) (record old { hosts = hosts })
    refused_by_node fault inputs count hosts a =
        node_refused h (event.BeginPair n at) fault hosts only_the_node (λ s. tt) refl a

  -- what an alone node of this world brings to the call
  pub alone_keys : (x : Node S) → slice_get c.world.nodes n ≡ Some x → x.role ≡ Alone → calls.HasTakenKeys M x
  alone_keys x there alone = λ port within.
      (nodes_stand N c.copying h.machine.lawful h.machine.copies c.world h.reached n x there).keys (inr alone) port
      ∙ ap (λ q. length (keys port (list_of x q))) alone

  pub alone_parts : (x : Node S) → slice_get c.world.nodes n ≡ Some x → x.role ≡ Alone
      → length (c.copying.parts x.machine) ≡ c.copying.part_count
  alone_parts x there alone =
      let r = (nodes_stand N c.copying h.machine.lawful h.machine.copies c.world h.reached n x there).machine
      (inl (inr alone)) in
      h.machine.copies.counted r.0 x.machine r.1

  -- the generation has begun
  module _ (here s : Station B H) (opening : Opening) (lent new : List (Host B H)) (resources : H)
      (at_here : slice_get old.hosts n ≡ Some (host.Node here))
      (spare : slice_get old.hosts at ≡ Some (host.Spare resources)) (w : WithStation old.hosts n s lent)
      (j : JoinsHosts state M lent at opening new) where
    other : n ≡ at → ⊥
    other e = let k = ap (slice_get old.hosts) e in (cc)

    joined_host : (x : Node S) → x.role ≡ Alone → IsStation state M c.copying h.drives here x
        → Opens M h.drives opening here.inputs here.count x (begun M x)
        → IsHost state M c.copying h.drives j.joined (joiner N c.copying x)
    joined_host x alone is o = go j.joined j.is
      where
        go : (joined : Host B H) → HasJoined state M opening joined
            → IsHost state M c.copying h.drives joined (joiner N c.copying x)
        go (host.Spare resources) joined = absurd joined
        go (host.Node station) is_joined =
            is_joined.0 c.copying h.drives (joiner N c.copying x) h.copies_as.counted o.drives_are
            (record {
              role_is = refl;
              up = refl;
              generation_is = sym o.generation;
              reads_are = sym o.reads_are;
              start_is = sym (o.same_count ∙ is.count ∙ ap (count_in M x) alone);
              no_parts = refl;
              no_held = refl;
              replayed = refl;
              no_fetched = refl;
            })
            (append-nil x.list ∙ sym (o.same_inputs ∙ is.inputs ∙ ap (list_of x) alone))

    hosts_after : (x : Node S) → slice_get c.world.nodes n ≡ Some x → x.role ≡ Alone
        → IsStation state M c.copying h.drives here x → IsStation state M c.copying h.drives s (begun M x)
        → Opens M h.drives opening here.inputs here.count x (begun M x) → (y : Node S)
        → slice_get c.world.nodes at ≡ Some y
        → AreHosts state M c.copying h.drives new
        (slice_set (slice_set c.world.nodes n (begun M x)) at (joiner N c.copying x))
    hosts_after x there alone is now o y y_there =
        subst (λ hosts. AreHosts state M c.copying h.drives hosts
        (slice_set (slice_set c.world.nodes n (begun M x)) at (joiner N c.copying x)))
        (sym (j.put ∙ ap (λ hosts. slice_set hosts at j.joined) w.put))
        (with_host state M c.copying h.drives (slice_set old.hosts n (host.Node s))
        (slice_set c.world.nodes n (begun M x)) at
        (with_host state M c.copying h.drives old.hosts c.world.nodes n h.parts.hosts (host.Node here) (host.Node s) x
        (begun M x) at_here there now)
        (host.Spare resources) j.joined y (joiner N c.copying x)
        (get_set_other old.hosts n at (host.Node s) (λ e. other (sym e)) ∙ spare)
        (get_set_other c.world.nodes n at (begun M x) (λ e. other (sym e)) ∙ y_there)
        (joined_host x alone is o))

    pub begins_applies : ((x : Node S) → slice_get c.world.nodes n ≡ Some x → IsStation state M c.copying h.drives here x
        → Call (begin_pair_refusal x) Ever (λ opening. Opens M h.drives opening here.inputs here.count) x (Ok opening)
        (IsStation state M c.copying h.drives s))
        → Applies state copied M records c (event.BeginPair n at) (Ok (reply.Generation opening.generation))
        (record old { hosts = new; generation = opening.generation; backup = at })
    begins_applies says =
        let Is = IsStation state M c.copying h.drives s in
        let q = agree-other (IsHost state M c.copying h.drives) (slice_get old.hosts n) (slice_get c.world.nodes n)
        (host.Node here) at_here (h.parts.hosts n) in
        let x = q.0 in
        let z = agree-other (IsHost state M c.copying h.drives) (slice_get old.hosts at) (slice_get c.world.nodes at)
        (host.Spare resources) spare (h.parts.hosts at) in
        let k = call_done (begin_pair_refusal x) opening (Is x) (Ever x × Is x)
        (λ v. calls.Makes x (Opens M h.drives v here.inputs here.count) Is) (says x q.1 q.2) in
        let alone = alone_role x k.0 in
        let o : Opens M h.drives opening here.inputs here.count x (begun M x) =
        subst (Opens M h.drives opening here.inputs here.count x) k.1.done.after k.1.done in
        let now : Is (begun M x) = subst Is k.1.done.after k.1.after in
        let top = alone_is_highest N c.copying h.machine.lawful h.machine.copies c.world h.reached n x q.1 alone in
        let free : host_refusal (slice_get old.hosts at) (slice_get old.hosts n) ≡ None = rw (spare, at_here) refl in
        let after = with_pair N c.copying c.world n at x in
        let e = newest c.world.nodes n at opening.generation x (begun M x) (joiner N c.copying x) q.1 other z.0 z.1
        (o.generation ∙ ap suc top) (sym o.generation) refl (sym o.generation) in
        applies state copied M records old c (event.BeginPair n at) (Ok (reply.Generation opening.generation)) after
        (record old { hosts = new; generation = opening.generation; backup = at }) h
        (Accepts
        (only_the_node free ∙ ap (λ o. at_node o begin_pair_refusal) q.1
        ∙ sym (not_spare x begin_pair_refusal q.2.a_node) ∙ k.0)
        (record {
          x = x;
          there = q.1;
          y = z.0;
          spare = z.1;
          reply = ap protocol.GenerationIs o.generation;
          after = refl;
        }))
        (record {
          hosts = hosts_after x q.1 alone q.2 now o z.0 z.1;
          messages = h.parts.messages;
          terminals = h.parts.terminals;
          winners = h.parts.winners;
          disk = h.parts.disk;
          generation = sym e.highest_is;
          backup = e.backup;
        })
