-- The machine of a node makes steps, a backup replays, and a node that won drains; a node halts. What such a node holds
-- and has not replayed are the next entries of a recorded run, as at every node of a world that actions reach; so its
-- calls may be made. Its moves keep its generation and its role, and a machine that begins elsewhere makes the same
-- moves. A drained node is alone, and was no backup before.
use Rattle.ft_world.proofs.Words.{Applies, Backup, Course, Drained-booted, DrainedBy, Draining, Fault, Guest, Halted, Host, IsBehind-booted, IsFollower, IsHost, IsNode, IsOnTrace-back, Machine, MayReplay, NeedsMoves, Never, Node, OfNode, Reads, Record, Replayed-booted, ReplayedBy, Replaying, Reply, Role, Running, Shows, ShowsSome, Station, Stepped-booted, SteppedBy, drain_refusal, drain_reply, machine_of, nodes_stand, replay_refusal, reply_of, step_refusal, stop_refusal}
use Rattle.std.proofs.Common.{◌≡◌, Err, List, Ok, Option, Some, drop, inl, inr, refl, subst, sym, ℕ}
use Rattle.std.specs.Prelude.{slice_get, ◌<◌}
use Rattle.log_channel.specs.Channel.{Receiving}
use Rattle.log_entry.specs.Standing.{IsOnTrace}
use Rattle.replayer.specs.declared.replayer.Replayed.{Replayed}
use Rattle.ft_node.specs.declared.node.Node as code
use Rattle.ft_node.specs.declared.node.Node.TheVariants as node
use Rattle.ft_node.specs.declared.ran.Drained.{Drained}
use Rattle.ft_node.specs.declared.ran.Ran.{Ran}
use Rattle.ft_world.proofs.AtHosts.{AtHost}
use Rattle.pair_events.specs.declared.event.Event.TheVariants as event
use Rattle.pair_events.specs.declared.reply.Reply.TheVariants as reply
use Rattle.ft_world.specs.declared.host.Host.TheVariants as host
use Rattle.ft_world.proofs.Agreeing.{agree-other}
use Rattle.ft_world.proofs.AtOneNode.{elsewhere, node_applies, node_refused}
use Rattle.ft_world.proofs.Keeping.{acting_role, advances_keep, drained_stays, halted_kept, kept_stays, replays_keep}

-- ---- what the calls require

-- what a follower holds and has not replayed are the next entries of a recorded run
follows : {B H D S : Type 0} (state : B → S) (copied : B → Guest) (M : Machine S) (records : D → List Record) (old : Running B H D)
    (c : Course S) (n : ℕ) (x : Node S) (role : Role) (reads : Reads) (s : S) (fetched : Option (List ℕ)) (r : Receiving) →
    Shows state copied M records old c → slice_get c.world.nodes n ≡ Some x → Replaying role →
    IsFollower role reads s fetched r x → IsOnTrace M s r.entries fetched
follows {S = S} state copied M records old c n x role reads s fetched r h there replays is =
    let N : Machine S = machine_of M c in
    let stands = nodes_stand N c.copying h.machine.lawful h.machine.copies c.world h.reached n x there in
    let here : IsOnTrace M x.machine (drop x.replayed x.held) x.fetched =
    IsOnTrace-back M c.boot c.sectors x.machine (drop x.replayed x.held) x.fetched
    (stands.on_trace (subst (λ q. Replaying q) (sym is.role_is) replays)) in
    subst (λ es. IsOnTrace M s es fetched) (sym is.left)
    (subst (λ t. IsOnTrace M t (drop x.replayed x.held) fetched) is.machine
    (subst (λ come. IsOnTrace M x.machine (drop x.replayed x.held) come) is.come here))

may_replay : {B H D S : Type 0} (state : B → S) (copied : B → Guest) (M : Machine S) (records : D → List Record) (old : Running B H D)
    (c : Course S) (n : ℕ) (x : Node S) (node : code.Node B H) → (h : Shows state copied M records old c) →
    slice_get c.world.nodes n ≡ Some x → IsNode state M c.copying h.drives node x → MayReplay state M node
may_replay state copied M records old c n x (node.Primary p) h there is = tt
may_replay state copied M records old c n x (node.Backup b) h there is =
    follows state copied M records old c n x Backup b.reads (state b.replayer.board) b.replayer.fetched b.receiver h there
    (inl refl) is
may_replay state copied M records old c n x (node.Joining j) h there is = tt
may_replay state copied M records old c n x (node.Draining d) h there is =
    follows state copied M records old c n x Draining d.reads (state d.draining.replayer.board) d.draining.replayer.fetched
    d.draining.receiver h there (inr refl) is
may_replay state copied M records old c n x (node.Alone a) h there is = tt
may_replay state copied M records old c n x (node.Halted a) h there is = tt

pub station_may_replay : {B H D S : Type 0} (state : B → S) (copied : B → Guest) (M : Machine S) (records : D → List Record)
    (old : Running B H D) (n : ℕ) (station : Station B H) → ShowsSome state copied M records old →
    slice_get old.hosts n ≡ Some (host.Node station) → MayReplay state M station.node
station_may_replay state copied M records old n station some at =
    let c = some.course in
    let x = agree-other (IsHost state M c.copying some.shows.drives) (slice_get old.hosts n) (slice_get c.world.nodes n) (host.Node station) at
    (some.shows.parts.hosts n) in
    may_replay state copied M records old c n x.0 station.node some.shows x.1 x.2.node

-- ---- the machine of a node makes steps

pub steps_refused : {B H D S : Type 0} (state : B → S) (copied : B → Guest) (M : Machine S) (records : D → List Record)
    (old : Running B H D) (c : Course S) (n turns : ℕ) (fault : Fault) (hosts : List (Host B H)) →
    (h : Shows state copied M records old c) →
    AtHost state M c.copying h.drives c.world n (step_refusal M turns) (λ x. 0 < turns) (SteppedBy M turns) (Err fault) hosts →
    Applies state copied M records c (event.Step n turns) (Err fault) (record old { hosts = hosts })
steps_refused state copied M records old c n turns fault hosts h a =
    node_refused h (event.Step n turns) fault hosts refl (λ s. s.said) refl a

pub steps_applies : {B H D S : Type 0} (state : B → S) (copied : B → Guest) (M : Machine S) (records : D → List Record)
    (old : Running B H D) (c : Course S) (n turns : ℕ) (ran : Ran) (hosts : List (Host B H)) →
    (h : Shows state copied M records old c) →
    AtHost state M c.copying h.drives c.world n (step_refusal M turns) (λ x. 0 < turns) (SteppedBy M turns) (Ok ran) hosts →
    Applies state copied M records c (event.Step n turns) (Ok (reply.Ran ran.steps ran.count ran.why))
    (record old { hosts = hosts })
steps_applies state copied M records old c n turns ran hosts h a =
    node_applies h (event.Step n turns) (reply.Ran ran.steps ran.count ran.why) hosts refl
    (λ x y free s. kept_stays (advances_keep M s.advances))
    (λ new at. record {
      made = ran.steps;
      count = ran.count;
      why = ran.why;
      at = elsewhere (λ x y s. Stepped-booted M c.boot c.sectors s) at;
      reply = refl;
    }) a

-- ---- a backup replays

-- if the event is out of memory, the first move is a step
steps_first : {S : Type 0} (M : Machine S) (c : Course S) (n turns : ℕ) → OfNode c.world n (NeedsMoves M turns) →
    OfNode c.world n (NeedsMoves (machine_of M c) turns)
steps_first M c n turns s =
    record { x = s.x; there = s.there; said = (s.said.0, IsBehind-booted M c.boot c.sectors s.x s.said.1) }

pub replays_refused : {B H D S : Type 0} (state : B → S) (copied : B → Guest) (M : Machine S) (records : D → List Record)
    (old : Running B H D) (c : Course S) (n turns : ℕ) (fault : Fault) (hosts : List (Host B H)) →
    (h : Shows state copied M records old c) →
    AtHost state M c.copying h.drives c.world n replay_refusal (NeedsMoves M turns) (ReplayedBy M turns) (Err fault) hosts →
    Applies state copied M records c (event.Replay n turns) (Err fault) (record old { hosts = hosts })
replays_refused state copied M records old c n turns fault hosts h a =
    node_refused h (event.Replay n turns) fault hosts refl (steps_first M c n turns) refl a

pub replays_applies : {B H D S : Type 0} (state : B → S) (copied : B → Guest) (M : Machine S) (records : D → List Record)
    (old : Running B H D) (c : Course S) (n turns : ℕ) (r : Replayed) (hosts : List (Host B H)) →
    (h : Shows state copied M records old c) →
    AtHost state M c.copying h.drives c.world n replay_refusal (NeedsMoves M turns) (ReplayedBy M turns) (Ok r) hosts →
    Applies state copied M records c (event.Replay n turns) (Ok (reply.Moved r.moves r.why))
    (record old { hosts = hosts })
replays_applies state copied M records old c n turns r hosts h a =
    node_applies h (event.Replay n turns) (reply.Moved r.moves r.why) hosts refl
    (λ x y free s. kept_stays (replays_keep M s.moves))
    (λ new at. record {
      made = r.moves;
      why = r.why;
      at = elsewhere (λ x y s. Replayed-booted M c.boot c.sectors s) at;
      reply = refl;
    }) a

-- ---- a node that won drains

pub drains_refused : {B H D S : Type 0} (state : B → S) (copied : B → Guest) (M : Machine S) (records : D → List Record)
    (old : Running B H D) (c : Course S) (n turns : ℕ) (fault : Fault) (hosts : List (Host B H)) →
    (h : Shows state copied M records old c) →
    AtHost state M c.copying h.drives c.world n drain_refusal (NeedsMoves M turns) (DrainedBy M turns) (Err fault) hosts →
    Applies state copied M records c (event.Drain n turns) (Err fault) (record old { hosts = hosts })
drains_refused state copied M records old c n turns fault hosts h a =
    node_refused h (event.Drain n turns) fault hosts refl (steps_first M c n turns) refl a

pub drains_applies : {B H D S : Type 0} (state : B → S) (copied : B → Guest) (M : Machine S) (records : D → List Record)
    (old : Running B H D) (c : Course S) (n turns : ℕ) (d : Drained) (r : Reply) (hosts : List (Host B H)) →
    reply_of r ≡ drain_reply d.moves d.why → (h : Shows state copied M records old c) →
    AtHost state M c.copying h.drives c.world n drain_refusal (NeedsMoves M turns) (DrainedBy M turns) (Ok d) hosts →
    Applies state copied M records c (event.Drain n turns) (Ok r) (record old { hosts = hosts })
drains_applies state copied M records old c n turns d r hosts says h a =
    node_applies h (event.Drain n turns) r hosts refl
    (λ x y free s. drained_stays (acting_role x Draining free) s)
    (λ new at. record {
      made = d.moves;
      why = d.why;
      at = elsewhere (λ x y s. Drained-booted M c.boot c.sectors s) at;
      reply = says;
    }) a

-- ---- a node halts

pub stops_refused : {B H D S : Type 0} (state : B → S) (copied : B → Guest) (M : Machine S) (records : D → List Record)
    (old : Running B H D) (c : Course S) (n : ℕ) (fault : Fault) (hosts : List (Host B H)) →
    (h : Shows state copied M records old c) →
    AtHost {A = Unit {0}} state M c.copying h.drives c.world n stop_refusal Never (λ done. Halted) (Err fault) hosts →
    Applies state copied M records c (event.Stop n) (Err fault) (record old { hosts = hosts })
stops_refused state copied M records old c n fault hosts h a =
    node_refused h (event.Stop n) fault hosts refl (λ never. absurd never.said) refl a

pub stops_applies : {B H D S : Type 0} (state : B → S) (copied : B → Guest) (M : Machine S) (records : D → List Record)
    (old : Running B H D) (c : Course S) (n : ℕ) (hosts : List (Host B H)) → (h : Shows state copied M records old c) →
    AtHost {A = Unit {0}} state M c.copying h.drives c.world n stop_refusal Never (λ done. Halted) (Ok tt) hosts →
    Applies state copied M records c (event.Stop n) (Ok reply.Stopped) (record old { hosts = hosts })
stops_applies state copied M records old c n hosts h a =
    node_applies h (event.Stop n) reply.Stopped hosts refl (λ x y free s. kept_stays (halted_kept x y s))
    (λ new at. record { at = at; reply = refl }) a
