-- A station's node moves, and its inputs and its count follow.
use Rattle.ft_world.proofs.Words.{Alone, Asking, Backup, Copying, Draining, Fault, Fetched, Halted, Heard, IsNode, IsStation, Joining, Machine, NeedsMoves, Node, Primary, Role, SectorAddress, Serving, Spare, Station, Won, after_drain, count_in, node_count, drained_count, halts, list_of, step-serves, winner_of, wins, won_role}
use Rattle.std.proofs.Common.{◌≡◌, ◌∙◌, ℕ, List, Err, None, Ok, Option, Result, Some, ap, refl, subst, sym}
use Rattle.std.specs.Prelude.{unwrap_or, ◌<◌}
use Rattle.std.specs.Result.{IsErrAnd}
use Rattle.guest_lockstep.specs.declared.replay_end.ReplayEnd.{ReplayEnd}
use Rattle.guest_lockstep.specs.declared.replay_end.ReplayEnd.TheVariants.{Turns, End, Wait, Memory}
use Rattle.log_channel.specs.declared.packet.Packet.{Packet}
use Rattle.log_channel.specs.declared.packet.Packet.TheVariants.{Log, Ack}
use Rattle.replayer.specs.declared.replayer.Replayed.{Replayed}
use Rattle.pair_protocol.specs.Refusals as refusals
use Rattle.pair_protocol.proofs.Promises.Lists.{won_list}
use Rattle.ft_node.specs.Calls as calls
use Rattle.ft_node.specs.declared.node.Node as code
use Rattle.ft_node.specs.declared.ran.Drained.{Drained}
use Rattle.ft_node.specs.declared.ran.Ran.{Ran}
use Rattle.ft_world.proofs.Answering.{Retells, asked, given, handed_on, retold, unless}
use Rattle.ft_world.proofs.Keeping.{Kept, kept_here, advances_keep, replays_keep, fetched_kept, heard_kept, halted_kept, same_list, same_count, serving_role, machine_count, acting_role, held_count, held_inputs}

-- its node only moved, and this is the count by which it settles now
pub moves_on : {B H S : Type 0} (state : B → S) (M : Machine S) (C : Copying S) (drives : ℕ) (h : Station B H) (node : code.Node B H) (count : ℕ)
    (x y : Node S) → IsStation state M C drives h x → Kept x y → IsNode state M C drives node y → count ≡ count_in M y y.role
    → IsStation state M C drives (record h { node = node; count = count }) y
moves_on state M C drives h node count x y i k is e = record {
  node = is;
  inputs = i.inputs ∙ sym (same_list x y x.role k) ∙ ap (list_of y) (sym k.role);
  count = e;
  a_node = λ s. i.a_node (sym k.role ∙ s);
}

-- or it made no move that changes what it settles by
pub stays_on : {B H S : Type 0} (state : B → S) (M : Machine S) (C : Copying S) (drives : ℕ) (h : Station B H) (node : code.Node B H) (x y : Node S)
    → IsStation state M C drives h x → Kept x y → count_in M y x.role ≡ count_in M x x.role → IsNode state M C drives node y
    → IsStation state M C drives (record h { node = node }) y
stays_on state M C drives h node x y i k e is =
    moves_on state M C drives h node h.count x y i k is (i.count ∙ sym e ∙ ap (count_in M y) (sym k.role))

pub unmoved : {B H S : Type 0} (state : B → S) (M : Machine S) (C : Copying S) (drives : ℕ) (h : Station B H) (node : code.Node B H) (x : Node S)
    → IsStation state M C drives h x → IsNode state M C drives node x → IsStation state M C drives (record h { node = node }) x
unmoved state M C drives h node x i is = stays_on state M C drives h node x x i (kept_here x) refl is

-- whatever the call does at the node, the station's node is another one of the same inputs and count
pub retells : {A B H S : Type 0} (state : B → S) (M : Machine S) (C : Copying S) (drives : ℕ) (h : Station B H) (node : code.Node B H) (x : Node S)
    (o : Option Fault) (needs : Node S → Type 0) (does : A → Node S → Node S → Type 0) → IsStation state M C drives h x
    → ((v : A) (y : Node S) → o ≡ None → does v x y → Kept x y × (count_in M y x.role ≡ count_in M x x.role))
    → Retells o needs needs does x (IsNode state M C drives node) (IsStation state M C drives (record h { node = node }))
retells state M C drives h node x o needs does i keeps = record {
  stays = unmoved state M C drives h node x i;
  needing = λ w. w;
  becomes = λ v y none does is. (let k = keeps v y none does in stays_on state M C drives h node x y i k.0 k.1 is);
}

-- ---- steps

pub steps_on : {B H S : Type 0} (state : B → S) (M : Machine S) (C : Copying S) (drives : ℕ) (turns : ℕ) (h : Station B H) (node : code.Node B H)
    (ran : Ran) (x : Node S) → IsStation state M C drives h x → calls.Steps M turns x (Ok ran) (IsNode state M C drives node)
    → calls.Steps M turns x (Ok ran) (IsStation state M C drives (record h { node = node; count = ran.count }))
steps_on state M C drives turns h node ran x i d =
    given (refusals.step_refusal M turns x) (λ x. 0 < turns) (λ x. 0 < turns) (calls.SteppedBy M turns) x
    (IsNode state M C drives node) (IsStation state M C drives (record h { node = node; count = ran.count })) ran (λ y none s is.
    (let k = advances_keep M s.advances in
    let serve : Serving y.role =
    subst (λ q. Serving q) (sym k.role) (serving_role x (step-serves M turns x none)) in
    moves_on state M C drives h node ran.count x y i k is (s.counted ∙ sym (machine_count M y serve)))) d

pub steps_not : {B H S : Type 0} (state : B → S) (M : Machine S) (C : Copying S) (drives : ℕ) (turns : ℕ) (h : Station B H) (node : code.Node B H)
    (r : Result Ran Fault) (fault : Fault) (x : Node S) → IsErrAnd r (λ k. k ≡ fault) → IsStation state M C drives h x
    → calls.Steps M turns x (Err fault) (IsNode state M C drives node)
    → calls.Steps M turns x r (IsStation state M C drives (record h { node = node }))
steps_not state M C drives turns h node r fault x at i d =
    handed_on (refusals.step_refusal M turns x) (λ x. 0 < turns) (λ x. 0 < turns) (calls.SteppedBy M turns) x
    (IsNode state M C drives node) (IsStation state M C drives (record h { node = node })) r fault at (unmoved state M C drives h node x i)
    (λ w. w) d

-- ---- moves of a backup

pub replays_on : {B H S : Type 0} (state : B → S) (M : Machine S) (C : Copying S) (drives : ℕ) (turns : ℕ) (h : Station B H) (node : code.Node B H)
    (r : Result Replayed Fault) (x : Node S) → IsStation state M C drives h x
    → calls.Replays M turns x r (IsNode state M C drives node)
    → calls.Replays M turns x r (IsStation state M C drives (record h { node = node }))
replays_on state M C drives turns h node r x i d =
    retold r (retells state M C drives h node x (refusals.replay_refusal x) (NeedsMoves M turns) (calls.ReplayedBy M turns) i
    (λ v y none s.
    (let k = replays_keep M s.moves in
    let role = acting_role x Backup none in
    (k, ap (count_in M y) role ∙ held_count x y k ∙ ap (count_in M x) (sym role))))) d

-- ---- the bytes of a sector come

pub fetches_on : {B H S : Type 0} (state : B → S) (M : Machine S) (C : Copying S) (drives : ℕ) (h : Station B H) (node : code.Node B H)
    (address : SectorAddress) (number : ℕ) (bytes : List ℕ) (r : Result (Unit {0}) Fault) (x : Node S)
    → IsStation state M C drives h x → calls.Fetches M address number bytes x r (IsNode state M C drives node)
    → calls.Fetches M address number bytes x r (IsStation state M C drives (record h { node = node }))
fetches_on {S = S} state M C drives h node address number bytes r x i d = retold r
    (retells state M C drives h node x (refusals.fetched_refusal M address number x) calls.Never (λ done. Fetched bytes) i
    (λ v y free s. (let k = fetched_kept x y bytes s in
    (k, same_count M x y x.role k (ap (λ (z : Node S). z.machine) s))))) d

-- ---- moves of a draining node

drains_still : {B H S : Type 0} (state : B → S) (M : Machine S) (C : Copying S) (drives : ℕ) (h : Station B H) (node : code.Node B H) (count : ℕ)
    (x y : Node S) → IsStation state M C drives h x → x.role ≡ Draining → Kept x y
    → IsNode state M C drives node y → count ≡ h.count → IsStation state M C drives (record h { node = node; count = count }) y
drains_still state M C drives h node count x y is role k now e =
    moves_on state M C drives h node count x y is k now
    (e ∙ is.count ∙ ap (count_in M x) role ∙ sym (held_count x y k) ∙ sym (ap (count_in M y) (k.role ∙ role)))

drained_station : {B H S : Type 0} (state : B → S) (M : Machine S) (C : Copying S) (drives : ℕ) (h : Station B H) (node : code.Node B H) (count : ℕ)
    (x y : Node S) (why : ReplayEnd) → IsStation state M C drives h x → x.role ≡ Draining → Kept x y
    → IsNode state M C drives node (after_drain y why)
    → count ≡ drained_count why h.count (node_count M (after_drain y why) (after_drain y why).role)
    → IsStation state M C drives (record h { node = node; count = count }) (after_drain y why)
drained_station state M C drives h node count x y End is role k now e = record {
  node = now;
  inputs = is.inputs ∙ ap (list_of x) role ∙ sym (held_inputs x y k);
  count = e;
  a_node = λ s. (cc);
}
drained_station state M C drives h node count x y Turns is role k now e = drains_still state M C drives h node count x y is role k now e
drained_station state M C drives h node count x y Wait is role k now e = drains_still state M C drives h node count x y is role k now e
drained_station state M C drives h node count x y Memory is role k now e = drains_still state M C drives h node count x y is role k now e

pub drains_on : {B H S : Type 0} (state : B → S) (M : Machine S) (C : Copying S) (drives : ℕ) (turns : ℕ) (h : Station B H) (node : code.Node B H)
    (d : Drained) (count : ℕ) (x : Node S) → IsStation state M C drives h x
    → calls.Drains M turns x (Ok d) (IsNode state M C drives node)
    → ((y : Node S) → IsNode state M C drives node y → count ≡ drained_count d.why h.count (node_count M y y.role))
    → calls.Drains M turns x (Ok d) (IsStation state M C drives (record h { node = node; count = count }))
drains_on {B} {S} state M C drives turns h node d count x is r counted =
    given (refusals.drain_refusal x) (NeedsMoves M turns) (NeedsMoves M turns) (calls.DrainedBy M turns) x
    (IsNode state M C drives node) After d (λ y none s now. (let e = s.after in
    subst (λ z. After z) (sym e)
    (drained_station state M C drives h node count x s.z d.why is (acting_role x Draining none)
    (replays_keep M s.replayed.moves) (subst (λ z. IsNode state M C drives node z) e now)
    (counted (after_drain s.z d.why) (subst (λ z. IsNode state M C drives node z) e now))))) r
  where
    After : Node S → Type 0
    After y = IsStation state M C drives (record h { node = node; count = count }) y

-- ---- an acknowledgement, a halt

pub hears_on : {B H S : Type 0} (state : B → S) (M : Machine S) (C : Copying S) (drives : ℕ) (p : Option Packet) (h : Station B H) (node : code.Node B H)
    (r : Result ℕ Fault) (x : Node S) → IsStation state M C drives h x → calls.DeliversAcknowledgement p x r (IsNode state M C drives node)
    → calls.DeliversAcknowledgement p x r (IsStation state M C drives (record h { node = node }))
hears_on {B} {S} state M C drives p h node r x i d = go p d
  where
    none : (o : Option Fault) → calls.Unless o r (IsNode state M C drives node x) ⊥
        → calls.Unless o r (IsStation state M C drives (record h { node = node }) x) ⊥
    none o = unless o r _ _ ⊥ ⊥ (unmoved state M C drives h node x i) (λ no. no)

    go : (p : Option Packet) → calls.DeliversAcknowledgement p x r (IsNode state M C drives node)
        → calls.DeliversAcknowledgement p x r (IsStation state M C drives (record h { node = node }))
    go None d = none _ d
    go (Some (Log generation index e)) d = none _ d
    go (Some (Ack generation held reports)) d = retold r (retells state M C drives h node x
        (refusals.deliver_acknowledgement_refusal generation held x) calls.Never (Heard held (unwrap_or reports 0)) i (λ v y free s.
        (let k = heard_kept x y held (unwrap_or reports 0) v s in (k, same_count M x y x.role k (ap (λ (z : Node S). z.machine) s.1))))) d

pub stops_on : {B H S : Type 0} (state : B → S) (M : Machine S) (C : Copying S) (drives : ℕ) (h : Station B H) (node : code.Node B H)
    (r : Result (Unit {0}) Fault) (x : Node S) → IsStation state M C drives h x → calls.Stops x r (IsNode state M C drives node)
    → calls.Stops x r (IsStation state M C drives (record h { node = node }))
stops_on {B} {S} state M C drives h node r x i d = retold r
    (retells state M C drives h node x (refusals.stop_refusal x) calls.Never (λ done. Halted) i (λ v y free s.
    (let k = halted_kept x y s in (k, same_count M x y x.role k (ap (λ (z : Node S). z.machine) s))))) d

-- ---- a node asks the arbiter

won_count : {S : Type 0} (M : Machine S) (x : Node S) (q : Role) → count_in M (wins x) (won_role q) ≡ count_in M x q
won_count M x Primary = refl
won_count M x Backup = refl
won_count M x Joining = refl
won_count M x Draining = refl
won_count M x Alone = refl
won_count M x Spare = refl

won_a_node : (q : Role) → (q ≡ Spare → ⊥) → won_role q ≡ Spare → ⊥
won_a_node Primary f s = (cc)
won_a_node Backup f s = (cc)
won_a_node Joining f s = (cc)
won_a_node Draining f s = (cc)
won_a_node Alone f s = (cc)
won_a_node Spare f s = f s

pub suspects_on : {B H S : Type 0} (state : B → S) (M : Machine S) (C : Copying S) (drives : ℕ) (h : Station B H) (node : code.Node B H)
    (old new : List Asking) (n : ℕ) (r : Result Won Fault) (x : Node S) → IsStation state M C drives h x
    → calls.Suspects old n x r new (IsNode state M C drives node)
    → calls.Suspects old n x r new (IsStation state M C drives (record h { node = node }))
suspects_on {B} {S} state M C drives h node old new n r x is d =
    unless (refusals.suspect_refusal x) r (IsNode state M C drives node x × (new ≡ old)) (After x × (new ≡ old))
    (calls.SuspectsOf (winner_of old x.generation) old n x r new (IsNode state M C drives node))
    (calls.SuspectsOf (winner_of old x.generation) old n x r new After) (λ p. (unmoved state M C drives h node x is p.0, p.1))
    (λ a. asked (winner_of old x.generation) old n x r new (IsNode state M C drives node) After
    (λ p. unmoved state M C drives h node x is p) (λ p. won p)
    (λ p. stays_on state M C drives h node x (halts x) is halted (same_count M x (halts x) x.role halted refl) p) a) d
  where
    After : Node S → Type 0
    After y = IsStation state M C drives (record h { node = node }) y

    halted : Kept x (halts x)
    halted = record { role = refl; generation = refl; list = refl; copy = refl; start = refl; held = refl }

    won : IsNode state M C drives node (wins x) → After (wins x)
    won p = record {
      node = p;
      inputs = is.inputs ∙ sym (won_list x x.role);
      count = is.count ∙ sym (won_count M x x.role);
      a_node = won_a_node x.role is.a_node;
    }
