-- Pages of an alone node's machine are copied early: the node of the protocol stays as it is, and so does the world. The
-- reply says how many pages are still stale.
use Rattle.ft_world.proofs.Words.{Applies, AreFreshened, Copying, Course, Ever, Fault, Freshens, Guest, Host, HostFreshened, IsNode, IsStation, Machine, Node, Record, Running, Shows, Station, WithStation, freshen_refusal, get_set, with_node, with_same}
use Rattle.std.proofs.Common.{◌≡◌, ◌∙◌, ℕ, Bool, Err, List, Ok, Result, Some, ap, refl}
use Rattle.std.specs.Prelude.{slice_get}
use Rattle.ft_node.specs.declared.node.Node as code
use Rattle.ft_world.specs.declared.host.Host.TheVariants as host
use Rattle.pair_events.specs.declared.event.Event.TheVariants as event
use Rattle.pair_events.specs.declared.reply.Reply.TheVariants as reply
use Rattle.ft_world.proofs.Answering.{retold}
use Rattle.ft_world.proofs.AtHosts.{AtHost}
use Rattle.ft_world.proofs.AtOneNode.{node_applies, node_refused}
use Rattle.ft_world.proofs.Keeping.{Kept, kept_stays, same_count}
use Rattle.ft_world.proofs.Stations.{retells}

-- the node stays as it is
is_kept : {S : Type 0} (x y : Node S) → y ≡ x → Kept x y
is_kept {S} x y e = record {
  role = ap (λ (z : Node S). z.role) e;
  generation = ap (λ (z : Node S). z.generation) e;
  list = ap (λ (z : Node S). z.list) e;
  copy = ap (λ (z : Node S). z.copy) e;
  start = ap (λ (z : Node S). z.start) e;
  held = ap (λ (z : Node S). z.held) e;
}

-- and so does its station, but for the node's own draft
pub freshens_on : {B H S : Type 0} (state : B → S) (M : Machine S) (C : Copying S) (drives : ℕ) (h : Station B H)
    (node : code.Node B H) (r : Result ℕ Fault) (x : Node S) → IsStation state M C drives h x
    → Freshens x r (IsNode state M C drives node)
    → Freshens x r (IsStation state M C drives (record h { node = node }))
freshens_on {B} {H} {S} state M C drives h node r x i d =
    retold r (retells state M C drives h node x (freshen_refusal x) Ever (λ left x y. y ≡ x) i (λ v y none s.
    (let k = is_kept x y s in (k, same_count M x y x.role k (ap (λ (z : Node S). z.machine) s))))) d

-- ---- the row

pub freshens_refused : {B H D S : Type 0} (state : B → S) (copied : B → Guest) (M : Machine S) (records : D → List Record)
    (old : Running B H D) (c : Course S) (n pages : ℕ) (fault : Fault) (hosts : List (Host B H)) →
    (h : Shows state copied M records old c) →
    AtHost {A = ℕ} state M c.copying h.drives c.world n freshen_refusal Ever (λ left x y. y ≡ x) (Err fault) hosts →
    Applies state copied M records c (event.Freshen n pages) (Err fault) (record old { hosts = hosts })
freshens_refused state copied M records old c n pages fault hosts h a =
    node_refused h (event.Freshen n pages) fault hosts refl (λ s. tt) refl a

pub freshens_applies : {B H D S : Type 0} (state : B → S) (copied : B → Guest) (M : Machine S) (records : D → List Record)
    (old : Running B H D) (c : Course S) (n pages left : ℕ) (hosts : List (Host B H)) →
    (h : Shows state copied M records old c) →
    AtHost {A = ℕ} state M c.copying h.drives c.world n freshen_refusal Ever (λ left x y. y ≡ x) (Ok left) hosts →
    Applies state copied M records c (event.Freshen n pages) (Ok (reply.Stale left)) (record old { hosts = hosts })
freshens_applies state copied M records old c n pages left hosts h a =
    node_applies h (event.Freshen n pages) (reply.Stale left) hosts refl
    (λ x y free s. kept_stays (is_kept x y s))
    (λ new at. record {
      x = at.x;
      there = at.there;
      stale = left;
      reply = refl;
      after = at.after ∙ ap (with_node c.world n) at.done ∙ with_same c.world n at.x at.there;
    }) a

-- ---- the reply

pub tells_stale : {B H : Type 0} (stale : B → ℕ → Bool) (n pages left : ℕ) (old new : List (Host B H)) (before after : Station B H) →
    slice_get old n ≡ Some (host.Node before) → WithStation old n after new →
    AreFreshened stale pages left before.node after.node → HostFreshened stale n pages left old new
tells_stale stale n pages left old new before after there with are = record {
  before = before;
  there = there;
  after = after;
  then = ap (λ hosts. slice_get hosts n) with.put ∙ get_set old n (host.Node before) (host.Node after) there;
  freshened = are;
}
