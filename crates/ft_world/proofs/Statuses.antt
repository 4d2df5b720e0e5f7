-- What a station shows of its node is what the node of the world has at that number.
use Rattle.ft_world.proofs.Words.{AreHosts, Copying, Host, IsHost, IsNode, IsRole, IsStatusAt, Machine, Node, Station, node_count, same_some}
use Rattle.std.proofs.Common.{◌≡◌, Err, IfOk, List, Ok, Result, Some, refl, subst, sym, ℕ}
use Rattle.std.specs.Prelude.{slice_get}
use Rattle.std.specs.Result.{result_ok}
use Rattle.ft_world.specs.declared.host.Host.TheVariants as host
use Rattle.ft_world.specs.declared.hosts.NodeStatus.{NodeStatus}
use Rattle.ft_world.proofs.Agreeing.{agree-other}

-- what holds of the value that a call gives holds of the one that was found
pub holds_of_found : {A E : Type 0} (P : A → Type 0) (r : Result A E) (v : A) → Some v ≡ result_ok r → IfOk r P → P v
holds_of_found P (Ok a) v e h = subst P (sym (same_some v a (Some v) refl e)) h
holds_of_found P (Err fault) v e h = absurd (cc)

pub station_shows : {B H S : Type 0} (state : B → S) (M : Machine S) (C : Copying S) (drives : ℕ) (hosts : List (Host B H)) (nodes : List (Node S))
    (n : ℕ) (station : Station B H) (status : NodeStatus) → AreHosts state M C drives hosts nodes →
    slice_get hosts n ≡ Some (host.Node station) →
    ((x : Node S) → IsNode state M C drives station.node x → IsRole x status.role) →
    ((x : Node S) → IsNode state M C drives station.node x → x.generation ≡ status.generation) →
    ((x : Node S) → IsNode state M C drives station.node x → node_count M x x.role ≡ status.count) →
    IsStatusAt M (slice_get nodes n) (Some status)
station_shows {B} {H} state M C drives hosts nodes n station status are at role generation count =
    let o = agree-other (IsHost {B = B} {H = H} state M C drives) (slice_get hosts n) (slice_get nodes n) (host.Node station) at
    (are n) in
    let is = o.2 in
    subst (λ here. IsStatusAt M here (Some status)) (sym o.1)
    (record {
      role = role o.0 is.node;
      generation = sym (generation o.0 is.node);
      count = sym (count o.0 is.node);
      a_node = is.a_node;
    })
