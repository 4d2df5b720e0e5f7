-- What the calls of the hosts require: a primary's machine was run from boot, so few of its operations are outstanding,
-- wherever it goes. A machine that begins elsewhere runs alike.
use Rattle.ft_world.proofs.Words.{Copying, Course, Do, Guest, IsCopying, IsHost, IsMachine, IsNode, Lawful, Machine, MayRun, Move, Node, Reached, Reaches, Record, Running, Runs, Serving, Shows, ShowsSome, Station, Take, World, machine_of, nodes_stand, runs-append}
use Rattle.std.proofs.Common.{◌≡◌, ◌++◌, [], ◌∷◌, List, Some, inl, subst, ℕ}
use Rattle.std.specs.Prelude.{slice_get}
use Rattle.guest_lockstep.specs.Outstanding.{IsFrugal}
use Rattle.ft_node.specs.declared.node.Node as code
use Rattle.ft_node.specs.declared.node.Node.TheVariants as node
use Rattle.ft_world.specs.declared.host.Host.TheVariants as host
use Rattle.ft_world.proofs.Agreeing.{agree-other}

-- a node that serves has a machine that was run from boot
pub serving_runs : {S : Type 0} (M : Machine S) (C : Copying S) (w : World S) (n : ℕ) (x : Node S) → Lawful M → IsCopying M C →
    Reached M C w → slice_get w.nodes n ≡ Some x → Serving x.role → (moves : List Move) × Reaches M moves x.machine
serving_runs M C w n x laws copies h there serves =
    (nodes_stand M C laws copies w h n x there).machine (inl serves)

runs_same : {S : Type 0} (M : Machine S) (c : Course S) (s t : S) (moves : List Move) → Runs M s moves t →
    Runs (machine_of M c) s moves t
runs_same M c s t [] h = h
runs_same M c s t (Do gives ∷ moves) h = (h.0, h.1, runs_same M c h.0 t moves h.2)
runs_same M c s t (Take i ∷ moves) h = (h.0, h.1, runs_same M c h.0 t moves h.2)

frugal : {S : Type 0} (M : Machine S) (c : Course S) (drives : ℕ) (front : List Move) (s : S) →
    IsMachine (machine_of M c) c.copying drives → Reaches (machine_of M c) front s → IsFrugal M s
frugal M c drives front s machine from = λ moves t runs.
    let few = machine.lawful.few (front ++ moves) t
    (runs-append (machine_of M c) c.boot s t front moves from (runs_same M c s t moves runs)) in
    record { names = few.names; few = few.few; all = few.all }

may_run : {B H D S : Type 0} (state : B → S) (copied : B → Guest) (M : Machine S) (records : D → List Record) (old : Running B H D)
    (c : Course S) (n : ℕ) (x : Node S) (node : code.Node B H) → (h : Shows state copied M records old c) →
    slice_get c.world.nodes n ≡ Some x → IsNode state M c.copying h.drives node x → MayRun state M node
may_run state copied M records old c n x (node.Primary p) h there is =
    let N = machine_of M c in
    let r = serving_runs N c.copying c.world n x h.machine.lawful h.machine.copies h.reached there (inl is.role) in
    subst (λ s. IsFrugal M s) is.machine (frugal M c h.drives r.0 x.machine h.machine r.1)
may_run state copied M records old c n x (node.Backup b) h there is = tt
may_run state copied M records old c n x (node.Joining j) h there is = tt
may_run state copied M records old c n x (node.Draining d) h there is = tt
may_run state copied M records old c n x (node.Alone a) h there is = tt
may_run state copied M records old c n x (node.Halted a) h there is = tt

pub station_may_run : {B H D S : Type 0} (state : B → S) (copied : B → Guest) (M : Machine S) (records : D → List Record)
    (old : Running B H D) (n : ℕ) (station : Station B H) → ShowsSome state copied M records old →
    slice_get old.hosts n ≡ Some (host.Node station) → MayRun state M station.node
station_may_run state copied M records old n station some at =
    let c = some.course in
    let x = agree-other (IsHost state M c.copying some.shows.drives) (slice_get old.hosts n) (slice_get c.world.nodes n) (host.Node station) at
    (some.shows.parts.hosts n) in
    may_run state copied M records old c n x.0 station.node some.shows x.1 x.2.node
