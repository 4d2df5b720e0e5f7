-- Which node of the protocol the node of a host may be, where the law has a run to a node. They are one, unless the host's
-- is a backup that has run ahead, or the law's has strayed: then nothing is promised of the host's. So a loop over the calls
-- of a node has a run for what it reads and writes, whoever sent the parts of its machine.
use Rattle.std.specs.Prelude.{◌≡◌, ◌↔◌, ◌⊎◌, ℕ, suc, Option, Some, None, List, [], ◌∷◌, ◌++◌, slice_get}
use Rattle.event_callbacks.specs.declared.operations.Operation.{Operation}
use Rattle.guest_lockstep.specs.Lockstep.{step_refusal}
use Rattle.guest_lockstep.specs.Machine.{Machine}
use Rattle.guest_lockstep.specs.Recorded.{Counts}
use Rattle.guest_lockstep.specs.declared.running.Stopped.{Stopped}
use Rattle.guest_lockstep.specs.declared.timed.Timed.{Timed}
use Rattle.pair_protocol.specs.Copying.{Copying, IsCopying}
use Rattle.pair_protocol.specs.Lawful.{Lawful}
use Rattle.pair_protocol.specs.Node.{Node, Backup, Draining, Alone, plainly_steps}
use Rattle.pair_protocol.specs.Refusals.{role_refusal}
use Rattle.pair_protocol.specs.World.{World}
use Rattle.ft_node.specs.Ahead.{RanAhead}
use Rattle.ft_node.specs.AnyNode.{IsNode}
use Rattle.ft_node.specs.Calls as calls
use Rattle.ft_node.specs.declared.node.Node as code
use Rattle.host_law.specs.Fleet.{Fleet}
use Rattle.host_law.specs.Frame.{Act, Frame}
use Rattle.host_law.specs.Host.{HasTakenKeys, HostStep}
use Rattle.host_law.specs.Ran.{HostRan}
use Rattle.host_law.specs.Shows.{Shows}

-- steps that a machine makes by itself, and counts
pub data StepsTo {S : Type 0} (M : Machine S) (s : S) : S → Type 0 where
  Rests : StepsTo M s s
  Steps : {t u : S} (gives : Option Operation) → StepsTo M s t → step_refusal M t ≡ None → M.step t ≡ Some (u, gives) →
      M.count u ≡ suc (M.count t) → StepsTo M s u

-- the law's node lags: it is the host's, but for steps that the host's machine has made and no entry has shown yet
pub record Lags {S : Type 0} (M : Machine S) (x y : Node S) : Type 0 where
  pub role : (x.role ≡ Backup) ⊎ (x.role ≡ Draining)
  pub s : S
  pub ahead : StepsTo M x.machine s
  pub is : y ≡ plainly_steps x s

-- a node of a host may stand for the law's
pub data Follows {S : Type 0} (M : Machine S) (x : Node S) : Node S → Type 0 where
  Same : Follows M x x
  IsAhead : (y : Node S) → Lags M x y → Follows M x y
  IsStray : (y : Node S) → x.role ≡ Alone → (HasTakenKeys M x → ⊥) → Follows M x y

-- ---- steps

-- the law's node makes a run with these frames, and the host's node still stands for where that leads
pub record StepsToo {S : Type 0} (M : Machine S) (C : Copying S) (me : ℕ) (x : Node S) (act : Act) (z : Node S)
    : Type 0 where
  pub next : Node S
  pub ran : HostRan M C me x act.takes act.sends next
  pub follows : Follows M next z

-- whatever step a host's node makes
abbrev pub StepsFollow : (S : Type 0) → Type 0
StepsFollow S =
    (M : Machine S) (C : Copying S) (me : ℕ) (x y z : Node S) (act : Act) → Follows M x y → HostStep M C me y act z →
    StepsToo M C me x act z

-- and a backup's node may run ahead: the law's lags, and makes no step
abbrev pub AheadFollows : (S : Type 0) → Type 0
AheadFollows S =
    (M : Machine S) → Counts M → (x y z : Node S) (turns : ℕ) (stopped : Stopped) → Follows M x y →
    role_refusal (Backup ∷ []) y ≡ None → RanAhead M turns stopped y z → Follows M x z

-- ---- runs

-- a run of the law read these frames and wrote those, and this node of the host stands for the one that it led to
pub record RanTo {S : Type 0} (M : Machine S) (C : Copying S) (me : ℕ) (x : Node S) (read written : List Frame) (z : Node S)
    : Type 0 where
  pub last : Node S
  pub ran : HostRan M C me x read written last
  pub follows : Follows M last z

-- it begins with nothing, and each step of the host's node adds the frames that go with it
abbrev pub RunsFollow : (S : Type 0) → Type 0
RunsFollow S =
    (M : Machine S) (C : Copying S) (me : ℕ) (x : Node S) →
    RanTo M C me x [] [] x
    × ((read written : List Frame) (y z : Node S) (act : Act) → RanTo M C me x read written y → HostStep M C me y act z →
    RanTo M C me x (read ++ act.takes) (written ++ act.sends) z)

-- in a fleet no host strays, so there the node of a host is the law's, or has run ahead of it
abbrev pub IsTheLaws : (S : Type 0) → Type 0
IsTheLaws S =
    (M : Machine S) (C : Copying S) → Lawful M → IsCopying M C → (f : Fleet S) (w : World S) → Shows M C f w →
    (n : ℕ) (x y : Node S) → slice_get f.hosts n ≡ Some x → Follows M x y → (y ≡ x) ⊎ Lags M x y

-- ---- the list of a node that is alone

-- with this list in place of its own the machine of a host's node has taken the keys of it, as a generation that begins
-- asks
pub record HasList {S : Type 0} (M : Machine S) (x y : Node S) : Type 0 where
  pub list : List Timed
  pub taken : calls.HasTakenKeys M (record y { list = list })
  pub follows : Follows M x (record y { list = list })

-- there is one for each
abbrev pub AloneNodesHaveLists : (S : Type 0) → Type 0
AloneNodesHaveLists S = (M : Machine S) (x y : Node S) → Follows M x y → y.role ≡ Alone → HasList M x y

-- and the node of the code is as well one with that list
abbrev pub ListsAreFree : (B H S : Type 0) → Type 0
ListsAreFree B H S =
    (state : B → S) (M : Machine S) (C : Copying S) (drives : ℕ) (node : code.Node B H) (y : Node S) (list : List Timed) →
    y.role ≡ Alone → IsNode state M C drives node y → IsNode state M C drives node (record y { list = list })

-- the calls of a node and the law ask the same of keys
abbrev pub KeysAreTheSame : (S : Type 0) → Type 0
KeysAreTheSame S = (M : Machine S) (x : Node S) → calls.HasTakenKeys M x ↔ HasTakenKeys M x
