-- What holds of each node of a world that actions reach: its machine, the keys that it took, its log, and what it has
-- still to replay.
use Rattle.std.specs.Prelude.{◌≡◌, ℕ, ◌≤◌, ◌⊎◌, List, length, drop}
use Rattle.guest_lockstep.specs.Machine.{Machine, Move}
use Rattle.log_entry.specs.Standing.{IsOnTrace}
use Rattle.guest_lockstep.specs.Reach.{keys}
use Rattle.pair_protocol.specs.Lawful.{Reaches}
use Rattle.pair_protocol.specs.Node.{Node, Primary}
use Rattle.pair_protocol.specs.Change.{Replaying, Serving}
use Rattle.pair_protocol.specs.Settled.{list_of}

-- some moves lead from boot to this state
abbrev pub IsReached : {S : Type 0} → Machine S → S → Type 0
IsReached M s = (moves : List Move) × Reaches M moves s

-- what holds of a node, by its role
pub record NodeStands {S : Type 0} (M : Machine S) (x : Node S) : Type 0 where
  -- a node that serves or replays has a machine that was run from boot
  pub machine : Serving x.role ⊎ Replaying x.role → IsReached M x.machine
  -- the machine of a node that serves has taken the keys of the node's list
  pub keys : Serving x.role → (port : ℕ) → M.keys x.machine port ≡ length (keys port (list_of x x.role))
  -- a primary has logged everything that is covered
  pub covered : x.role ≡ Primary → x.covered ≤ length x.log
  -- a node that replays has replayed no more than it holds, the rest are the next entries of a recorded run, and the
  -- bytes that have arrived for the first of them are those that the run takes
  pub replayed : Replaying x.role → x.replayed ≤ length x.held
  pub on_trace : Replaying x.role → IsOnTrace M x.machine (drop x.replayed x.held) x.fetched
