-- What is settled: the inputs and the count of the node that decides what the guest has done.
use Rattle.std.specs.Prelude.{◌≡◌, ℕ, max, ◌⊎◌, Bool, true, false, Some, None, List, [], ◌∷◌, ◌++◌, slice_get}
use Rattle.guest_lockstep.specs.Machine.{Machine}
use Rattle.log_entry.specs.Entries.{inputs_of, last_count}
use Rattle.guest_lockstep.specs.declared.timed.Timed.{Timed}
use Rattle.pair_protocol.specs.Node.{Node, Role, Primary, Backup, Joining, Draining, Alone, Spare}
use Rattle.pair_protocol.specs.World.{World, winner_in}

-- the list of a node: all its inputs, or those that it began with and those of the entries that it holds
abbrev pub list_of : {S : Type 0} → Node S → Role → List Timed
list_of x Primary = x.list
list_of x Alone = x.list
list_of x Backup = x.copy ++ inputs_of x.held
list_of x Draining = x.copy ++ inputs_of x.held
list_of x Joining = x.copy ++ inputs_of x.held
list_of x Spare = []

-- the count of a node: its machine's, or the count of the last entry that it holds
abbrev pub count_in : {S : Type 0} → Machine S → Node S → Role → ℕ
count_in M x Primary = M.count x.machine
count_in M x Alone = M.count x.machine
count_in M x Backup = last_count x.start x.held
count_in M x Draining = last_count x.start x.held
count_in M x Joining = last_count x.start x.held
count_in M x Spare = 0

-- the highest generation
abbrev pub highest : {S : Type 0} → List (Node S) → ℕ
highest [] = 0
highest (x ∷ nodes) = max x.generation (highest nodes)

-- a backup, or a node that is about to be one
abbrev pub is_backup : Role → Bool
is_backup Backup = true
is_backup Joining = true
is_backup Primary = false
is_backup Draining = false
is_backup Alone = false
is_backup Spare = false

-- the node that settles: in the highest generation the winner, or the backup if nobody has won
pub record Settles {S : Type 0} (w : World S) (n : ℕ) (x : Node S) : Type 0 where
  pub there : slice_get w.nodes n ≡ Some x
  pub highest_is : x.generation ≡ highest w.nodes
  pub a_node : x.role ≡ Spare → ⊥
  pub who :
      (winner_in w.winners x.generation ≡ Some n)
      ⊎ ((winner_in w.winners x.generation ≡ None) × (is_backup x.role ≡ true))

-- its list and its count
pub record Settled {S : Type 0} (M : Machine S) (w : World S) (list : List Timed) (count : ℕ) : Type 0 where
  pub n : ℕ
  pub x : Node S
  pub settles : Settles w n x
  pub list_is : list_of x x.role ≡ list
  pub count_is : count_in M x x.role ≡ count
