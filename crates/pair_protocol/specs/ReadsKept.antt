-- Reads kept: no read that is still to be replayed finds its bytes overwritten.
use Rattle.std.specs.Prelude.{◌≡◌, ℕ, ◌≤◌, ◌⊎◌, Some, None, List, ◌++◌, take, slice_get}
use Rattle.guest_lockstep.specs.Machine.{Machine, Move}
use Rattle.log_entry.specs.Entries.{inputs_of}
use Rattle.log_entry.specs.declared.entry.Entry.TheVariants.{Read}
use Rattle.guest_lockstep.specs.Reach.{Reach}
use Rattle.pair_protocol.specs.Node.{Node, Backup, Draining}
use Rattle.pair_protocol.specs.Settled.{highest}
use Rattle.pair_protocol.specs.World.{World, sector_record, winner_in}

-- a node that still replays what the highest generation holds: its backup while nobody has won, or its draining winner
pub record StillReplays {S : Type 0} (w : World S) (n : ℕ) (x : Node S) : Type 0 where
  pub there : slice_get w.nodes n ≡ Some x
  pub highest_is : x.generation ≡ highest w.nodes
  pub who : ((x.role ≡ Backup) × (winner_in w.winners x.generation ≡ None)) ⊎ (x.role ≡ Draining)

-- for each read that such a node holds and has not replayed there is a trace up to the read, which gives the track; and the
-- disk's record of the sector has the read's number
pub record ReadsKept {S : Type 0} (M : Machine S) (w : World S) : Type 0 where
  pub trace : (n : ℕ) (x : Node S) → StillReplays w n x → (k count drive sector number : ℕ) →
      x.replayed ≤ k → slice_get x.held k ≡ Some (Read count drive sector number) →
      (moves : List Move) × Reach M (x.copy ++ inputs_of (take k x.held)) count moves
  pub kept : (n : ℕ) (x : Node S) → StillReplays w n x → (k count drive sector number : ℕ) →
      x.replayed ≤ k → slice_get x.held k ≡ Some (Read count drive sector number) →
      (moves : List Move) (r : Reach M (x.copy ++ inputs_of (take k x.held)) count moves) →
      (sector_record M w.puts (M.address r.last drive sector)).number ≡ number
