-- How one event may change what is settled: it only grows, and no winner loses.
use Rattle.std.specs.Prelude.{◌≡◌, ℕ, ◌≤◌, Some, None, List, [], ◌∷◌, ◌++◌, slice_get}
use Rattle.guest_lockstep.specs.Machine.{Machine}
use Rattle.guest_lockstep.specs.declared.timed.Timed.{Timed}
use Rattle.pair_protocol.specs.Node.{Node}
use Rattle.pair_protocol.specs.World.{World, winner_in}
use Rattle.pair_protocol.specs.Settled.{Settled, list_of}
use Rattle.pair_protocol.specs.Faithful.{IsPrefix}

-- every input of a list is at this count or later
abbrev pub AllFrom : ℕ → List Timed → Type 0
AllFrom count [] = Unit {0}
AllFrom count (t ∷ list) = (count ≤ t.count) × AllFrom count list

-- the new list extends the old one: each added input is at the old count or later
pub record Extends (old : List Timed) (count : ℕ) (new : List Timed) (later : ℕ) : Type 0 where
  pub added : List Timed
  pub goes_on : old ++ added ≡ new
  pub count_grows : count ≤ later
  pub added_later : AllFrom count added

pub record Grows {S : Type 0} (M : Machine S) (old new : World S) : Type 0 where
  -- growth: what is settled is extended
  pub settled : (list : List Timed) (count : ℕ) (longer : List Timed) (later : ℕ) →
      Settled M old list count → Settled M new longer later → Extends list count longer later
  -- a winner stays
  pub winners : (generation n : ℕ) → winner_in old.winners generation ≡ Some n →
      winner_in new.winners generation ≡ Some n
  -- a winner's list begins with what was settled before it won
  pub won : (list : List Timed) (count : ℕ) (generation n : ℕ) (x : Node S) → Settled M old list count →
      winner_in old.winners generation ≡ None → winner_in new.winners generation ≡ Some n →
      slice_get new.nodes n ≡ Some x → IsPrefix list (list_of x x.role)
