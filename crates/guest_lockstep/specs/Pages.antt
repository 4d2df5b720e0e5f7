-- Which pages of a machine's memory its steps write, and which are to be copied for an image of it.
use Rattle.std.specs.Prelude.{ℕ, zero, suc, Bool, true, false, ◌||◌, Option, Some, None}
use Rattle.event_callbacks.specs.declared.operations.Operation.{Operation}
use Rattle.guest_lockstep.specs.Machine.{Machine}

-- all pages
abbrev pub every_page : ℕ → Bool
every_page page = true

-- the state after a step; without one it stays
abbrev pub after_step : {S : Type 0} → S → Option (S × Option Operation) → S
after_step s None = s
after_step s (Some made) = made.0

-- and after this many
abbrev pub state_after : {S : Type 0} → Machine S → S → ℕ → S
state_after M s zero = s
state_after M s (suc n) = after_step (state_after M s n) (M.step (state_after M s n))

-- one of this many steps writes the page
abbrev pub is_written : {S : Type 0} → Machine S → (S → ℕ → Bool) → S → ℕ → ℕ → Bool
is_written M writes s zero page = false
is_written M writes s (suc n) page = is_written M writes s n page || writes (state_after M s n) page

-- the pages that are stale after this many steps: those that were, and those that a step has written
abbrev pub stale_after : {S : Type 0} → Machine S → (S → ℕ → Bool) → (ℕ → Bool) → S → ℕ → ℕ → Bool
stale_after M writes stale s n page = stale page || is_written M writes s n page
