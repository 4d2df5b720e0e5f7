-- Which pages a step of the guest writes, and how often each page was written after some steps.
use Rattle.std.specs.Prelude.{ℕ, zero, suc, Bool, false, ◌==◌, ◌||◌, List, [], ◌∷◌}
use Rattle.i8080_words.specs.Effects.{Access}
use Rattle.i8080_words.specs.Effects.Access.{Write, Input, Output}
use Rattle.guest_lockstep.specs.Pages.{state_after}
use Rattle.guest_memory.specs.Pages.{page_of}
use Rattle.guest_parts.specs.Guest.{Guest}
use Rattle.guest_board.specs.Guest.{step_of}
use Rattle.guest_board.specs.Inputs.{some_altair}
use Rattle.guest_board.specs.Stepping.{next_versions}

-- one of these accesses writes the page
abbrev pub is_accessed : List Access → ℕ → Bool
is_accessed [] page = false
is_accessed (Write address byte ∷ accesses) page = (page_of address == page) || is_accessed accesses page
is_accessed (Input number ∷ accesses) page = is_accessed accesses page
is_accessed (Output number byte ∷ accesses) page = is_accessed accesses page

-- the next step writes the page
abbrev pub writes_page : Guest → ℕ → Bool
writes_page g page = is_accessed (step_of g).accesses page

-- the versions after this many steps
abbrev pub versions_over : Guest → List ℕ → ℕ → List ℕ
versions_over g versions zero = versions
versions_over g versions (suc n) = next_versions (state_after some_altair g n) (versions_over g versions n)
