-- The copy of a machine: the parts of its image, and the machine that parts make.
use Rattle.std.specs.Prelude.{◌≡◌, ℕ, Option, Some, None, List, [], length}
use Rattle.guest_lockstep.specs.Machine.{Machine, Move}
use Rattle.guest_lockstep.specs.Reach.{Owns}
use Rattle.pair_protocol.specs.Lawful.{Reaches}

pub record Copying (S : Type 0) : Type 0 where
  -- the parts of an image, and how many an image has
  pub parts : S → List (List ℕ)
  pub part_count : ℕ
  -- the machine that all parts of an image make
  pub assemble : List (List ℕ) → Option S

-- what a pair asks of the copy of a machine that it runs
pub record IsCopying {S : Type 0} (M : Machine S) (C : Copying S) : Type 0 where
  -- each image has this many parts
  pub counted : (moves : List Move) (s : S) → Reaches M moves s → length (C.parts s) ≡ C.part_count
  -- if every sector it took had its own disk's bytes, a machine made from an image's parts is the machine that was imaged
  pub again : (moves : List Move) (s t : S) → Reaches M moves s → Owns M [] M.boot moves
      → C.assemble (C.parts s) ≡ Some t → t ≡ s

-- and the parts of an image do make a machine
abbrev pub Makes : {S : Type 0} → Machine S → Copying S → Type 0
Makes {S} M C = (moves : List Move) (s : S) → Reaches M moves s → Owns M [] M.boot moves
    → C.assemble (C.parts s) ≡ Some s

-- no copies: an image has no parts, and no machine is made
abbrev pub no_copies : {S : Type 0} → Copying S
no_copies = record { parts = λ s. []; part_count = 0; assemble = λ parts. None }
