-- The parts that are sent: each is of a machine that is reached from boot, and a joining node is given those of one.
use Rattle.std.specs.Prelude.{◌≡◌, ℕ, Some, List, [], slice_get}
use Rattle.guest_lockstep.specs.Machine.{Machine, Move}
use Rattle.guest_lockstep.specs.Reach.{Owns}
use Rattle.pair_protocol.specs.Copying.{Copying, IsCopying, Makes}
use Rattle.pair_protocol.specs.Lawful.{Among, Lawful, Reaches}
use Rattle.pair_protocol.specs.Node.{Node, Joining, gathered}
use Rattle.pair_protocol.specs.World.{World, ImagePart}
use Rattle.pair_protocol.specs.Change.{Reached}

-- the parts that were sent in the generation of a joining node, and those that it has, are those of one machine
pub record IsGiven {S : Type 0} (M : Machine S) (C : Copying S) (w : World S) (x : Node S) : Type 0 where
  pub machine : S
  pub moves : List Move
  pub reached : Reaches M moves machine
  pub owns : Owns M [] M.boot moves
  pub sent : (index : ℕ) (part : List ℕ) → Among (ImagePart x.generation index part) w.messages
      → slice_get (C.parts machine) index ≡ Some part
  pub all : (parts : List (List ℕ)) → gathered x.parts ≡ Some parts → C.assemble parts ≡ Some machine

-- in every world that actions reach, each joining node is given such parts, and all of them make the machine
abbrev pub JoiningIsGiven : (S : Type 0) → Type 0
JoiningIsGiven S =
    (M : Machine S) (C : Copying S) → Lawful M → IsCopying M C → Makes M C → (w : World S) → Reached M C w →
    (n : ℕ) (x : Node S) → slice_get w.nodes n ≡ Some x → x.role ≡ Joining → IsGiven M C w x

-- a part of the image of a machine that is reached from boot
pub record IsPartOf {S : Type 0} (M : Machine S) (C : Copying S) (index : ℕ) (part : List ℕ) : Type 0 where
  pub machine : S
  pub moves : List Move
  pub reached : Reaches M moves machine
  pub owns : Owns M [] M.boot moves
  pub is_part : slice_get (C.parts machine) index ≡ Some part

-- in every world that actions reach, each part that was sent is such a part
abbrev pub PartsAreOfMachines : (S : Type 0) → Type 0
PartsAreOfMachines S =
    (M : Machine S) (C : Copying S) → Lawful M → IsCopying M C → (w : World S) → Reached M C w →
    (generation index : ℕ) (part : List ℕ) → Among (ImagePart generation index part) w.messages → IsPartOf M C index part
