-- A law of every world that the pairs of a machine reach, and what a law may ask of that machine and of its copy.
use Rattle.std.specs.Prelude.{◌<◌}
use Rattle.guest_lockstep.specs.Machine.{Machine}
use Rattle.pair_protocol.specs.Change.{Reached}
use Rattle.pair_protocol.specs.Copying.{Copying, IsCopying, Makes}
use Rattle.pair_protocol.specs.Lawful.{Lawful}
use Rattle.pair_protocol.specs.World.{World}
use Rattle.pair_progress.specs.Completion.{Responds}
use Rattle.pair_progress.specs.Reading.{ReadsSectors}

-- for each lawful machine and each copy of it of which more is asked, the law holds of every world that actions reach
abbrev pub Always : (S : Type 0) → (Machine S → Copying S → Type 0) → (Machine S → Copying S → World S → Type 0) → Type 0
Always S Asks Law =
    (M : Machine S) (C : Copying S) → Lawful M → IsCopying M C → Asks M C → (w : World S) → Reached M C w → Law M C w

-- no more is asked
abbrev pub AsksNothing : {S : Type 0} → Machine S → Copying S → Type 0
AsksNothing M C = Unit {0}

-- the machine responds
abbrev pub AsksResponse : {S : Type 0} → Machine S → Copying S → Type 0
AsksResponse M C = Responds M

-- and reads sectors
abbrev pub AsksSectors : {S : Type 0} → Machine S → Copying S → Type 0
AsksSectors M C = Responds M × ReadsSectors M

-- an image has parts, and they make the machine again
abbrev pub AsksParts : {S : Type 0} → Machine S → Copying S → Type 0
AsksParts M C = Makes M C × (0 < C.part_count)
