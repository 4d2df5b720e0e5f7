-- The laws of a pair, for any lawful machine and any copy of it.
use Rattle.std.specs.Prelude.{◌≡◌, ℕ, Some, List, length, slice_get}
use Rattle.guest_lockstep.specs.Machine.{Machine}
use Rattle.guest_lockstep.specs.declared.reads.Reads.{Reads}
use Rattle.pair_protocol.specs.Lawful.{Lawful}
use Rattle.pair_protocol.specs.Copying.{Copying, IsCopying, no_copies}
use Rattle.pair_protocol.specs.Node.{Alone, Node}
use Rattle.pair_protocol.specs.NodeStands.{NodeStands}
use Rattle.pair_protocol.specs.Settled.{highest}
use Rattle.pair_protocol.specs.World.{World, opening}
use Rattle.pair_protocol.specs.Change.{Changes, Reached}
use Rattle.pair_events.specs.declared.event.Event.{Event}
use Rattle.pair_protocol.specs.Reply.{Reply}
use Rattle.pair_protocol.specs.Row.{Row, Run}
use Rattle.pair_protocol.specs.Faithful.{Faithful}
use Rattle.pair_protocol.specs.Grows.{Grows}

-- every world that actions reach is faithful
abbrev pub ReachedIsFaithful : (S : Type 0) → Type 0
ReachedIsFaithful S =
    (M : Machine S) (C : Copying S) → Lawful M → IsCopying M C → (w : World S) → Reached M C w → Faithful M w

-- and a further event lets what is settled grow
abbrev pub ReachedGrows : (S : Type 0) → Type 0
ReachedGrows S =
    (M : Machine S) (C : Copying S) → Lawful M → IsCopying M C → (w new : World S) (e : Event) (r : Reply) →
    Reached M C w → Row M C w e r new → Grows M w new

-- in every world that actions reach, each node is as its role asks
abbrev pub NodesStand : (S : Type 0) → Type 0
NodesStand S =
    (M : Machine S) (C : Copying S) → Lawful M → IsCopying M C → (w : World S) → Reached M C w →
    (n : ℕ) (x : Node S) → slice_get w.nodes n ≡ Some x → NodeStands M x

-- a node that is alone is of the highest generation
abbrev pub AloneIsHighest : (S : Type 0) → Type 0
AloneIsHighest S =
    (M : Machine S) (C : Copying S) → Lawful M → IsCopying M C → (w : World S) → Reached M C w →
    (n : ℕ) (x : Node S) → slice_get w.nodes n ≡ Some x → x.role ≡ Alone → x.generation ≡ highest w.nodes

-- `no_copies` is a copying of every machine
abbrev pub NeedsNoCopies : (S : Type 0) → Type 0
NeedsNoCopies S = (M : Machine S) → IsCopying M no_copies

-- an event is a sequence of actions
abbrev pub RowIsChanges : (S : Type 0) → Type 0
RowIsChanges S =
    (M : Machine S) (C : Copying S) (w new : World S) (e : Event) (r : Reply) → Row M C w e r new → Changes M C w new

-- after any actions the world is still one that actions reach
abbrev pub ChangesReach : (S : Type 0) → Type 0
ChangesReach S =
    (M : Machine S) (C : Copying S) (w new : World S) → Reached M C w → Changes M C w new → Reached M C new

-- every world of a run is reached by actions
abbrev pub RunReaches : (S : Type 0) → Type 0
RunReaches S =
    (M : Machine S) (C : Copying S) (reads : Reads) (events : List Event) (replies : List Reply) (w : World S) →
    Run M C (opening M reads) events replies w → Reached M C w

-- every world of a run is faithful
abbrev pub RunIsFaithful : (S : Type 0) → Type 0
RunIsFaithful S =
    (M : Machine S) (C : Copying S) → Lawful M → IsCopying M C →
    (reads : Reads) (events : List Event) (replies : List Reply) (w : World S) →
    Run M C (opening M reads) events replies w → Faithful M w

-- and each further event lets what is settled grow
abbrev pub RunGrows : (S : Type 0) → Type 0
RunGrows S =
    (M : Machine S) (C : Copying S) → Lawful M → IsCopying M C →
    (reads : Reads) (events : List Event) (replies : List Reply) (w new : World S) (e : Event) (r : Reply) →
    Run M C (opening M reads) events replies w → Row M C w e r new → Grows M w new

-- a run gives one reply for each event
abbrev pub RunReplies : (S : Type 0) → Type 0
RunReplies S =
    (M : Machine S) (C : Copying S) (old new : World S) (events : List Event) (replies : List Reply) →
    Run M C old events replies new → length replies ≡ length events
