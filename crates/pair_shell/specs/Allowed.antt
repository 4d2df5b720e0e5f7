-- Events that no rule refuses.
use Rattle.std.specs.Prelude.{◌≡◌, ℕ, ◌<◌, ◌≤◌, Some, None, length, slice_get}
use Rattle.event_callbacks.specs.declared.operations.OpId.{OpId}
use Rattle.event_callbacks.specs.declared.operations.OpId.TheVariants as id
use Rattle.guest_lockstep.specs.Machine.{Machine}
use Rattle.pair_events.specs.declared.event.Event.{Event}
use Rattle.pair_events.specs.declared.event.Event.TheVariants.{Release, SendPart, TellSent}
use Rattle.pair_protocol.specs.Lawful.{top}
use Rattle.pair_protocol.specs.Node.{Node}
use Rattle.pair_protocol.specs.Refusals.{at_node, refusal, release_refusal}
use Rattle.pair_protocol.specs.World.{World, accepted}
use Rattle.pair_progress.specs.Completion.{Responds}
use Rattle.ft_world.specs.Standing.{Course, machine_of}
use Rattle.pair_shell.specs.declared.completing.OperationStage.{OperationStage}
use Rattle.pair_shell.specs.declared.completing.OperationStage.TheVariants as stage

-- how an operation goes on: a node is told of a byte that was accepted, and releases any other operation
abbrev pub going_on : ℕ → OpId → OperationStage → Event
going_on n (id.Byte port number) stage.Accepted = TellSent n port number
going_on n name s = Release n name

-- its terminal has accepted it
abbrev pub IsAccepted : {S : Type 0} → World S → OpId → Type 0
IsAccepted w (id.Byte port number) = number ≤ length (accepted w port)
IsAccepted w (id.Write number) = ⊥

-- how far an operation of a node is: it may be released if it is covered
abbrev pub IsStage : {S : Type 0} → Machine S → World S → ℕ → OpId → OperationStage → Type 0
IsStage M w n name stage.Held = Unit {0}
IsStage M w n name stage.Covered = at_node (slice_get w.nodes n) (release_refusal M name) ≡ None
IsStage M w n name stage.Accepted = IsAccepted w name

-- a part of an image that has so many
abbrev pub IsPartOf : ℕ → ℕ → Event → Type 0
IsPartOf n parts (SendPart a index) = (a ≡ n) × (index < parts)
IsPartOf n parts e = ⊥

-- the rules do not refuse an event
abbrev pub IsAllowed : {S : Type 0} → Machine S → Course S → Event → Type 0
IsAllowed M c e = refusal (machine_of M c) c.copying c.world e ≡ None

-- an index is left for one more entry of each log
abbrev pub HasIndexes : {S : Type 0} → World S → Type 0
HasIndexes {S} w = (n : ℕ) (x : Node S) → slice_get w.nodes n ≡ Some x → length x.log < top

-- what is asked of the machine, of its images, which have at least so many parts, and of the logs
pub record Asks {S : Type 0} (M : Machine S) (c : Course S) (parts : ℕ) : Type 0 where
  pub responds : Responds (machine_of M c)
  pub has_parts : parts ≤ c.copying.part_count
  pub has_indexes : HasIndexes c.world
