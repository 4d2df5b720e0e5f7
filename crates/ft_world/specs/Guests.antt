-- The machines that the nodes of a world show, and how far they are with their logs.
use Rattle.std.specs.Prelude.{ℕ, Option, List, slice_get}
use Rattle.std.specs.Option.{option_and_then}
use Rattle.pair_protocol.specs.Node.{Node}
use Rattle.ft_node.specs.Guests.{shown_machine}
use Rattle.ft_node.specs.Standings.{shown_standing}
use Rattle.ft_node.specs.declared.ran.Standing.{Standing}

-- the machine that the node of a number shows; none if there is no such node
abbrev pub machine_at : {S : Type 0} → List (Node S) → ℕ → Option S
machine_at {S} nodes node = option_and_then (λ (x : Node S). shown_machine x) (slice_get nodes node)

-- how far the node that a number has is with its log; none if there is no such node, or if it has none
abbrev pub standing_at : {S : Type 0} → List (Node S) → ℕ → Option Standing
standing_at {S} nodes node = option_and_then (λ (x : Node S). shown_standing x) (slice_get nodes node)
