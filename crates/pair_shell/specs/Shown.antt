-- What a node shows of its log.
use Rattle.std.specs.Prelude.{ℕ, List, unwrap_or}
use Rattle.ft_node.specs.declared.ran.Standing.{Standing}
use Rattle.ft_world.specs.Guests.{standing_at}
use Rattle.pair_protocol.specs.Node.{Node}

-- nothing of a node that has none
abbrev pub shown_at : {S : Type 0} → List (Node S) → ℕ → Standing
shown_at nodes n = unwrap_or (standing_at nodes n) (record { entries = 0; done = 0 })
