-- Recovery: whatever happened before, a node that may still serve goes live, and then all that is outstanding is completed.
use Rattle.std.specs.Prelude.{ℕ, ◌+◌, ◌⊎◌}
use Rattle.guest_lockstep.specs.Machine.{Machine}
use Rattle.pair_events.specs.declared.event.Event.{Event}
use Rattle.pair_protocol.specs.Copying.{Copying}
use Rattle.pair_protocol.specs.Node.{Node}
use Rattle.pair_protocol.specs.World.{World}
use Rattle.pair_progress.specs.Completion.{IsAtRest, IsCompletion}
use Rattle.pair_progress.specs.Leads.{Leads}
use Rattle.pair_progress.specs.Takeover.{IsItsOwn, MayServe, takeover_events}

-- what a node does by itself to go live, or a completion
abbrev pub IsRecovery : ℕ → Event → Type 0
IsRecovery n e = IsItsOwn n e ⊎ IsCompletion n e

abbrev pub Recovers : {S : Type 0} → Machine S → Copying S → World S → Type 0
Recovers {S} M C w = (n : ℕ) (x : Node S) → MayServe w n x →
    Leads M C w (IsRecovery n) (takeover_events x x.role + 120) (λ new. IsAtRest M new n x.generation)
