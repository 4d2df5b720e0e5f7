-- What the fields of a `Pending` mean, and what holds of every `Pending`.
use Rattle.std.specs.Prelude.{◌-◌, ◌≤◌}
use Rattle.slab.specs.Slab.{slab_len}
use Rattle.event_callbacks.specs.Operations.{Outstanding}
use Rattle.event_callbacks.specs.Slots.{operations_of, IsNamedOnce}
use Rattle.event_callbacks.specs.declared.pending.Pending.TheInside.{Inside}

-- the operations in the slots are outstanding, and there is room for this many more
abbrev pub outstanding_of : Inside → Outstanding
outstanding_of p = record { operations = operations_of p.slab.slots; spare = p.spare }

-- each name occurs once, and the room that is claimed is there
pub record IsPending (p : Inside) : Type 0 where
  pub once : IsNamedOnce p.slab.slots
  pub room : p.spare ≤ p.slab.capacity - slab_len p.slab
