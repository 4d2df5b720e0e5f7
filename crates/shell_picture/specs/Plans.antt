-- What is left of a plan when its next event was chosen.
use Rattle.std.specs.Prelude.{◌≡◌, Some, slice_get}
use Rattle.pair_events.specs.declared.event.Event.{Event}
use Rattle.shell_picture.specs.declared.plan.EventQueue.{EventQueue}

-- this is the first event of its list, and those after it are to come
pub record GivesFirst (event : Event) (plan : EventQueue) : Type 0 where
  pub first : slice_get plan.agenda.items 0 ≡ Some event
  pub later : plan.place ≡ 1
