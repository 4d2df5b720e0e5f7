-- Where the message was sent that an event has brought.
use Rattle.std.proofs.Common.{◌≡◌, ℕ, List, Some, None, ap, refl, sym}
use Rattle.std.specs.Prelude.{slice_get}
use Rattle.std.specs.Option.{option_map}
use Rattle.sequence_diagram.specs.Aims.{HasOrigin}
use Rattle.sequence_diagram.specs.Arrows.{HasArrow, IsArrowTo}
use Rattle.sequence_diagram.specs.Places.{sender_of}
use Rattle.sequence_diagram.specs.declared.arrows.Arrow.{Arrow}
use Rattle.sequence_diagram.specs.declared.moment.Moment.{Moment}

module _ (moments : List Moment) (place : ℕ) where
  -- nothing was brought, or a message whose event is not there, or one that is
  pub brings_nothing : HasArrow moments place None → HasOrigin moments place None
  brings_nothing none = (None, (none, refl))

  pub brings_lost : (arrow : Arrow) → IsArrowTo moments place arrow → slice_get moments arrow.sent ≡ None → HasOrigin moments place None
  brings_lost arrow is sent = (Some arrow, (is, ap (option_map (λ (m : Moment). sender_of m.event)) (sym sent)))

  pub brings_sent : (arrow : Arrow) (sender : Moment) → IsArrowTo moments place arrow
      → slice_get moments arrow.sent ≡ Some sender → HasOrigin moments place (Some (sender_of sender.event))
  brings_sent arrow sender is sent = (Some arrow, (is, ap (option_map (λ (m : Moment). sender_of m.event)) (sym sent)))
