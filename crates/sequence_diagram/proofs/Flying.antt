-- A message that arrived has its event, the event that sent it, and the message that this one sent.
use Rattle.std.proofs.Common.{◌≡◌, ℕ, List, Option, Some, None, ap}
use Rattle.std.specs.Prelude.{slice_get}
use Rattle.sequence_diagram.specs.Arrows.{HasArrow, IsArrowTo}
use Rattle.sequence_diagram.specs.Messages.{brought_of, sent_at, sent_of}
use Rattle.sequence_diagram.specs.declared.arrows.Arrow.{Arrow}
use Rattle.sequence_diagram.specs.declared.moment.Moment.{Moment}

none_some : {A : Type 0} (x : A) (found : Option A) → found ≡ None → found ≡ Some x → ⊥
none_some x found none some = absurd (cc)

module _ (moments : List Moment) (place : ℕ) where
  -- there is no such event
  pub not_here : slice_get moments place ≡ None → HasArrow moments place None
  not_here none message brought = absurd (none_some message _ (ap brought_of none) brought)

  -- none has sent it
  pub not_there : (arrow : Arrow) → IsArrowTo moments place arrow → slice_get moments arrow.sent ≡ None
      → HasArrow moments place None
  not_there arrow is none message brought = absurd (none_some arrow.message _ (ap sent_of none) is.sent)

  pub not_sent : (arrow : Arrow) → IsArrowTo moments place arrow → sent_at moments arrow.sent ≡ None
      → HasArrow moments place None
  not_sent arrow is none message brought = absurd (none_some arrow.message _ none is.sent)
