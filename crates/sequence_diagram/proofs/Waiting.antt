-- What waits after one event more.
use Rattle.std.proofs.Common.{◌≡◌, ℕ, suc, ◌+◌, ◌≤◌, List, [], ◌∷◌, ◌++◌, length, Option, Some, None, ap, refl, subst, sym, arith}
use Rattle.std.specs.Prelude.{filter, slice_get}
use Rattle.sequence_diagram.specs.Arrows.{HasArrow, IsArrowTo}
use Rattle.sequence_diagram.specs.Waits.{AreWaits, HasCargo, Standing, StandsThen, WaitsAfter, acknowledged, after_event, cargo_in, still_waits, wait_of}
use Rattle.sequence_diagram.specs.declared.arrows.Arrow.{Arrow}
use Rattle.sequence_diagram.specs.declared.moment.Cargo.{Cargo}
use Rattle.sequence_diagram.specs.declared.moment.Moment.{Moment}
use Rattle.sequence_diagram.specs.declared.waits.WaitingOperation.{WaitingOperation}
use Rattle.sequence_diagram.specs.declared.waits.OutputWait.{OutputWait}

module _ (moments : List Moment) (place : ℕ) where
  -- the event has brought nothing, or a message whose event is not there, or one that is
  pub brings_nothing : HasArrow moments place None → HasCargo moments place None
  brings_nothing none = (None, (none, refl))

  pub brings_lost : (arrow : Arrow) → IsArrowTo moments place arrow → slice_get moments arrow.sent ≡ None → HasCargo moments place None
  brings_lost arrow is sent = (Some arrow, (is, ap cargo_in (sym sent)))

  pub brings_cargo : (arrow : Arrow) (sender : Moment) → IsArrowTo moments place arrow
      → slice_get moments arrow.sent ≡ Some sender → HasCargo moments place sender.cargo
  brings_cargo arrow sender is sent = (Some arrow, (is, ap cargo_in (sym sent)))

  -- what stands after the event
  pub stands_then : (moment : Moment) (cargo : Option Cargo) (before after : Standing) → slice_get moments place ≡ Some moment
      → HasCargo moments place cargo → after ≡ after_event moment cargo before → StandsThen moments place before after
  stands_then moment cargo before after here brings is = (moment, (here, (cargo, (brings, is))))

  -- one event more
  pub waits_then : (before after : Standing) (waited waits : List OutputWait) → StandsThen moments place before after
      → waits ≡ waited ++ wait_of after ∷ [] → WaitsAfter moments place before waited → WaitsAfter moments (place + 1) after waits
  waits_then before after waited waits stands more so_far =
      let on : place + 1 ≡ suc place = omega arith in
      subst (λ n. WaitsAfter moments n after waits) (sym on) (before, (waited, (so_far, (stands, more))))

-- all events
pub waits_all : (moments : List Moment) (place : ℕ) (s : Standing) (waits : List OutputWait) → length moments ≤ place
    → place ≤ length moments → WaitsAfter moments place s waits → AreWaits moments waits
waits_all moments place s waits past within so_far =
    let all : place ≡ length moments = omega (arith, past, within) in
    (s, subst (λ n. WaitsAfter moments n s waits) all so_far)

-- what is acknowledged waits no longer
pub covers : (s : Standing) (held replayed : ℕ) (items : List WaitingOperation) → items ≡ filter (still_waits held replayed) s.waiting
    → record s { held = held; replayed = replayed; waiting = items } ≡ acknowledged held replayed s
covers s held replayed items is = ap (λ l. record s { held = held; replayed = replayed; waiting = l }) is
