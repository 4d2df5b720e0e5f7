-- The lines of a picture, one after another.
use Rattle.std.proofs.Common.{◌≡◌, ◌∙◌, ℕ, suc, ◌+◌, ◌-◌, ◌<◌, ◌≤◌, List, Option, Some, None, false, ◌∷◌, ◌++◌, [], refl, ap, subst, sym, arith, length}
use Rattle.std.specs.Prelude.{is_some, slice_get}
use Rattle.pair_events.specs.declared.reply.Role.{Role}
use Rattle.sequence_diagram.specs.Columns.{columns_of}
use Rattle.sequence_diagram.specs.Waits.{AreWaits}
use Rattle.sequence_diagram.specs.declared.moment.Moment.{Moment}
use Rattle.sequence_diagram.specs.declared.place.Lifeline.{Lifeline}
use Rattle.sequence_diagram.specs.declared.waits.OutputWait.{OutputWait}
use Rattle.shell_language.specs.declared.line.Stretch.{Stretch}
use Rattle.shell_language.specs.Texts.{AddsLine, Prints, Text}
use Rattle.shell_language.specs.declared.printing.Printed.{Printed}
use Rattle.shell_language.proofs.Adding.{adds_text, prints_none, prints_text, prints_then}
use Rattle.shell_picture.specs.Pictures.{AreEvents, DrawsPicture, IsDrawn, IsEvent, PrintsEvent, PrintsEvents, end_shown, event_text, first_shown, head_text, node_role, told_at, told_or}
use Rattle.shell_picture.specs.Words.{IsSaid}
use Rattle.shell_picture.specs.declared.lanes.LaneMark.{LaneMark}
use Rattle.shell_picture.specs.declared.words.Said.{Said}

-- an event that tells nothing of a node leaves its role
pub told_nothing : (moments : List Moment) (node before : ℕ) (told whole : Option Role) → 0 < before
    → told ≡ told_at moments node (before - 1) → is_some told ≡ false → node_role moments node before ≡ whole
    → node_role moments node (before - 1) ≡ whole
told_nothing moments node before (Some role) whole some is none h = absurd (cc)
told_nothing moments node before None whole some is none h =
    let on : before ≡ suc (before - 1) = omega (arith, some) in
    ap (λ t. told_or t (node_role moments node (before - 1))) is ∙ ap (node_role moments node) (sym on) ∙ h

module _ (moments : List Moment) (places : List Lifeline) (waits : List OutputWait) where
  -- the line of an event
  pub prints_event : (event : ℕ) (stroke : Option LaneMark) (wait : Option OutputWait) (said : Said) (old new : Printed)
      → IsDrawn moments places event stroke → IsSaid moments waits event said → wait ≡ slice_get waits event
      → AddsLine (event_text moments places event stroke wait said) old new → PrintsEvent moments places waits event old new
  prints_event event stroke wait said old new drawn says is adds = (
    Text (event_text moments places event stroke (slice_get waits event) said),
    (
      record { stroke = stroke; drawn = drawn; said = said; says = says; are = refl },
      prints_text (event_text moments places event stroke (slice_get waits event) said) old new
          (subst (λ w. AddsLine (event_text moments places event stroke w said) old new) is adds),
    ),
  )

  -- none so far
  pub no_events : (first : ℕ) (printed : Printed) → PrintsEvents moments places waits first 0 printed printed
  no_events first printed = ([], (refl, prints_none printed))

  -- one more
  pub events_then : (first event : ℕ) (old mid new : Printed) → first ≤ event
      → PrintsEvents moments places waits first (event - first) old mid → PrintsEvent moments places waits event mid new
      → PrintsEvents moments places waits first (event + 1 - first) old new
  events_then first event old mid new within so_far more =
      let here : first + (event - first) ≡ event = omega (arith, within) in
      let on : event + 1 - first ≡ suc (event - first) = omega (arith, within) in
      let is = subst (λ n. IsEvent moments places waits n more.0) (sym here) more.1.0 in
      let all : AreEvents moments places waits first (suc (event - first)) (so_far.0 ++ more.0 ∷ [])
      = (so_far.0, (more.0, (so_far.1.0, (is, refl)))) in
      subst (λ n. PrintsEvents moments places waits first n old new) (sym on)
      (so_far.0 ++ more.0 ∷ [], (all, prints_then so_far.0 (more.0 ∷ []) old mid new so_far.1.1 more.1.1))

-- the whole picture
pub draws_picture : (moments : List Moment) (places : List Lifeline) (all waits : List OutputWait) (stretch : Option Stretch)
    (first end : ℕ) (old mid new : Printed) → places ≡ columns_of moments → AreWaits moments all → waits ≡ all → first ≡ first_shown stretch (length moments)
    → end ≡ end_shown stretch (length moments) → AddsLine (head_text places) old mid
    → PrintsEvents moments places waits first (end - first) mid new → DrawsPicture moments stretch old new
draws_picture moments places all waits stretch first end old mid new are are_waits same from to head events =
    let count : end - first ≡ end_shown stretch (length moments) - first_shown stretch (length moments)
    = ap (λ n. n - first) to ∙ ap (λ n. end_shown stretch (length moments) - n) from in
    record {
      waits = waits;
      are_waits = subst (AreWaits moments) (sym same) are_waits;
      rows = events.0;
      are_rows = subst (λ p. AreEvents moments p waits (first_shown stretch (length moments))
          (end_shown stretch (length moments) - first_shown stretch (length moments)) events.0) are
          (subst (λ n. AreEvents moments places waits n
          (end_shown stretch (length moments) - first_shown stretch (length moments)) events.0) from
          (subst (λ n. AreEvents moments places waits first n events.0) count events.1.0));
      printed = subst (λ p. Prints (Text (head_text p) ∷ events.0) old new) are
          (mid, (adds_text (head_text places) old mid head, events.1.1));
    }
