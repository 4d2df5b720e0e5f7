-- The part that comes next is filled, or nothing is.
use Rattle.std.proofs.Common.{◌≡◌, List, Option, Some, None, ap, subst, sym, ◌∙◌}
use Rattle.pair_events.specs.declared.event.Event.{Event}
use Rattle.shell_language.specs.declared.book.Book.{Book}
use Rattle.shell_picture.specs.Parts.{Fills, FillsPart}
use Rattle.shell_picture.specs.Rounds.{begun}
use Rattle.shell_picture.specs.declared.day.Day.{Day}
use Rattle.shell_picture.specs.declared.phase.Phase.{Phase}

module _ (next : Option Phase) (day : Day) (book : Book) (old new : List Event) (day' : Day) where
  pub fills_on : (part : Phase) (mid : Day) → next ≡ Some part → mid ≡ begun next day
      → FillsPart part mid book old new day' → Fills next day book old new day'
  fills_on part mid is at made =
      subst (λ o. Fills o day book old new day') (sym is)
      (subst (λ d. FillsPart part d book old new day') (at ∙ ap (λ o. begun o day) is) made)

  pub fills_none : next ≡ None → day' ≡ begun next day → new ≡ old → Fills next day book old new day'
  fills_none is at same = subst (λ o. Fills o day book old new day') (sym is) (same, at ∙ ap (λ o. begun o day) is)
