-- An event that was to bring a message which nobody takes.
use Rattle.std.proofs.Common.{◌≡◌, ℕ, ◌<◌, Bool, true, false, List, Option, Some, None, MatchOption, refl, subst, sym}
use Rattle.std.proofs.lemmas.Bool.{false≢true}
use Rattle.sequence_diagram.specs.Arrows.{IsStray, SentNowhere}
use Rattle.sequence_diagram.specs.Messages.{sent_at, unknown_at}
use Rattle.sequence_diagram.specs.declared.moment.Moment.{Moment}

module _ (moments : List Moment) (place : ℕ) where
  -- it is sent before, or it is not
  abbrev Told : Bool → ℕ → Type 0
  Told found message = (found ≡ true → (k : ℕ) × ((k < place) × (sent_at moments k ≡ Some message)))
      × (found ≡ false → SentNowhere moments 0 place message)

  abbrev Stray : Bool → Option ℕ → Type 0
  Stray found unknown = MatchOption unknown (found ≡ false) (λ message. Told found message)

  pub was_sent : (message k : ℕ) → unknown_at moments place ≡ Some message → k < place → sent_at moments k ≡ Some message
      → IsStray moments place true
  was_sent message k unknown before sent =
      subst (Stray true) (sym unknown) (λ e. (k, (before, sent)), λ e. absurd (false≢true (sym e)))

  pub was_not_sent : (message : ℕ) → unknown_at moments place ≡ Some message → SentNowhere moments 0 place message
      → IsStray moments place false
  was_not_sent message unknown nowhere = subst (Stray false) (sym unknown) (λ e. absurd (false≢true e), λ e. nowhere)

  pub is_known : unknown_at moments place ≡ None → IsStray moments place false
  is_known known = subst (Stray false) (sym known) refl
