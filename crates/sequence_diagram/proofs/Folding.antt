-- The events of a line, one after another.
use Rattle.std.proofs.Common.{◌≡◌, ℕ, ◌+◌, ◌<◌, ◌≤◌, arith, inl, inr, List, length, subst, sym}
use Rattle.std.proofs.lemmas.Bool.{cases_eq}
use Rattle.sequence_diagram.specs.Folds.{AreNoted, AreOfLine}
use Rattle.sequence_diagram.specs.Folds.AreNoted.{NoneNoted, OneNoted}
use Rattle.sequence_diagram.specs.Lines.{line_at}
use Rattle.sequence_diagram.specs.declared.moment.Moment.{Moment}

module _ {A : Type 0} (Notes : ℕ → A → A → Type 0) (none : A) (moments : List Moment) (of : List ℕ) (first : ℕ) where
  -- those so far are of the line, and were noted
  pub record SoFar (place : ℕ) (all : A) : Type 0 where
    pub noted : AreNoted Notes none first place all
    pub shared : (k : ℕ) → first ≤ k → k < place → line_at of k ≡ line_at of first

  pub first_of_all : SoFar first none
  first_of_all = record { noted = NoneNoted; shared = λ k low high. absurd (omega (arith, low, high)) }

  pub one_more : (place : ℕ) (before after : A) → SoFar place before → line_at of place ≡ line_at of first
      → Notes place before after → SoFar (place + 1) after
  one_more place before after so_far same notes = record {
    noted = OneNoted so_far.noted notes;
    shared = λ k low high. elim (cases_eq k place) [
      | inl is ↦ subst (λ p. line_at of p ≡ line_at of first) (sym is) same
      | inr other ↦ so_far.shared k low (omega (arith, high, other))
    ];
  }

  -- the next event is of another line, or there is none
  pub of_line : (place : ℕ) (all : A) → SoFar place all → (line_at of place ≡ line_at of first → ⊥)
      → AreOfLine Notes none moments of first all
  of_line place all so_far other = record {
    end = place;
    noted = so_far.noted;
    shared = so_far.shared;
    ends = λ within. other;
  }

  pub of_last_line : (place : ℕ) (all : A) → SoFar place all → length moments ≤ place → AreOfLine Notes none moments of first all
  of_last_line place all so_far past = record {
    end = place;
    noted = so_far.noted;
    shared = so_far.shared;
    ends = λ within same. absurd (omega (arith, past, within));
  }
