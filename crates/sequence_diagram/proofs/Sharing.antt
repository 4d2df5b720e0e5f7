-- The lines of some events, one line after another.
use Rattle.std.proofs.Common.{◌≡◌, ℕ, zero, suc, ◌+◌, ◌<◌, ◌==◌, true, false, arith, List, [], ◌++◌, drop, length, replicate, append-nil, append_assoc, ap, subst, sym, ◌∙◌}
use Rattle.std.proofs.lemmas.Bool.{eqb-true}
use Rattle.sequence_diagram.specs.Lines.{AreLines, line_length}
use Rattle.sequence_diagram.specs.Lines.AreLines.{NoMore, OneLine}
use Rattle.sequence_diagram.specs.declared.moment.Moment.{Moment}

-- what a test for none says
pub some_left : (n : ℕ) → (n == 0) ≡ false → 0 < n
some_left zero test = absurd (cc)
some_left (suc n) test = omega arith

pub none_left : (n : ℕ) → (n == 0) ≡ true → n ≡ 0
none_left n test = eqb-true n 0 test

module _ (all : List Moment) where
  -- with the lines of the events that are left, those so far are the lines of all
  abbrev pub Drawn : List ℕ → ℕ → List Moment → Type 0
  Drawn of line rest = (more : List ℕ) (end : ℕ) → AreLines line rest more end → AreLines 0 all (of ++ more) end

  -- one line more
  pub drawn_more : (of of' : List ℕ) (line n : ℕ) (rest rest' : List Moment) → Drawn of line rest → 0 < length rest
      → n ≡ line_length rest → of' ≡ of ++ replicate n line → rest' ≡ drop n rest → Drawn of' (line + 1) rest'
  drawn_more of of' line n rest rest' so_far some many of_is rest_is more end d =
      let after : AreLines (line + 1) (drop (line_length rest) rest) more end =
      subst (λ r. AreLines (line + 1) r more end) (rest_is ∙ ap (λ k. drop k rest) many) d in
      let here : AreLines line rest (replicate n line ++ more) end =
      subst (λ k. AreLines line rest (replicate k line ++ more) end) (sym many) (OneLine line end rest more some after) in
      subst (λ l. AreLines 0 all l end) (sym (append_assoc of (replicate n line) more) ∙ ap (λ l. l ++ more) (sym of_is))
      (so_far (replicate n line ++ more) end here)

  -- no event is left
  pub drawn_all : (of : List ℕ) (line : ℕ) (rest : List Moment) → Drawn of line rest → rest ≡ [] → AreLines 0 all of line
  drawn_all of line rest so_far none =
      subst (λ l. AreLines 0 all l line) (append-nil of)
      (so_far [] line (subst (λ r. AreLines line r [] line) (sym none) (NoMore line)))
