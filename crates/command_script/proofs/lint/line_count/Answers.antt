-- One line more is counted; in the end none is left.
use Rattle.std.proofs.Common.{◌≡◌, ℕ, [], ◌∷◌, List, length, ap, arith}
use Rattle.std.proofs.lemmas.Grind.{common_steps}
use Rattle.script_language.proofs.Breaking.{empty}
use Rattle.script_language.specs.Text.{lines_of}
use Rattle.command_script.proofs.lint.line_count.Goals as goal

pub lines-preserved : goal.lines-preserved
lines-preserved c =
    let one = ap (λ (lines : List (List ℕ)). length lines) c.first_line.ensures.line in
    record {
      same = omega (arith, one);
      within = omega (arith, c.first_line.ensures.some);
    }

pub returns : goal.returns
returns c =
    let none : lines_of c.lines.rest.now ≡ [] = empty c.lines.rest.now (grind (arith, common_steps)) in
    let zero_left = ap (λ (lines : List (List ℕ)). length lines) none in
    omega (arith, zero_left)
