-- The line that is read first is the first of those left.
use Rattle.std.proofs.Common.{◌≡◌, [], sym, ap, ◌∙◌, arith}
use Rattle.std.proofs.lemmas.Grind.{common_steps}
use Rattle.script_language.specs.Live.{fits}
use Rattle.script_language.specs.Text.{lines_of, text_of}
use Rattle.script_language.proofs.Breaking.{empty}
use Rattle.script_language.proofs.Unfit.{line_fits, line_unfit, none_left}
use Rattle.script_language.proofs.live.first_unfit.Goals as goal

pub returns-then-not-fits-clause-exact : goal.returns-then-not-fits-clause-exact
returns-then-not-fits-clause-exact c =
    let l = c.lines in
    let line = c.first_line.result.0.now in
    let rest = c.first_line.result.1.now in
    let unfit = c.fits.ensures in
    sym (line_unfit l.number (lines_of l.rest.now) line (lines_of rest) c.first_line.ensures.line
    (ap fits (sym c.text_of.ensures) ∙ sym unfit ∙ c.if-not-fits.true)) ∙ l.invariant.same

pub lines-preserved : goal.lines-preserved
lines-preserved c =
    let l = c.lines in
    let line = c.first_line.result.0.now in
    let rest = c.first_line.result.1.now in
    record {
      same = sym (line_fits l.number (lines_of l.rest.now) line (lines_of rest) c.first_line.ensures.line
          (ap fits (sym c.text_of.ensures) ∙ sym c.fits.ensures ∙ c.if-not-fits.false)) ∙ l.invariant.same;
      counted = omega arith;
      within = omega (arith, c.first_line.ensures.all, c.first_line.ensures.some, l.invariant.within);
    }

pub returns-clause-exact : goal.returns-clause-exact
returns-clause-exact c =
    let l = c.lines in
    let none : lines_of l.rest.now ≡ [] = empty l.rest.now (grind (arith, common_steps)) in
    sym (none_left l.number (lines_of l.rest.now) none) ∙ l.invariant.same
