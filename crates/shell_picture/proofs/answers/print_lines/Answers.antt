-- One line more is printed; in the end none is left.
use Rattle.std.proofs.Common.{◌≡◌, [], ap, arith}
use Rattle.std.specs.Prelude.{map}
use Rattle.std.proofs.lemmas.Grind.{common_steps}
use Rattle.script_language.specs.Text.{lines_of}
use Rattle.script_language.proofs.Breaking.{empty}
use Rattle.shell_picture.proofs.Screens.{on_all, on_line, on_none}
use Rattle.shell_picture.specs.Screens.{line_row, line_rows}
use Rattle.shell_picture.proofs.answers.print_lines.Goals as goal

pub lines-init : goal.lines-init
lines-init c = on_none (line_rows c.args.text.now) c.args.printed.now

pub lines-preserved : goal.lines-preserved
lines-preserved c =
    on_line c.args.text.now c.lines.rest.now c.first_line.result.1.now c.first_line.result.0.now c.args.printed.now c.lines.printed
    c.line.new.self c.lines.invariant c.first_line.ensures.line c.in_ok-line.ensures.shown

pub returns : goal.returns
returns c =
    let none : lines_of c.lines.rest.now ≡ [] = empty c.lines.rest.now (grind (arith, common_steps)) in
    on_all (line_rows c.args.text.now) (line_rows c.lines.rest.now) c.args.printed.now c.lines.printed c.lines.invariant
    (ap (map line_row) none)
