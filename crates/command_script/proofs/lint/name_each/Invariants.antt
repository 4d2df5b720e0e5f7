-- The bad lines so far are named, and those that are left are bad after what was said so far.
use Rattle.std.proofs.Common.{◌+◌, ◌≤◌, length}
use Rattle.command_io.specs.Reports.{handed}
use Rattle.command_script.specs.Linting.{bad_from}
use Rattle.command_script.proofs.Linting.{NamesOn}
use Rattle.script_language.specs.Meaning.{said_by}
use Rattle.script_language.specs.Text.{lines_of}
use Rattle.command_script.proofs.lint.name_each.Given as goal

abbrev pub invariant-lines : goal.invariant-lines
invariant-lines g l = record {
  names : NamesOn (bad_from l.fn.drives 1048576 1 (lines_of l.fn.bytes) (said_by l.fn.draft))
      (bad_from l.drives l.room l.number (lines_of l.rest) (said_by l.draft))
      (handed (g.W.Write.contents l.fn.writer) l.fn.report) (handed (g.W.Write.contents l.writer) l.report);
  counted : 1 ≤ l.number;
  within : l.number + l.room ≤ 1048577;
}

abbrev pub decreases-lines : goal.decreases-lines
decreases-lines g l = length l.rest
