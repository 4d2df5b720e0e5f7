use Rattle.std.proofs.Common.{◌∙◌, ap}
use Rattle.shell_language.specs.Notes.{settled}
use Rattle.shell_language.proofs.Settling.{settled_more}
use Rattle.shell_language.proofs.book.Book.settle.Goals as goal

pub loop-timed-preserved : goal.loop-timed-preserved
loop-timed-preserved c = (
  c.note_input.ensures.progress ∙ ap (settled _) c.loop-timed.invariant.0
      ∙ settled_more c.args.inputs.now c.loop-timed.timed-index _ _ c.loop-timed-test.true,
  c.note_input.ensures.letters ∙ c.loop-timed.invariant.1,
)
