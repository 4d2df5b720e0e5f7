-- A name that was forgotten has no note.
use Rattle.output_rule.proofs.NoteLists.{note_goes}
use Rattle.ft_node.proofs.primary.note.Goals as goal

pub note-requires-clause-new : goal.note-requires-clause-new
note-requires-clause-new c =
    let forgot = c.forget.ensures in
    rw forgot (note_goes c.args.coverage.now.notes c.in-Operation.id).itself
