-- A new note is found after the others, and a filter leaves no note of its name.
use Rattle.output_rule.proofs.NoteLists.{note_comes, note_goes}
use Rattle.output_rule.proofs.laws.notes_come_and_go.Goals as goal

pub returns-clause-comes : goal.returns-clause-comes
returns-clause-comes c = note_comes

pub returns-clause-goes : goal.returns-clause-goes
returns-clause-goes c = note_goes
