use Rattle.clone_state.proofs.First.{first_in_spelled}
use Rattle.clone_state.proofs.PartLaws.{parts_spelled}
use Rattle.clone_state.proofs.laws.parts_are_written_one_way.Goals as goal

pub returns-clause-first : goal.returns-clause-first
returns-clause-first c drives payload f all e = (first_in_spelled drives payload f all e).spelled

pub returns-clause-parts : goal.returns-clause-parts
returns-clause-parts c = parts_spelled
