use Rattle.recorder.proofs.Advances.{records_steps}
use Rattle.recorder.proofs.Recorded.{Records-append}
use Rattle.recorder.proofs.laws.moves_are_recorded.Goals as goal

pub returns-clause-advances : goal.returns-clause-advances
returns-clause-advances g c = λ M reads s t log new turns a counts. records_steps M reads s t log new turns a counts

pub returns-clause-join : goal.returns-clause-join
returns-clause-join g c = λ M reads s t u log middle new moves more counts a b.
    Records-append M reads s t u log middle new moves more counts a b
