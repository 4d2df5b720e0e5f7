-- The law's node makes the same step, lags, or strays with its frames.
use Rattle.host_calls.proofs.Lagging.{runs-ahead}
use Rattle.host_calls.proofs.Straying.{is-the-laws, ran-to-more, ran-to-nothing, steps-follow}
use Rattle.host_calls.proofs.laws.steps_are_followed.Goals as goal

pub returns-clause-steps : goal.returns-clause-steps
returns-clause-steps g c M C me x y z act follows step = steps-follow M C me x y z act follows step

pub returns-clause-ahead : goal.returns-clause-ahead
returns-clause-ahead g c M counts x y z turns stopped follows backup ran =
    runs-ahead M counts x y z turns stopped follows backup ran

pub returns-clause-runs : goal.returns-clause-runs
returns-clause-runs g c = λ M C me x. (
  ran-to-nothing M C me x,
  λ read written y z act r step. ran-to-more M C me x read written y z act r step,
)

pub returns-clause-fleets : goal.returns-clause-fleets
returns-clause-fleets g c M C laws copies f w h n x y there follows =
    is-the-laws M C laws copies f w h n x y there follows
