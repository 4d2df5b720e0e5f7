-- Each call is a step.
use Rattle.host_calls.proofs.Stepping.{are-steps}
use Rattle.host_calls.proofs.laws.calls_are_steps.Goals as goal

pub returns : goal.returns
returns g c = record { steps = λ state M C drives me x other after. are-steps M C me x other _ }
