-- Each call is a step.
use Rattle.outside_switch.proofs.Calls.{calls_make}
use Rattle.outside_switch.proofs.device_laws.calls_are_steps.Goals as goal

pub returns : goal.returns
returns g c = record { steps = calls_make }
