-- A run is longer by a step.
use Rattle.outside_switch.proofs.DeviceSteps.{goes_on}
use Rattle.outside_switch.proofs.device_laws.runs_go_on.Goals as goal

pub returns : goal.returns
returns g c = record { runs = goes_on }
