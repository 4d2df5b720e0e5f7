-- Each process by itself.
use Rattle.command_console.proofs.FleetRunning.{hosts_went, outside_went}
use Rattle.command_console.proofs.laws.processes_go.Goals as goal

pub returns : goal.returns
returns g c state M copied first last way =
    (hosts_went state M copied first last way, outside_went state M copied first last way)
