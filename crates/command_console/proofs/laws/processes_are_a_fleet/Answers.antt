-- All of them, and what holds of a fleet.
use Rattle.command_console.proofs.FleetEnding.{are_kept}
use Rattle.command_console.proofs.FleetRunning.{are_fleet}
use Rattle.command_console.proofs.laws.processes_are_a_fleet.Goals as goal

pub returns : goal.returns
returns g c = record {
  fleet = λ state M copied C drives copies first last booted way.
      are_fleet state M copied C drives copies first last booted way;
  kept = λ state M copied C drives laws copying copies first last booted way.
      are_kept state M copied C drives laws copying copies first last booted way;
}
