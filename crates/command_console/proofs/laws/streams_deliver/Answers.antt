-- The first frames.
use Rattle.command_console.proofs.FleetStreams.{streams_deliver}
use Rattle.command_console.proofs.laws.streams_deliver.Goals as goal

pub returns : goal.returns
returns g c = streams_deliver _ _
