-- The ring of the screen is finished.
use Rattle.std.proofs.Common.{sym}
use Rattle.command_console.proofs.Finishing.{finishes}
use Rattle.command_console.proofs.showing.finish.Goals as goal

pub returns : goal.returns
returns c = finishes c.args.screen c.in_ok-into_ring.field-0 c.finish.result (sym c.in_ok-into_ring.ensures) c.finish.ensures
