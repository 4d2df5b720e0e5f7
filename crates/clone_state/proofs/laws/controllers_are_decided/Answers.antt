use Rattle.clone_state.proofs.Controllers.{controller_holds, controller_passes}
use Rattle.clone_state.proofs.laws.controllers_are_decided.Goals as goal

pub returns : goal.returns
returns c d sizes = (controller_holds d sizes.drives sizes.current, controller_passes d)
