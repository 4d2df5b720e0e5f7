use Rattle.std.proofs.Common.{refl}
use Rattle.clone_state.proofs.Rebuilding.{read_stands}
use Rattle.clone_state.proofs.laws.boards_can_be_rebuilt.Goals as goal

pub returns : goal.returns
returns c drives p h = (read_stands drives p h, refl)
