use Rattle.std.proofs.Common.{sym}
use Rattle.clone_state.proofs.ReadSizes.{no_drives}
use Rattle.clone_state.proofs.reading.controller.drives_at.Goals as goal

pub returns-in_default : goal.returns-in_default
returns-in_default c = sym (no_drives c.args.bytes.now c.in_default.len_below)
