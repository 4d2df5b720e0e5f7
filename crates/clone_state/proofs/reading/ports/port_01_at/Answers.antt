use Rattle.std.proofs.Common.{sym}
use Rattle.clone_state.proofs.ReadSizes.{no_port_01}
use Rattle.clone_state.proofs.reading.ports.port_01_at.Goals as goal

pub returns-in_default : goal.returns-in_default
returns-in_default c = sym (no_port_01 c.args.bytes.now c.in_default.len_below)
