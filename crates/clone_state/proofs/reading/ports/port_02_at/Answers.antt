use Rattle.std.proofs.Common.{sym, arith}
use Rattle.clone_state.proofs.ReadSizes.{no_port}
use Rattle.clone_state.proofs.reading.ports.port_02_at.Goals as goal

pub returns-in_default : goal.returns-in_default
returns-in_default c = sym (no_port c.args.bytes.now (omega (arith, c.in_default.len_below)))
