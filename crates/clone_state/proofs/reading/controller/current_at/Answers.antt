use Rattle.std.proofs.Common.{sym, arith}
use Rattle.clone_state.proofs.ReadSizes.{no_current}
use Rattle.clone_state.proofs.reading.controller.current_at.Goals as goal

pub returns-in_default : goal.returns-in_default
returns-in_default c = sym (no_current c.args.bytes.now (omega (arith, c.in_default.len_below)))
