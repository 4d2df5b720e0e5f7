use Rattle.std.proofs.Common.{refl}
use Rattle.plain_single.proofs.step.execute.Goals as goal

pub returns-clause-processor : goal.returns-clause-processor
returns-clause-processor c =
    rw (c.in_ok-carry_out.ensures.regs, c.interrupts_after-processor.ensures, c.is_halt-processor.ensures) refl

pub returns-clause-wires : goal.returns-clause-wires
returns-clause-wires c = c.in_ok-carry_out.ensures.wires
