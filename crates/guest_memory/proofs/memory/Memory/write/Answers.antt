-- What is kept stays as it has to be, whether the byte is repeated or not.
use Rattle.std.proofs.Common.{refl, arith}
use Rattle.guest_memory.proofs.WrappedAround.{kept_after, kept_after_both}
use Rattle.guest_memory.proofs.memory.Memory.write.Goals as goal

pub invariant_of-self : goal.invariant_of-self
invariant_of-self c =
    kept_after_both _ _ c.args.address _ _ _ _ c.self.invariant c.if-place-lt-WRAPPED.true refl c.ranges.byte.fits (omega arith)

pub invariant_of-self-else-place-lt-WRAPPED : goal.invariant_of-self-else-place-lt-WRAPPED
invariant_of-self-else-place-lt-WRAPPED c =
    kept_after _ _ _ _ _ _ c.self.invariant c.if-place-lt-WRAPPED.false c.ranges.address.fits c.ranges.byte.fits (omega arith)
