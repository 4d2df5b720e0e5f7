use Rattle.std.proofs.Common.{refl, rules}
use Rattle.i8080_words.proofs.Bits.{masked}
use Rattle.i8080_words.proofs.arithmetic.rotate_right.Goals as goal

pub returns : goal.returns
returns c = rw (masked c.args.byte 0 1 refl refl refl) (search rules)
