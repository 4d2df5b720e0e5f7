use Rattle.i8080_words.proofs.Bits.{third_bit_or}
use Rattle.i8080_words.proofs.arithmetic.and8.Goals as goal

pub returns : goal.returns
returns c = let e = third_bit_or c.args.a c.args.b in cc
