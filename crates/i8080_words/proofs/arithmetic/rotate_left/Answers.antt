use Rattle.std.proofs.Common.{refl, ◌∙◌, ◌≡◌, ◌*◌, ◌%◌, rules, arith, bit_and}
use Rattle.std.proofs.lemmas.Nat.{and_mask}
use Rattle.i8080_words.proofs.Bits.{masked}
use Rattle.i8080_words.proofs.arithmetic.rotate_left.Goals as goal

pub returns : goal.returns
returns c =
    let low : bit_and (c.args.byte * 2 % 65536) 255 ≡ 2 * c.args.byte % 256 = and_mask (c.args.byte * 2 % 65536) 8 ∙ omega arith in
    rw (masked c.args.byte 7 128 refl refl refl, low) (search rules)
