use Rattle.std.proofs.Common.{refl}
use Rattle.i8080_words.proofs.Bits.{masked}
use Rattle.i8080_words.proofs.arithmetic.of_psw.Goals as goal

pub returns : goal.returns
returns c =
    let s = masked c.args.byte 7 128 refl refl refl in
    let z = masked c.args.byte 6 64 refl refl refl in
    let ac = masked c.args.byte 4 16 refl refl refl in
    let p = masked c.args.byte 2 4 refl refl refl in
    let cy = masked c.args.byte 0 1 refl refl refl in
    cc
