use Rattle.std.proofs.Common.{ap, ◌∙◌}
use Rattle.i8080_words.proofs.Bits.{flag_masks, flags_back}
use Rattle.i8080_words.specs.Arithmetic.{flags_from}
use Rattle.i8080_words.proofs.arithmetic.psw.Goals as goal

pub returns : goal.returns
returns c =
    let byte = flag_masks c.args.flags.s c.args.flags.z c.args.flags.ac c.args.flags.p c.args.flags.cy _ _ _ _ _ c.flag_mask.ensures c.flag_mask-2.ensures c.flag_mask-3.ensures c.flag_mask-4.ensures c.flag_mask-5.ensures in
    record {
      byte = byte;
      back = ap flags_from byte ∙ flags_back c.args.flags.s c.args.flags.z c.args.flags.ac c.args.flags.p c.args.flags.cy;
    }
