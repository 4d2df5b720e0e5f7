-- The number is read from the rows that clap finds, as `u64` reads it.
use Rattle.std.proofs.Common.{subst}
use Rattle.std.specs.Str.Parse.{ExplainsUnsignedError, HasUnsignedDigitsIfOk, ParsesUnsigned}
use Rattle.clap.specs.Words.{found_of, one_text}
use Rattle.clap.proofs.WalkLemmas.{one_text-rows}
use Rattle.command_line.specs.Orders.{IsGiven}
use Rattle.command_line.proofs.Orders.{is_given}
use Rattle.command_line.proofs.options.number.Goals as goal

pub returns : goal.returns
returns c =
    let text = one_text (found_of c.args.matches.now) c.args.option.now in
    subst (λ t. IsGiven 64 t c.get_one.result) (one_text-rows (found_of c.args.matches.now) c.args.option.now)
    (is_given 64 (λ t r. ParsesUnsigned 64 10 t r × ExplainsUnsignedError 10 t r × HasUnsignedDigitsIfOk t r)
    text c.get_one.result c.get_one.ensures.none (λ t is. c.get_one.ensures.value t is) (λ t r read. read.0))
