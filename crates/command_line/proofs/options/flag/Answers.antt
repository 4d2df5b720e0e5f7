-- The flag is read from the rows that clap finds.
use Rattle.std.proofs.Common.{subst}
use Rattle.clap.specs.Words.{found_of}
use Rattle.clap.proofs.WalkLemmas.{one_text-rows}
use Rattle.command_line.specs.Orders.{IsFlag}
use Rattle.command_line.proofs.options.flag.Goals as goal

pub returns : goal.returns
returns c = subst (λ text. IsFlag text c.get_flag.result) (one_text-rows (found_of c.args.matches.now) c.args.option.now)
    (c.get_flag.ensures.none, (c.get_flag.ensures.value, c.get_flag.ensures.other))
