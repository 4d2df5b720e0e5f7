-- `retain` keeps what passes the test, since no call of the closure changes it.
use Rattle.std.proofs.Common.{rules, not, ◌==◌}
use Rattle.std.proofs.lemmas.Fn.{filter_same}
use Rattle.plain_single.proofs.drives.completions.remove_write.Goals as goal

pub returns : goal.returns
returns c =
    filter_same _ (λ write. not (write.number == c.args.number)) _ (λ x b f' called. search rules) _ _ c.retain.ensures.filtered
