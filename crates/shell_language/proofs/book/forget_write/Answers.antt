-- `retain` keeps each other number, since no call of the closure changes it.
use Rattle.std.proofs.Common.{rules, not, ◌==◌}
use Rattle.std.proofs.lemmas.Fn.{filter_same}
use Rattle.shell_language.proofs.book.forget_write.Goals as goal

pub returns : goal.returns
returns c = filter_same _ (λ n. not (n == c.args.number)) _ (λ x b f' called. search rules) _ _ c.retain.ensures.filtered
