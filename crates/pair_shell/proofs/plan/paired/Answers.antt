-- What is outstanding goes on, or the log is caught up with.
use Rattle.pair_shell.proofs.Each.{each_some}
use Rattle.pair_shell.proofs.plan.paired.Goals as goal

pub returns-in-Some-clause-allowed : goal.returns-in-Some-clause-allowed
returns-in-Some-clause-allowed g c = λ course h generation pair responds left.
    c.in-Some.ensures.allowed course h c.args.backup generation pair responds left

pub returns-clause-allowed : goal.returns-clause-allowed
returns-clause-allowed g c =
    each_some _ _ c.catching_up.result
    (λ event allowed. λ course h generation pair responds left. allowed course h generation pair)
    c.catching_up.ensures.allowed
