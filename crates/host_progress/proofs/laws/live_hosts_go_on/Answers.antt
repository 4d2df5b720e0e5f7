-- Nothing but the guest refuses.
use Rattle.host_progress.proofs.Going.{makes_step, takes_key}
use Rattle.host_progress.proofs.Reading.{sector_comes}
use Rattle.host_progress.proofs.laws.live_hosts_go_on.Goals as goal

pub returns-clause-steps : goal.returns-clause-steps
returns-clause-steps g c M C laws copies responds f w h n generation live t gives able steps =
    makes_step M C laws copies responds f w h n generation live t gives able steps

pub returns-clause-keys : goal.returns-clause-keys
returns-clause-keys g c M C laws copies responds f w h n generation live port byte two room typed =
    takes_key M C laws copies responds f w h n generation live port byte two room typed

pub returns-clause-reads : goal.returns-clause-reads
returns-clause-reads g c M C laws copies asks f w h n generation rest drive sector due =
    sector_comes M C laws copies asks.0 asks.1 f w h n generation rest drive sector due
