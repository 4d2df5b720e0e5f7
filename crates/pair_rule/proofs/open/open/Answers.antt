use Rattle.pair_rule.proofs.FirstTable.{opens}
use Rattle.pair_rule.proofs.open.open.Goals as goal

pub vacant-requires : goal.vacant-requires
vacant-requires c = opens 1
