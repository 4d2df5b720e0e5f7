use Rattle.std.proofs.Common.{arith}
use Rattle.pair_rule.proofs.Opening.{takes_slot, opened}
use Rattle.pair_rule.proofs.open.first_state.Goals as goal

pub load-requires : goal.load-requires
load-requires g c = let n = c.requires.seat in let w = c.requires.table in
    (n.same, omega arith, takes_slot g.S.Seated.who _ _ _ _ n _ c.requires.slot _ _ _)

pub returns : goal.returns
returns g c = let l = c.load.ensures in opened g.S.Seated.who _ _ _ _ c.requires.seat _ c.requires.slot _ 0 _ l.0 l.2
