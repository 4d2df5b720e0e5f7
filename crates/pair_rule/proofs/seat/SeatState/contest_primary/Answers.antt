use Rattle.std.proofs.Common.{sym, ◌∙◌, arith}
use Rattle.pair_rule.specs.Boxes.{Primary}
use Rattle.pair_rule.specs.Knowledge.{primary_asked}
use Rattle.pair_rule.proofs.WordSteps.{contest_primary_allowed}
use Rattle.pair_rule.proofs.SeatsHold.{knows_keeps}
use Rattle.pair_rule.proofs.seat.SeatState.contest_primary.Goals as goal

pub compare_exchange-requires : goal.compare_exchange-requires
compare_exchange-requires c = let w = c.fabric.invariant.0 in
    (c.requires.table ∙ sym c.fabric.view_is, omega arith, contest_primary_allowed _ _ _ _ c.requires.before c.requires.seat.holds.mine)

pub returns-clause-seat : goal.returns-clause-seat
returns-clause-seat c = let t = c.compare_exchange.ensures.2 in knows_keeps Primary _ _ _ _ _
    (primary_asked c.compare_exchange.result) c.requires.seat t.0 t.3
