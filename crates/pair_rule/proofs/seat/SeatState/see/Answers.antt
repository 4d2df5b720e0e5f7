use Rattle.std.proofs.Common.{sym, ◌∙◌, arith}
use Rattle.pair_rule.specs.Boxes.{Primary}
use Rattle.pair_rule.specs.Knowledge.{saw}
use Rattle.pair_rule.proofs.WordSteps.{see_allowed}
use Rattle.pair_rule.proofs.SeatsHold.{knows_keeps}
use Rattle.pair_rule.proofs.seat.SeatState.see.Goals as goal

pub load-requires : goal.load-requires
load-requires c = let w = c.fabric.invariant.0 in
    (c.requires.table ∙ sym c.fabric.view_is, omega arith, see_allowed _ _ _ _ c.requires.before c.requires.seat.holds.mine)

pub returns-clause-seat : goal.returns-clause-seat
returns-clause-seat c = let t = c.load.ensures.2 in knows_keeps Primary _ _ _ _ _ (saw c.load.result) c.requires.seat t.0 t.4
