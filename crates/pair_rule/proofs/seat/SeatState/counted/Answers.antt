use Rattle.std.proofs.Common.{sym, ◌∙◌, arith, refl}
use Rattle.pair_rule.specs.Boxes.{Primary}
use Rattle.pair_rule.specs.Knowledge.{saw_count}
use Rattle.pair_rule.proofs.WordSteps.{sees_count_at_allowed}
use Rattle.pair_rule.proofs.SeatsHold.{knows_keeps}
use Rattle.pair_rule.proofs.seat.SeatState.counted.Goals as goal

pub load-requires : goal.load-requires
load-requires c = let w = c.fabric.invariant.0 in let p =
    c.requires.port in (
      c.requires.table ∙ sym c.fabric.view_is,
      omega arith,
      sees_count_at_allowed _ _ _ _ _ p c.requires.before c.requires.seat.holds.mine,
    )

pub returns-clause-seat : goal.returns-clause-seat
returns-clause-seat c = let t = c.load.ensures.2 c.args.port c.requires.port refl in knows_keeps Primary _ _ _ _ _
    (saw_count c.args.port c.load.result) c.requires.seat t.0 t.3
