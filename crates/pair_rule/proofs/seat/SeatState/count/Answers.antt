use Rattle.std.proofs.Common.{sym, ◌∙◌, arith, refl}
use Rattle.pair_rule.specs.Boxes.{Terminal}
use Rattle.pair_rule.specs.Knowledge.{byte_arrived}
use Rattle.pair_rule.proofs.WordSteps.{count_at_allowed}
use Rattle.pair_rule.proofs.SeatsHold.{knows_keeps}
use Rattle.pair_rule.proofs.seat.SeatState.count.Goals as goal

pub fetch_max-requires : goal.fetch_max-requires
fetch_max-requires c = let w = c.fabric.invariant.0 in let p =
    c.requires.port in (
      c.requires.table ∙ sym c.fabric.view_is,
      omega arith,
      count_at_allowed _ _ _ _ _ _ p c.requires.seat.holds.mine c.requires.accepted,
    )

pub returns-clause-seat : goal.returns-clause-seat
returns-clause-seat c = let t = c.fetch_max.ensures.2 c.args.port c.requires.port refl in knows_keeps Terminal _ _ _ _ _
    (byte_arrived c.args.port) c.requires.seat t.0 t.1
