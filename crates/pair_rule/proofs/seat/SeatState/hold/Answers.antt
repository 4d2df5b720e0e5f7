use Rattle.std.proofs.Common.{sym, ◌∙◌, arith}
use Rattle.pair_rule.specs.Boxes.{Backup}
use Rattle.pair_rule.specs.Knowledge.{held}
use Rattle.pair_rule.proofs.WordSteps.{hold_allowed}
use Rattle.pair_rule.proofs.SeatsHold.{knows_keeps}
use Rattle.pair_rule.proofs.seat.SeatState.hold.Goals as goal

pub fetch_max-requires : goal.fetch_max-requires
fetch_max-requires c = let w = c.fabric.invariant.0 in
    (c.requires.table ∙ sym c.fabric.view_is, omega arith, hold_allowed _ _ _ _ _ c.requires.before c.requires.seat.holds.mine c.requires.all)

pub returns-clause-seat : goal.returns-clause-seat
returns-clause-seat c = let t = c.fetch_max.ensures.2 in knows_keeps Backup _ _ _ _ _ held c.requires.seat t.0 t.2
