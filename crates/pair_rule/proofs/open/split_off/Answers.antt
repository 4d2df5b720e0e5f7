use Rattle.std.proofs.Common.{arith}
use Rattle.pair_rule.proofs.SplitSeats.{splits}
use Rattle.pair_rule.proofs.open.split_off.Goals as goal

pub split_seat-seat-requires : goal.split_seat-seat-requires
split_seat-seat-requires g c = let t = c.requires.table in let w = t.1 in
    (t.0, omega arith, splits _ _ _ g.S.Seated.who c.requires.lead.0)
