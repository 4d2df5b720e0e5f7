use Rattle.std.proofs.Common.{◌≡◌, ◌↔◌, true, ap, subst}
use Rattle.pair_rule.specs.Boxes.{Backup}
use Rattle.pair_rule.specs.Seats.{Seat, HasSwapsLeft}
use Rattle.pair_rule.proofs.SeatsHold.{swaps_left}
use Rattle.pair_rule.proofs.backup.BackupSeat.has_swaps_left.Goals as goal

pub returns : goal.returns
returns c = subst (λ core. (c.may_swap.result ≡ true) ↔ HasSwapsLeft core) (ap (λ (s : Seat). s.core) c.self.view_is)
    (swaps_left Backup _ _ _ _ c.may_swap.result c.self.invariant.keeps c.may_swap.ensures)
