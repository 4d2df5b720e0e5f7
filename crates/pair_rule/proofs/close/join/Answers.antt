use Rattle.std.proofs.Common.{ap, ◌∙◌, arith, List, Bool}
use lib.ListN.{get_elem?}
use Rattle.atomic_table.specs.Table.{rest}
use Rattle.pair_rule.specs.declared.view.SeatView.{SeatView}
use Rattle.pair_rule.specs.Boxes.{seat_index}
use Rattle.pair_rule.specs.Kinds.{Mine}
use Rattle.pair_rule.proofs.FirstSlots.{last_slot_allowed}
use Rattle.pair_rule.proofs.JoinSeats.{joins}
use Rattle.pair_rule.proofs.SeatsHold.{put_in, still_keeps, single_has}
use Rattle.pair_rule.proofs.close.join.Goals as goal

pub load-requires : goal.load-requires
load-requires g c = let k = c.requires.seat in let e = c.exchange.ensures in let t = c.requires.table in let put =
    put_in _ _ _ _ _ k.holds e.3 in let j = still_keeps _ _ _ _ _ _ _ k e.3 in
    (e.0 ∙ t.1, omega arith, last_slot_allowed _ _ _ _ g.S.Seated.who _ j.holds.mine j.holds.hand (ap (λ (m : Mine). m.1) put))

pub join_seat-requires : goal.join_seat-requires
join_seat-requires g c = let s = g.S.Seated.who in let k = c.requires.seat in let e = c.exchange.ensures in let t = c.requires.table in
    let put = put_in _ _ _ _ _ k.holds e.3 in let j = still_keeps _ _ _ _ _ _ _ k e.3 in let l = c.load.ensures in
    let mine = ap (λ (v : SeatView). v.mine) l.2.1 in (
      t.0,
      l.0 ∙ e.0 ∙ t.1,
      l.2.0 ∙ ap (λ (m : Mine). rest m.1) put,
      omega arith,
      joins _ _ _ _ _ s c.requires.lead.0 c.requires.lead.1
          (ap (λ (b : List Bool). get_elem? b (seat_index s)) mine ∙ j.holds.mine) (single_has s _ (mine ∙ j.single)),
    )
