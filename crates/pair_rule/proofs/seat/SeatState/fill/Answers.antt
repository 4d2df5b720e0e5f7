use Rattle.std.proofs.Common.{ap, sym, ◌∙◌, subst, refl, ◌+◌, arith, ℕ, set}
use Rattle.atomic_table.specs.Table.{Allows}
use Rattle.pair_rule.specs.Boxes.{box_index, filler, full_word, slot_of}
use Rattle.pair_rule.specs.Knowledge.{CanFill}
use Rattle.pair_rule.specs.Histories.{MayPut}
use Rattle.pair_rule.specs.Rules.{Rule}
use Rattle.pair_rule.specs.Kinds.{Mine, side_at, filled, fills}
use Rattle.pair_rule.specs.declared.view.SeatView.{SeatView}
use Rattle.pair_rule.specs.Seats.{Keeps}
use Rattle.pair_rule.proofs.BoxSteps.{fill_allowed}
use Rattle.pair_rule.proofs.SeatsHold.{says_filled, put_in, still_holds, still_keeps, fill_keeps, few_there, number_there}
use Rattle.pair_rule.proofs.seat.SeatState.fill.Goals as goal

pub next_number-number-requires-clause-few : goal.next_number-number-requires-clause-few
next_number-number-requires-clause-few c = let k = c.requires.seat in
    few_there _ _ c.args.mailbox _ c.index_of-index.ensures.exact k.holds.sized.fills k.fills_are c.requires.few

pub swap-found-requires : goal.swap-found-requires
swap-found-requires c =
    let e = c.exchange.ensures in let k = c.requires.seat in let h = k.holds in let put = put_in _ _ _ _ _ h e.3 in let j =
    still_holds _ _ _ _ _ h e.3 in let w = c.fabric.invariant.0 in let at = c.index_of-index.ensures in
    let within = at.within in
    let kept = number_there _ _ c.args.mailbox _ at.exact h.sized.fills k.fills_are in (
      e.0 ∙ c.requires.table ∙ sym c.fabric.view_is,
      omega arith,
      subst (λ index. Allows (Rule c.fabric.inside.table.shared.key) c.fabric.inside.table.shared.table_id.slots
          c.exchange.new.seat.id c.exchange.new.seat.me (5 + index) (λ _. c.full_word-new.result)
          (fills (5 + index) c.exchange.new.seat.me)) (sym at.exact)
          (fill_allowed _ _ _ c.exchange.new.seat.me c.args.mailbox c.args.self.now.slot _ c.args.payload j.mine j.hand j.has_slot
          (ap (λ (m : Mine). m.1) put)
          (c.full_word-new.ensures ∙ ap (λ (n : ℕ). full_word n c.args.self.now.slot) (c.next_number-number.ensures
          ∙ ap (λ (n : ℕ). n + 1) (kept ∙ ap (λ (m : Mine). (side_at m.0.core.fills (box_index c.args.mailbox)).number) (sym put))))
          (subst (λ (m : Mine). CanFill c.args.mailbox m.0.core.known c.args.payload) (sym put) c.requires.can)
          (subst (λ (m : Mine). MayPut c.args.mailbox m.0.core.known c.args.payload) (sym put) c.requires.may)),
    )

pub returns-clause-seat : goal.returns-clause-seat
returns-clause-seat c =
    let e = c.exchange.ensures in let k = c.requires.seat in let h = k.holds in let put = put_in _ _ _ _ _ h e.3 in let j =
    still_keeps _ _ _ _ _ _ _ k e.3 in let at = c.index_of-index.ensures.exact in
    let t = c.swap-found.ensures.2 c.args.mailbox (ap (λ (n : ℕ). 5 + n) at) in
    subst (λ (n : ℕ). Keeps (filler c.args.mailbox) c.swap-found.new.seat.me (slot_of c.swap-found.result)
    (set c.args.self.now.fills n c.next_number-number.result) c.args.self.now.empties)
    (sym at)
    (fill_keeps (filler c.args.mailbox) c.exchange.new.seat.me c.swap-found.new.seat.me _ _ _ _ j t.0 c.args.mailbox
    c.args.payload _ refl
    (c.next_number-number.ensures ∙ ap (λ (n : ℕ). n + 1)
    (number_there _ _ c.args.mailbox _ at j.holds.sized.fills j.fills_are))
    (t.1 _ c.args.payload (ap (λ (m : Mine). m.1) put)))

pub returns-clause-filled : goal.returns-clause-filled
returns-clause-filled c =
    let e = c.exchange.ensures in let h = c.requires.seat.holds in let put = put_in _ _ _ _ _ h e.3 in let at =
    c.index_of-index.ensures.exact in
    let t = c.swap-found.ensures.2 c.args.mailbox (ap (λ (n : ℕ). 5 + n) at) in
    says_filled c.args.mailbox c.args.payload c.swap-found.result _ _ h.sized.fills
    (ap (λ (v : SeatView). v.core) (t.1 _ c.args.payload (ap (λ (m : Mine). m.1) put)) ∙ ap
    (λ (m : Mine). filled c.args.mailbox c.args.payload c.swap-found.result m.0.core) put)
