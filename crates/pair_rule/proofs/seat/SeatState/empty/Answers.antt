use Rattle.std.proofs.Common.{ap, sym, ◌∙◌, subst, refl, ◌+◌, arith, ℕ, eq-eqb, ne_eqb, true, false, ◌≡◌, set}
use Rattle.atomic_table.specs.Table.{Allows}
use Rattle.pair_rule.specs.Boxes.{emptier, empty_word, is_full, slot_of}
use Rattle.pair_rule.specs.Rules.{Rule}
use Rattle.pair_rule.specs.Kinds.{Emptied, empties}
use Rattle.pair_rule.specs.Seats.{Keeps}
use Rattle.pair_rule.proofs.BoxSteps.{empty_allowed}
use Rattle.pair_rule.proofs.SeatsHold.{still_keeps, empty_keeps, found_keeps, few_there, number_there}
use Rattle.pair_rule.proofs.seat.SeatState.empty.Goals as goal

pub next_number-number-requires-clause-few : goal.next_number-number-requires-clause-few
next_number-number-requires-clause-few c = let k = c.requires.seat in
    few_there _ _ c.args.mailbox _ c.index_of-index.ensures.exact k.holds.sized.empties k.empties_are c.requires.few

pub swap-found-requires : goal.swap-found-requires
swap-found-requires c =
    let k = c.requires.seat in let h = k.holds in let w = c.fabric.invariant.0 in let at = c.index_of-index.ensures in
    let within = at.within in
    let kept = number_there _ _ c.args.mailbox _ at.exact h.sized.empties k.empties_are in (
      c.requires.table ∙ sym c.fabric.view_is,
      omega arith,
      subst (λ index. Allows (Rule c.fabric.inside.table.shared.key) c.fabric.inside.table.shared.table_id.slots
          c.args.self.now.seat.id c.args.self.now.seat.me (5 + index) (λ _. c.empty_word-new.result)
          (empties (5 + index) c.args.self.now.seat.me)) (sym at.exact)
          (empty_allowed _ _ _ c.args.self.now.seat.me c.args.mailbox c.args.self.now.slot _ h.one.0 c.requires.before h.mine h.hand h.has_slot
          h.one.1
          (c.empty_word-new.ensures ∙ ap (λ (n : ℕ). empty_word n c.args.self.now.slot)
          (c.next_number-number.ensures ∙ ap (λ (n : ℕ). n + 1) kept))),
    )

pub returns-then-found-eq1-clause-seat : goal.returns-then-found-eq1-clause-seat
returns-then-found-eq1-clause-seat c =
    let k = c.requires.seat in let at = c.index_of-index.ensures.exact in let t =
    c.swap-found.ensures.2 c.args.mailbox (ap (λ (n : ℕ). 5 + n) at) in let full : is_full c.swap-found.result ≡ true =
    eq-eqb _ _ c.if-found-eq1.true in
    let z = subst (Emptied c.args.mailbox c.args.self.now.seat.me c.swap-found.result c.swap-found.new.seat.me) full t.1 in
    subst (λ (n : ℕ). Keeps (emptier c.args.mailbox) c.exchange.new.seat.me (slot_of c.swap-found.result) c.args.self.now.fills
    (set c.args.self.now.empties n c.next_number-number.result)) (sym at)
    (still_keeps _ _ _ _ _ _ _ (empty_keeps (emptier c.args.mailbox) c.args.self.now.seat.me c.swap-found.new.seat.me _ _ _ _ k
    t.0 c.args.mailbox z.0 _ refl
    (c.next_number-number.ensures ∙ ap (λ (n : ℕ). n + 1)
    (number_there _ _ c.args.mailbox _ at k.holds.sized.empties k.empties_are)) z.4) c.exchange.ensures.3)

pub returns-else-found-eq1-clause-seat : goal.returns-else-found-eq1-clause-seat
returns-else-found-eq1-clause-seat c =
    let k = c.requires.seat in let at = c.index_of-index.ensures.exact in let t =
    c.swap-found.ensures.2 c.args.mailbox (ap (λ (n : ℕ). 5 + n) at) in let none : is_full c.swap-found.result ≡ false =
    ne_eqb _ _ c.if-found-eq1.false in
    let z = subst (Emptied c.args.mailbox c.args.self.now.seat.me c.swap-found.result c.swap-found.new.seat.me) none t.1 in
    subst (λ (n : ℕ). Keeps (emptier c.args.mailbox) c.swap-found.new.seat.me (slot_of c.swap-found.result) c.args.self.now.fills
    (set c.args.self.now.empties n c.next_number-number.result)) (sym at)
    (found_keeps (emptier c.args.mailbox) c.args.self.now.seat.me c.swap-found.new.seat.me _ _ _ _ k t.0 c.args.mailbox _ refl
    (c.next_number-number.ensures ∙ ap (λ (n : ℕ). n + 1)
    (number_there _ _ c.args.mailbox _ at k.holds.sized.empties k.empties_are)) z)
