use Rattle.std.proofs.Common.{ap, sym, ◌∙◌, subst, arith, length, ◌<◌, ◌^◌}
use Rattle.pair_rule.specs.Knowledge.{appended}
use Rattle.pair_rule.specs.Boxes.{Primary}
use Rattle.pair_rule.specs.Histories.{MayAppend}
use Rattle.pair_rule.specs.Kinds.{Mine, with_core, with_known}
use Rattle.pair_rule.proofs.WordSteps.{append_allowed}
use Rattle.pair_rule.proofs.SeatsHold.{put_in, still_holds, still_keeps, knows_keeps}
use Rattle.pair_rule.proofs.seat.SeatState.append.Goals as goal

pub fetch_add-requires : goal.fetch_add-requires
fetch_add-requires c = let e = c.exchange.ensures in let k = c.requires.seat in let h = k.holds in let put =
    put_in _ _ _ _ _ h e.3 in let j = still_holds _ _ _ _ _ h e.3 in let w = c.fabric.invariant.0 in (
      e.0 ∙ c.requires.table ∙ sym c.fabric.view_is,
      omega arith,
      append_allowed _ _ _ _ c.args.self.now.slot c.args.packet j.mine (ap (λ (m : Mine). m.1) put)
          (subst (λ (m : Mine). length m.0.core.known.primary.list < 2 ^ 62) (sym put) c.requires.room)
          (subst (λ (m : Mine). MayAppend m.0.core.known) (sym put) c.requires.may),
    )

pub returns-clause-seat : goal.returns-clause-seat
returns-clause-seat c = let e = c.exchange.ensures in let k = c.requires.seat in let h = k.holds in let put =
    put_in _ _ _ _ _ h e.3 in let j = still_holds _ _ _ _ _ h e.3 in let t = c.fetch_add.ensures.2 in
    knows_keeps Primary _ _ _ _ _ (appended c.args.packet.entry) (still_keeps _ _ _ _ _ _ _ k e.3) t.1
    (t.2 _ c.args.packet (ap (λ (m : Mine). m.1) put))

pub returns-clause-index : goal.returns-clause-index
returns-clause-index c = let put = put_in _ _ _ _ _ c.requires.seat.holds c.exchange.ensures.3 in c.fetch_add.ensures.2.0 ∙ ap
    (λ (m : Mine). length m.0.core.known.primary.list) put

pub returns-clause-view : goal.returns-clause-view
returns-clause-view c = let put = put_in _ _ _ _ _ c.requires.seat.holds c.exchange.ensures.3 in c.fetch_add.ensures.2.2 _
    c.args.packet (ap (λ (m : Mine). m.1) put) ∙ ap
    (λ (m : Mine). with_core m.0 (with_known (appended c.args.packet.entry) m.0.core)) put
