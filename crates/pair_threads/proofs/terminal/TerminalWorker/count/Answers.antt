-- A byte is counted at the port whose turn it is; the other one has what it had.
use Rattle.std.proofs.Common.{◌≡◌, false, true, ap, subst, ◌∙◌}
use Rattle.pair_threads.specs.Screens.{HasInHand, port_of}
use Rattle.pair_threads.proofs.Screens.{other_screen, screen_after}
use Rattle.pair_threads.proofs.Words.{byte_arrived, with_known}
use Rattle.pair_threads.proofs.terminal.TerminalWorker.count.Goals as goal

pub invariant_of-self-then-self : goal.invariant_of-self-then-self
invariant_of-self-then-self c =
    let old = c.args.self.now in
    let hand = subst (λ s. HasInHand s c.args.byte old.seat.core.known) c.if-self.true (old.in_hand c.args.byte c.requires.hand) in
    let counts = subst (λ p. c.count.new.self.core ≡ with_known (byte_arrived p) old.seat.core)
    (c.port-port.ensures.is ∙ ap port_of c.if-self.true) c.count.ensures.counted.1 in
    record {
      screen0 = other_screen true old.seat.core c.count.new.self.core c.reserve.new.self.items
          (c.in_ok-reserve.ensures.items ∙ old.screen0) counts;
      screen1 = screen_after true c.args.byte old.seat.core c.count.new.self.core c.reserve-2.new.self.items
          c.accept.new.accepted.items hand (c.in_ok-reserve-2.ensures.items ∙ old.screen1) counts c.accept.ensures;
      in_hand = λ byte none. absurd cc;
    }

pub invariant_of-self-else-self : goal.invariant_of-self-else-self
invariant_of-self-else-self c =
    let old = c.args.self.now in
    let hand = subst (λ s. HasInHand s c.args.byte old.seat.core.known) c.if-self.false (old.in_hand c.args.byte c.requires.hand) in
    let counts = subst (λ p. c.count.new.self.core ≡ with_known (byte_arrived p) old.seat.core)
    (c.port-port.ensures.is ∙ ap port_of c.if-self.false) c.count.ensures.counted.1 in
    record {
      screen0 = screen_after false c.args.byte old.seat.core c.count.new.self.core c.reserve.new.self.items
          c.accept-else-self.new.accepted.items hand (c.in_ok-reserve.ensures.items ∙ old.screen0) counts
          c.accept-else-self.ensures;
      screen1 = other_screen false old.seat.core c.count.new.self.core c.reserve-2.new.self.items
          (c.in_ok-reserve-2.ensures.items ∙ old.screen1) counts;
      in_hand = λ byte none. absurd cc;
    }
