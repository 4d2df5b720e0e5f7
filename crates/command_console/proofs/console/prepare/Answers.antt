-- Each ring is new, with one end at the session.
use Rattle.std.proofs.Common.{◌∙◌, ap, arith}
use Rattle.outside_switch.specs.declared.port.PortEnd.{PortEnd}
use Rattle.console_terminal.specs.declared.keyboard.Keyboard.{Keyboard}
use Rattle.console_terminal.specs.declared.screen.Screen.{Screen}
use Rattle.command_console.proofs.console.prepare.Goals as goal

pub returns-clause-open : goal.returns-clause-open
returns-clause-open c = record {
  keyboard0 = record {
    from = c.in_ok-first.keys0;
    ring = ap (λ (e : PortEnd). e.keyboard.ring) c.in_ok-session.ensures.ok.0
        ∙ ap (λ (k : Keyboard). k.ring) c.new-11.ensures.0 ∙ c.of.ensures.begins.0;
    pair = c.in_ok-first.ensures.pair;
    none_sent = c.in_ok-first.ensures.producer.0;
    none_came = c.in_ok-first.ensures.consumer.0;
  };
  keyboard1 = record {
    from = c.in_ok-second.keys1;
    ring = ap (λ (e : PortEnd). e.keyboard.ring) c.in_ok-session.ensures.ok.1
        ∙ ap (λ (k : Keyboard). k.ring) c.new-12.ensures.0 ∙ c.of-2.ensures.begins.0;
    pair = c.in_ok-second.ensures.pair;
    none_sent = c.in_ok-second.ensures.producer.0;
    none_came = c.in_ok-second.ensures.consumer.0;
  };
  none_waits = (
    ap (λ (e : PortEnd). e.waiting) c.in_ok-session.ensures.ok.0 ∙ c.new-11.ensures.1,
    ap (λ (e : PortEnd). e.waiting) c.in_ok-session.ensures.ok.1 ∙ c.new-12.ensures.1,
  );
  screen = record {
    to = c.in_ok-screen.screen;
    ring = ap (λ (s : Screen). s.ring) c.in_ok-session.ensures.ok.2 ∙ c.of-3.ensures;
    pair = c.in_ok-screen.ensures.pair;
    none_sent = c.in_ok-screen.ensures.producer.0;
    none_came = c.in_ok-screen.ensures.consumer.0;
  };
  notes = let free = c.in_ok-notes.ensures.producer.1 in omega (arith, free);
}
