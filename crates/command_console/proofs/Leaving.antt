-- What is known of the thread that hears once it has ended.
use Rattle.std.proofs.Common.{ℕ, ◌≡◌, List, Option, Some, None, sym, ◌∙◌}
use Rattle.std.specs.Global.{Global}
use Rattle.command_console.specs.Rings.{ComesOutOf}
use Rattle.command_console.proofs.Typing.{same_ring_on}
use Rattle.command_console.specs.Hearing.{HasHeard}
use Rattle.command_console.specs.declared.hearing.Hearing.{Hearing}
use Rattle.console_terminal.specs.declared.command.Command.{Command}
use Rattle.console_terminal.specs.declared.listener.Ending.{Ending}
use Rattle.console_terminal.specs.declared.keyboard.Stroke.{Stroke}
use Rattle.rtrb.specs.Ring.{SameProducer}
use Rattle.rtrb.specs.declared.AnyItems.{AnyItems}
use Rattle.rtrb.specs.declared.consumer.Consumer.{Consumer}
use Rattle.rtrb.specs.declared.producer.Producer.{Producer}

out_later : (to later : Producer Stroke Global AnyItems) (ring : Option (Consumer Stroke Global AnyItems)) → ComesOutOf to ring →
    SameProducer to later → ComesOutOf later ring
out_later to later None p q = tt
out_later to later (Some from) p q = (p.0 ∙ sym q.0.0, p.1 ∙ sym q.0.1, p.2 ∙ sym q.0.2, p.3 ∙ sym q.0.3)

module _ {S I : Type 0} (left : S → Option (List ℕ)) (given : I → Option (List Command)) (ending : Ending) (old new : Hearing S I)
    (heard : HasHeard left given ending old new) where
  -- the keyboards are still at the other ends
  pub first_later : (ring : Option (Consumer Stroke Global AnyItems)) → ComesOutOf old.listener.first ring →
      ComesOutOf new.listener.first ring
  first_later ring p = out_later old.listener.first new.listener.first ring p
      (same_ring_on old.listener.first heard.first new.listener.first heard.typed.same_first heard.listens.same_first)

  pub second_later : (ring : Option (Consumer Stroke Global AnyItems)) → ComesOutOf old.listener.second ring →
      ComesOutOf new.listener.second ring
  second_later ring p = out_later old.listener.second new.listener.second ring p
      (same_ring_on old.listener.second heard.second new.listener.second heard.typed.same_second heard.listens.same_second)
