-- All that was shown has come out of its ring.
use Rattle.std.proofs.Common.{◌≡◌, Option, Some, None, sym, ap, ◌∙◌, subst}
use Rattle.std.specs.Prelude.{IfSome}
use Rattle.std.specs.Global.{Global}
use Rattle.command_console.specs.Rings.{GoesInto}
use Rattle.command_console.specs.Showing.{HasFinished}
use Rattle.console_terminal.specs.Lines.{gone_by}
use Rattle.console_terminal.specs.declared.screen.Screen.{Screen}
use Rattle.console_terminal.specs.declared.screen.Shown.{Shown}
use Rattle.rtrb.specs.Ring.{Finishes, IsFinishedOf, IsPair, SameConsumer, all_sent, received}
use Rattle.rtrb.specs.declared.AnyItems.{AnyItems}
use Rattle.rtrb.specs.declared.consumer.Consumer.{Consumer}
use Rattle.rtrb.specs.declared.finished.Finished.{Finished}
use Rattle.rtrb.specs.declared.producer.Producer.{Producer}

pub finishes : (screen : Screen) (to : Producer Shown Global AnyItems) (o : Option (Finished Shown Global AnyItems)) →
    screen.ring ≡ Some to → IfSome o (λ f. Finishes to f) → IfSome o (HasFinished screen)
finishes screen to None is f = tt
finishes screen to (Some finished) is f = record { to = to; ring = is; finishes = f }

pub finished_of : (screen : Screen) (finished : Finished Shown Global AnyItems) (old new : Consumer Shown Global AnyItems) →
    HasFinished screen finished → GoesInto screen.ring old → SameConsumer old new → IsFinishedOf finished new
finished_of screen finished old new f g r =
    let p : IsPair f.to old = subst (λ ring. GoesInto ring old) f.ring g in
    let q = f.finishes.0 in
    (r.0.0 ∙ p.0 ∙ sym q.0, r.0.1 ∙ p.1 ∙ sym q.1, r.0.2 ∙ p.2 ∙ sym q.2, r.0.3 ∙ p.3 ∙ sym q.3)

pub all_out : (screen : Screen) (finished : Finished Shown Global AnyItems) (new : Consumer Shown Global AnyItems) →
    HasFinished screen finished → received new ≡ all_sent finished → received new ≡ gone_by screen.ring
all_out screen finished new f all = all ∙ f.finishes.1 ∙ sym (ap gone_by f.ring)
