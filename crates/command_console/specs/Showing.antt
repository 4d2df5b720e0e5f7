-- What the thread that shows has written when it ends.
use Rattle.std.specs.Prelude.{◌≡◌, Some}
use Rattle.std.specs.Global.{Global}
use Rattle.console_terminal.specs.declared.screen.Screen.{Screen}
use Rattle.console_terminal.specs.declared.screen.Shown.{Shown}
use Rattle.rtrb.specs.Ring.{Finishes}
use Rattle.rtrb.specs.declared.AnyItems.{AnyItems}
use Rattle.rtrb.specs.declared.finished.Finished.{Finished}
use Rattle.rtrb.specs.declared.producer.Producer.{Producer}

-- nothing more goes into the ring of a screen
pub record HasFinished (screen : Screen) (finished : Finished Shown Global AnyItems) : Type 0 where
  pub to : Producer Shown Global AnyItems
  pub ring : screen.ring ≡ Some to
  pub finishes : Finishes to finished
