-- The rings of a console before anything has come through them.
use Rattle.std.specs.Prelude.{◌≡◌, [], Option, Some, None}
use Rattle.console_terminal.specs.declared.keyboard.Keyboard.{Keyboard}
use Rattle.console_terminal.specs.declared.keyboard.Stroke.{Stroke}
use Rattle.console_terminal.specs.declared.screen.Screen.{Screen}
use Rattle.console_terminal.specs.declared.screen.Shown.{Shown}
use Rattle.rtrb.specs.Ring.{IsPair, received, sent}
use Rattle.std.specs.Global.{Global}
use Rattle.rtrb.specs.declared.AnyItems.{AnyItems}
use Rattle.rtrb.specs.declared.consumer.Consumer.{Consumer}
use Rattle.rtrb.specs.declared.producer.Producer.{Producer}

-- the keys of a keyboard are those that go in here
pub record IsKeyboardOf (to : Producer Stroke Global AnyItems) (k : Keyboard) : Type 0 where
  pub from : Consumer Stroke Global AnyItems
  pub ring : k.ring ≡ Some from
  pub pair : IsPair to from
  pub none_sent : sent to ≡ []
  pub none_came : received from ≡ []

-- what a screen shows comes out here
pub record IsScreenOf (from : Consumer Shown Global AnyItems) (s : Screen) : Type 0 where
  pub to : Producer Shown Global AnyItems
  pub ring : s.ring ≡ Some to
  pub pair : IsPair to from
  pub none_sent : sent to ≡ []
  pub none_came : received from ≡ []

-- these are the two ends of a ring; without one nothing comes out
abbrev pub ComesOutOf : Producer Stroke Global AnyItems → Option (Consumer Stroke Global AnyItems) → Type 0
ComesOutOf to None = Unit {0}
ComesOutOf to (Some from) = IsPair to from

-- these are the two ends of a ring, and there is one
abbrev pub GoesInto : Option (Producer Shown Global AnyItems) → Consumer Shown Global AnyItems → Type 0
GoesInto None from = ⊥
GoesInto (Some to) from = IsPair to from
