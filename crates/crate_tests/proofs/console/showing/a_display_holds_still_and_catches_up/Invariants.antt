use Rattle.console_terminal.specs.Screen.{IsClear}
use Rattle.crate_tests.proofs.console.showing.a_display_holds_still_and_catches_up.Given as goal

abbrev pub invariant-steps : goal.invariant-steps
invariant-steps g l = IsClear l.display
