-- What becomes of packets between hosts after a command about it.
use Rattle.std.specs.Prelude.{Option, Some, None}
use Rattle.console_terminal.specs.declared.command.Command.{Command}
use Rattle.outside_switch.specs.declared.link.LinkState.{LinkState}

abbrev pub fate_of : Command → Option LinkState
fate_of Command.Cut = Some (LinkState.Loses 100)
fate_of Command.Mend = Some LinkState.Passes
fate_of (Command.Drop percent) = Some (LinkState.Loses percent)
fate_of Command.Part = Some LinkState.Parts
fate_of command = None
