-- The one option of a command that runs a script.
use Rattle.std.proofs.Common.{[], codes}
use Rattle.std.proofs.lemmas.Result.{IfOk-weaker}
use Rattle.command_line.proofs.Table.{option_added}
use Rattle.command_line.specs.Commands.{alone, command, text_option}
use Rattle.command_line.proofs.commands.script_command.Goals as goal

pub returns : goal.returns
returns c = IfOk-weaker c.arg.result _ _ (λ new adds whole.
    option_added (alone (command c.args.name.now [])) (text_option (codes "images")) c.plain_command.result new c.images.result
    c.plain_command.ensures (c.images.ensures whole) adds) c.arg.ensures
