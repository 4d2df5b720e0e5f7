-- The one option of `disk`.
use Rattle.std.proofs.Common.{[], codes}
use Rattle.std.proofs.lemmas.Result.{IfOk-weaker}
use Rattle.command_line.proofs.Table.{option_added}
use Rattle.command_line.specs.Commands.{alone, command, text_option}
use Rattle.command_line.proofs.commands.disk_command.Goals as goal

pub returns : goal.returns
returns c = IfOk-weaker c.arg.result _ _ (λ new adds.
    option_added (alone (command (codes "disk") [])) (text_option (codes "recover")) c.plain_command.result new c.recover.result
    c.plain_command.ensures c.recover.ensures adds) c.arg.ensures
