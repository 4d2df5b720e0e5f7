-- The options of `console`, one after another.
use Rattle.std.proofs.Common.{[], codes}
use Rattle.std.proofs.lemmas.Result.{IfOk-weaker}
use Rattle.command_line.proofs.Table.{option_added, options_added}
use Rattle.command_line.specs.Commands.{alone, attach_options, command, flag_option, sitting_options, text_option}
use Rattle.command_line.proofs.commands.console_command.Goals as goal

pub returns : goal.returns
returns c = IfOk-weaker c.arg-4.result _ _ (λ new adds whole.
    option_added _ (flag_option (codes "apart")) c.in_ok-arg-3.field-0 new c.apart.result
    (option_added _ (text_option (codes "mark")) c.in_ok-arg-2.field-0 c.in_ok-arg-3.field-0 c.mark.result
    (option_added _ (text_option (codes "saved")) c.in_ok-arg.field-0 c.in_ok-arg-2.field-0 c.saved.result
    (option_added _ (text_option (codes "images")) c.in_ok-console-2.console c.in_ok-arg.field-0 c.images.result
    (options_added _ attach_options c.in_ok-console.console c.in_ok-console-2.console
    (options_added (alone (command (codes "console") [])) sitting_options c.plain_command.result c.in_ok-console.console
    c.plain_command.ensures c.in_ok-console.ensures) c.in_ok-console-2.ensures) (c.images.ensures whole) c.in_ok-arg.ensures)
    (c.saved.ensures whole) c.in_ok-arg-2.ensures) c.mark.ensures c.in_ok-arg-3.ensures) c.apart.ensures adds) c.arg-4.ensures
