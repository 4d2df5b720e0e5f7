-- The commands of the table, one after another.
use Rattle.std.proofs.Common.{[], codes}
use Rattle.std.proofs.lemmas.Result.{IfOk-weaker}
use Rattle.command_line.proofs.Table.{command_added, scripts_added}
use Rattle.command_line.specs.Commands.{alone, command, console_options, disk_options, host_options, live_options, pair_app, program_shape}
use Rattle.command_line.proofs.commands.pair_command.Goals as goal

pub returns : goal.returns
unfolding pair_app
returns c = IfOk-weaker c.subcommand-6.result _ _ (λ new adds whole.
    command_added _ (alone (command (codes "disk") disk_options)) c.in_ok-pair-6.pair c.in_ok-disk_command.field-0 new
    (command_added _ (alone (command (codes "host") host_options)) c.in_ok-pair-5.pair c.in_ok-host_command.field-0 c.in_ok-pair-6.pair
    (command_added _ (alone (command (codes "console") console_options)) c.in_ok-pair-4.pair c.in_ok-console_command.field-0
    c.in_ok-pair-5.pair
    (command_added _ (alone (command (codes "live") live_options)) c.in_ok-pair-3.pair c.in_ok-live_command.field-0 c.in_ok-pair-4.pair
    (command_added _ (alone (command (codes "shell") [])) c.in_ok-pair-2.pair c.plain_command-2.result c.in_ok-pair-3.pair
    (command_added _ (alone (command (codes "lint") [])) c.in_ok-pair.pair c.plain_command.result c.in_ok-pair-2.pair
    (scripts_added (alone program_shape) c.in_ok-program.field-0 c.in_ok-pair.pair c.in_ok-program.ensures (c.in_ok-pair.ensures whole))
    c.plain_command.ensures c.in_ok-pair-2.ensures) c.plain_command-2.ensures c.in_ok-pair-3.ensures)
    (c.in_ok-live_command.ensures whole) c.in_ok-pair-4.ensures) (c.in_ok-console_command.ensures whole) c.in_ok-pair-5.ensures)
    (c.in_ok-host_command.ensures whole) c.in_ok-pair-6.ensures) c.in_ok-disk_command.ensures adds) c.subcommand-6.ensures
