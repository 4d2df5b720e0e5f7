-- The options of `live`: for how many turns, and then the link and the disks.
use Rattle.std.proofs.Common.{[], codes}
use Rattle.std.proofs.lemmas.Result.{IfOk-weaker}
use Rattle.command_line.proofs.Table.{options_added}
use Rattle.command_line.specs.Commands.{alone, command, link_and_disks, turn_options}
use Rattle.command_line.proofs.commands.live_command.Goals as goal

pub returns : goal.returns
returns c = IfOk-weaker c.with_link_and_disks.result _ _ (λ new adds whole.
    options_added _ link_and_disks c.in_ok-live.live new
    (options_added (alone (command (codes "live") [])) turn_options c.plain_command.result c.in_ok-live.live c.plain_command.ensures
    c.in_ok-live.ensures) (adds whole)) c.with_link_and_disks.ensures
