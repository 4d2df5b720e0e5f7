-- The options of `host`, one after another.
use Rattle.std.proofs.Common.{[], codes}
use Rattle.std.proofs.lemmas.Result.{IfOk-weaker}
use Rattle.command_line.proofs.Table.{option_added}
use Rattle.command_line.specs.Commands.{alone, by_default, command, number_option, text_option}
use Rattle.command_line.proofs.commands.host_command.Goals as goal

pub returns : goal.returns
returns c = IfOk-weaker c.arg-4.result _ _ (λ new adds whole.
    let role = by_default (codes "spare") (text_option (codes "role")) in
    let patience = by_default (codes "1000") (number_option (codes "patience") 100 3600000) in
    let before = by_default (codes "0") (number_option (codes "before") 0 1099511627776) in
    option_added _ (text_option (codes "images")) c.in_ok-arg-2.field-0 new c.images.result
    (option_added _ before c.in_ok-arg.field-0 c.in_ok-arg-2.field-0 c.before-2.result
    (option_added _ patience c.in_ok-host.host c.in_ok-arg.field-0 c.patience.result
    (option_added (alone (command (codes "host") [])) role c.plain_command.result c.in_ok-host.host c.role.result
    c.plain_command.ensures (c.role.ensures whole) c.in_ok-host.ensures) c.patience.ensures c.in_ok-arg.ensures)
    c.before-2.ensures c.in_ok-arg-2.ensures) (c.images.ensures whole) adds) c.arg-4.ensures
