-- The four options, one after another.
use Rattle.std.proofs.Common.{[], ◌∷◌, codes}
use Rattle.std.proofs.lemmas.Result.{IfOk-weaker}
use Rattle.command_line.proofs.Table.{defaulted, helped, none_added, one_added}
use Rattle.command_line.specs.Commands.{by_default, flag_option, number_option}
use Rattle.command_line.proofs.commands.with_turns.Goals as goal

pub returns : goal.returns
returns c = IfOk-weaker c.arg-4.result _ _ (λ new adds.
    let number = number_option (codes "turns") 1 1000000000 in
    let turns = by_default (codes "1000000") number in
    let primary = number_option (codes "primary-asks") 0 1000000000 in
    let backup = number_option (codes "backup-asks") 0 1000000000 in
    let old = c.args.live in
    one_added (turns ∷ primary ∷ backup ∷ []) (flag_option (codes "text")) old c.in_ok-arg-3.field-0 new c.as_text.result
    (one_added (turns ∷ primary ∷ []) backup old c.in_ok-arg-2.field-0 c.in_ok-arg-3.field-0 c.help-backup_asks.result
    (one_added (turns ∷ []) primary old c.in_ok-arg.field-0 c.in_ok-arg-2.field-0 c.help-primary_asks.result
    (one_added [] turns old old c.in_ok-arg.field-0 c.default_value-turns.result (none_added old)
    (defaulted _ number c.help.result c.default_value-turns.result c.default_value-turns.ensures
    (helped number c.turn.result c.help.result _ c.help.ensures c.turn.ensures)) c.in_ok-arg.ensures)
    (helped primary c.turn-2.result c.help-primary_asks.result _ c.help-primary_asks.ensures c.turn-2.ensures) c.in_ok-arg-2.ensures)
    (helped backup c.turn-3.result c.help-backup_asks.result _ c.help-backup_asks.ensures c.turn-3.ensures) c.in_ok-arg-3.ensures) c.as_text.ensures adds) c.arg-4.ensures
