-- The five options, one after another.
use Rattle.std.proofs.Common.{[], ◌∷◌, codes}
use Rattle.std.proofs.lemmas.Result.{IfOk-weaker}
use Rattle.command_line.proofs.Table.{none_added, one_added}
use Rattle.command_line.specs.Commands.{flag_option, text_option}
use Rattle.command_line.proofs.commands.with_attached.Goals as goal

pub returns : goal.returns
returns c = IfOk-weaker c.arg-5.result _ _ (λ new adds.
    let first = text_option (codes "attach0") in
    let second = text_option (codes "attach1") in
    let third = text_option (codes "attach2") in
    let fourth = text_option (codes "attach3") in
    let old = c.args.console in
    one_added (first ∷ second ∷ third ∷ fourth ∷ []) (flag_option (codes "unsynced")) old c.in_ok-arg-4.field-0 new c.unsynced.result
    (one_added (first ∷ second ∷ third ∷ []) fourth old c.in_ok-arg-3.field-0 c.in_ok-arg-4.field-0 c.attach-4.result
    (one_added (first ∷ second ∷ []) third old c.in_ok-arg-2.field-0 c.in_ok-arg-3.field-0 c.attach-3.result
    (one_added (first ∷ []) second old c.in_ok-arg.field-0 c.in_ok-arg-2.field-0 c.attach-2.result
    (one_added [] first old old c.in_ok-arg.field-0 c.attach.result (none_added old) c.attach.ensures c.in_ok-arg.ensures)
    c.attach-2.ensures c.in_ok-arg-2.ensures) c.attach-3.ensures c.in_ok-arg-3.ensures) c.attach-4.ensures c.in_ok-arg-4.ensures)
    c.unsynced.ensures adds) c.arg-5.ensures
