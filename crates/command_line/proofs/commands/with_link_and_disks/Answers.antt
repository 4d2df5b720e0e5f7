-- The three options, one after another.
use Rattle.std.proofs.Common.{[], ◌∷◌, codes}
use Rattle.std.proofs.lemmas.Result.{IfOk-weaker}
use Rattle.command_line.proofs.Table.{none_added, one_added}
use Rattle.command_line.specs.Commands.{text_option}
use Rattle.command_line.proofs.commands.with_link_and_disks.Goals as goal

pub returns : goal.returns
returns c = IfOk-weaker c.arg-3.result _ _ (λ new adds whole.
    let link = text_option (codes "link") in
    let images = text_option (codes "images") in
    let old = c.args.command in
    one_added (link ∷ images ∷ []) (text_option (codes "saved")) old c.in_ok-arg-2.field-0 new c.saved.result
    (one_added (link ∷ []) images old c.in_ok-arg.field-0 c.in_ok-arg-2.field-0 c.images.result
    (one_added [] link old old c.in_ok-arg.field-0 c.link.result (none_added old) (c.link.ensures whole) c.in_ok-arg.ensures)
    (c.images.ensures whole) c.in_ok-arg-2.ensures) (c.saved.ensures whole) adds) c.arg-3.ensures
