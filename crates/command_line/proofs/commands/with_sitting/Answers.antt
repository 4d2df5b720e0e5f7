-- The five options, one after another.
use Rattle.std.proofs.Common.{[], ◌∷◌, codes}
use Rattle.std.proofs.lemmas.Result.{IfOk-weaker}
use Rattle.command_line.proofs.Table.{none_added, one_added}
use Rattle.command_line.specs.Commands.{by_default, number_option, text_option}
use Rattle.command_line.proofs.commands.with_sitting.Goals as goal

pub returns : goal.returns
returns c = IfOk-weaker c.arg-5.result _ _ (λ new adds.
    let folder = by_default (codes ".") (text_option (codes "folder")) in
    let places = by_default (codes "3") (number_option (codes "places") 2 99) in
    let escape = by_default (codes "5") (number_option (codes "escape") 0 255) in
    let before = by_default (codes "0") (number_option (codes "before") 0 1099511627776) in
    let silence = by_default (codes "60") (number_option (codes "silence") 1 86400) in
    let old = c.args.console in
    one_added (folder ∷ places ∷ escape ∷ before ∷ []) silence old c.in_ok-arg-4.field-0 new c.silence.result
    (one_added (folder ∷ places ∷ escape ∷ []) before old c.in_ok-arg-3.field-0 c.in_ok-arg-4.field-0 c.before-2.result
    (one_added (folder ∷ places ∷ []) escape old c.in_ok-arg-2.field-0 c.in_ok-arg-3.field-0 c.escape.result
    (one_added (folder ∷ []) places old c.in_ok-arg.field-0 c.in_ok-arg-2.field-0 c.places.result
    (one_added [] folder old old c.in_ok-arg.field-0 c.folder.result (none_added old) c.folder.ensures c.in_ok-arg.ensures)
    c.places.ensures c.in_ok-arg-2.ensures) c.escape.ensures c.in_ok-arg-3.ensures) c.before-2.ensures c.in_ok-arg-4.ensures) c.silence.ensures adds) c.arg-5.ensures
