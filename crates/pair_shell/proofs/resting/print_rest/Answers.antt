-- The line says where the events have led.
use Rattle.std.proofs.Common.{[], ◌∷◌, ap, codes}
use Rattle.pair_shell.proofs.RestLines.{tells_refused_rest, tells_text}
use Rattle.pair_shell.specs.Resting.{events_text, rest_row}
use Rattle.pair_shell.proofs.resting.print_rest.Goals as goal

pub returns-in_ok-line-in-AtRest-clause-told : goal.returns-in_ok-line-in-AtRest-clause-told
returns-in_ok-line-in-AtRest-clause-told c =
    tells_text (rest_row c.args.rested c.args.made c.args.most ∷ []) (events_text c.args.made c.args.most (codes "at rest"))
    c.args.printed.now c.line.new.self (ap (λ r. rest_row r c.args.made c.args.most ∷ []) c.in-AtRest.is)
    c.in_ok-line-in-AtRest.ensures.shown

pub returns-in_ok-around-in-Refused-clause-told : goal.returns-in_ok-around-in-Refused-clause-told
returns-in_ok-around-in-Refused-clause-told c =
    tells_refused_rest c.args.rested c.in-Refused.fault c.number-number.result c.args.made c.args.most c.args.printed.now
    c.around.new.self c.in-Refused.is c.number-number.ensures c.in_ok-around-in-Refused.ensures.shown

pub returns-in_ok-line-in-Unrested-clause-told : goal.returns-in_ok-line-in-Unrested-clause-told
returns-in_ok-line-in-Unrested-clause-told c =
    tells_text (rest_row c.args.rested c.args.made c.args.most ∷ [])
    (events_text c.args.made c.args.most (codes "not at rest")) c.args.printed.now c.line-in-Unrested.new.self
    (ap (λ r. rest_row r c.args.made c.args.most ∷ []) c.in-Unrested.is) c.in_ok-line-in-Unrested.ensures.shown
