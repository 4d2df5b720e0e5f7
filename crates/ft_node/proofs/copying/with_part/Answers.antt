-- What holds after each part, by the lemmas of `JoiningParts`.
use Rattle.std.proofs.Common.{Ok, ap, sym, ◌∙◌}
use Rattle.ft_node.proofs.JoiningParts.{comes_again, comes_last, comes_new, in_image, is_refused, refused_stays, unchanged}
use Rattle.ft_node.proofs.copying.with_part.Goals as goal

pub returns-in-Err-clause-answer : goal.returns-in-Err-clause-answer
returns-in-Err-clause-answer g c = λ C drives x copies is.
    is_refused C drives c.args.joining x is c.args.bytes.now c.gather.new.self c.gather.ensures.after c.in-Err.fault
    c.in-Err.ensures.answer

pub returns-in-Err-clause-unchanged : goal.returns-in-Err-clause-unchanged
returns-in-Err-clause-unchanged g c =
    refused_stays c.args.joining c.gather.new.self c.args.bytes.now c.in-Err.fault c.gather.ensures.after
    c.in-Err.ensures.answer

pub returns-in-Ok-false-clause-answer : goal.returns-in-Ok-false-clause-answer
returns-in-Ok-false-clause-answer g c = λ C drives x copies is.
    comes_again C drives c.args.joining x is c.args.bytes.now c.gather.new.self c.gather.ensures.after
    (sym (c.in-Ok-false.is ∙ ap (λ b. Ok b) c.in-Ok-false.field-0-test) ∙ c.gather.ensures.answer)

pub returns-in-Ok-true-clause-answer : goal.returns-in-Ok-true-clause-answer
returns-in-Ok-true-clause-answer g c = λ C drives x copies is.
    comes_new C drives c.args.joining x is c.args.bytes.now c.gather.new.self c.gather.ensures.after
    (sym (c.in-Ok-true.is ∙ ap (λ b. Ok b) c.in-Ok-true.field-0-test) ∙ c.gather.ensures.answer)
    (sym c.if-not-is_whole.ensures)
    (in_image g.B.Lockstep.state g.B.Copies.copied drives C copies c.parts_are_read_again.ensures.within c.args.bytes.now)

pub returns-in-Ok-true-2-clause-answer : goal.returns-in-Ok-true-2-clause-answer
returns-in-Ok-true-2-clause-answer g c = λ C drives x copies is.
    comes_last g.B.Lockstep.state g.B.Copies.copied C drives copies c.parts_are_read_again.ensures.within
    c.args.joining x is c.args.bytes.now
    (sym (c.in-Ok-true.is ∙ ap (λ b. Ok b) c.in-Ok-true.field-0-test) ∙ c.gather.ensures.answer)
    g.B.Lockstep.machine c.gather.new.self c.gather.ensures.after (sym c.if-not-is_whole.ensures)
    c.become_backup.result.0 c.become_backup.result.1 c.become_backup.ensures

pub returns-in-Ok-true-2-clause-unchanged : goal.returns-in-Ok-true-2-clause-unchanged
returns-in-Ok-true-2-clause-unchanged g c =
    unchanged g.B.Copies.copied c.args.joining c.gather.new.self c.args.bytes.now c.gather.ensures.after
    (sym (c.in-Ok-true.is ∙ ap (λ b. Ok b) c.in-Ok-true.field-0-test) ∙ c.gather.ensures.answer)
    c.become_backup.result.0 c.become_backup.result.1 c.become_backup.ensures
