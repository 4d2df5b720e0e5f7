-- Each step leads back, or leads on, or does more than look.
use Rattle.std.proofs.Common.{◌≡◌, ◌-◌, ◌+◌, ◌∙◌, true, false, arith, refl, subst, sym}
use Rattle.std.proofs.lemmas.Grind.{common_steps}
use Rattle.board_image.specs.Polling.{ComesBack, is_only_looking, seen_by}
use Rattle.board_image.proofs.Loops.{acts, came_later, comes_back, comes_later}
use Rattle.board_image.proofs.polling.is_polling.Goals as goal

pub returns-then-not-is_only_looking-clause-no : goal.returns-then-not-is_only_looking-clause-no
returns-then-not-is_only_looking-clause-no g c = λ is polls.
    let old = c.loop-step.sight in
    let new = c.step.new.bus in
    let seen = seen_by new.board.now.guest new.looks new.acts in
    let not : is_only_looking c.step.new.self seen ≡ false = grind (arith, common_steps) in
    acts c.processor.result.now (64 - c.loop-step.step) c.loop-step.cpu c.step.new.self
    (seen_by old.board.now.guest old.looks old.acts) seen c.step.ensures.processor c.step.ensures.bus not
    (c.loop-step.invariant.off polls)

pub returns-then-is_back-clause-yes : goal.returns-then-is_back-clause-yes
returns-then-is_back-clause-yes g c = λ is.
    let old = c.loop-step.sight in
    let new = c.step.new.bus in
    let seen = seen_by new.board.now.guest new.looks new.acts in
    let only : is_only_looking c.step.new.self seen ≡ true = grind (arith, common_steps) in
    let looks : seen.looks ≡ true = grind (arith, common_steps) in
    let same : c.step.new.self ≡ c.processor.result.now = grind (arith, common_steps) in
    c.loop-step.invariant.on
    (comes_back c.processor.result.now (64 - c.loop-step.step) c.loop-step.cpu c.step.new.self
    (seen_by old.board.now.guest old.looks old.acts) seen (omega arith) c.step.ensures.processor c.step.ensures.bus only looks same)

pub loop-step-preserved : goal.loop-step-preserved
loop-step-preserved g c =
    let first = c.processor.result.now in
    let left = 64 - c.loop-step.step in
    let old = c.loop-step.sight in
    let new = c.step.new.bus in
    let before = seen_by old.board.now.guest old.looks old.acts in
    let seen = seen_by new.board.now.guest new.looks new.acts in
    let only : is_only_looking c.step.new.self seen ≡ true = grind (arith, common_steps) in
    let fewer : left - 1 ≡ 64 - (c.loop-step.step + 1) = omega arith in
    record {
      on = λ rest. c.loop-step.invariant.on
          (comes_later first left c.loop-step.cpu c.step.new.self before seen (omega arith) c.step.ensures.processor c.step.ensures.bus
          only (subst (λ k. ComesBack first k c.step.new.self seen) (sym fewer) rest));
      off = λ polls. subst (λ k. ComesBack first k c.step.new.self seen) fewer
          (came_later first left c.loop-step.cpu c.step.new.self before seen c.step.ensures.processor c.step.ensures.bus
          (λ looks same. c.if-is_back.ensures.no refl looks (c.processor-in-loop-step-2.ensures ∙ same)) (c.loop-step.invariant.off polls));
    }
