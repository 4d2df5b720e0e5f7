-- The event that comes next, for those who serve.
use Rattle.pair_shell.specs.Serves.{MayCome}
use Rattle.pair_shell.proofs.Arrivals.{other_next}
use Rattle.pair_shell.proofs.Each.{any_ok, each_ok, when_ok}
use Rattle.pair_shell.proofs.plan.RestPlan.next.Goals as goal

pub returns-in-Some-clause-law : goal.returns-in-Some-clause-law
returns-in-Some-clause-law g c = λ course h. record {
  who = c.who_serves-serving.result;
  serves = c.who_serves-serving.ensures.serves course h;
  comes = c.in-Some.ensures.kind;
}

pub returns-clause-law : goal.returns-clause-law
returns-clause-law g c =
    each_ok (MayCome c.who_serves-serving.result) _ c.going_on.result
    (λ event comes. λ course h. record { who = c.who_serves-serving.result; serves = c.who_serves-serving.ensures.serves course h; comes = comes })
    c.going_on.ensures.kind

pub returns-clause-allowed : goal.returns-clause-allowed
returns-clause-allowed g c = λ nothing.
    each_ok _ _ c.going_on.result
    (λ event allowed. λ course h asks. allowed course h _ (c.who_serves-serving.ensures.serves course h) asks)
    c.going_on.ensures.allowed

pub returns-in-Some-clause-outward : goal.returns-in-Some-clause-outward
returns-in-Some-clause-outward g c = λ course h asks. c.in-Some.ensures.outward course h

pub returns-clause-outward : goal.returns-clause-outward
returns-clause-outward g c =
    each_ok _ _ c.going_on.result
    (λ event allowed. λ course h asks here. allowed course h _ (c.who_serves-serving.ensures.serves course h) asks)
    c.going_on.ensures.allowed

pub returns-in-Some-clause-delivered : goal.returns-in-Some-clause-delivered
returns-in-Some-clause-delivered g c = λ m is. λ course h asks sent.
    c.in-Some.ensures.delivered m is course h (c.who_serves-serving.ensures.serves course h) sent

pub returns-clause-delivered : goal.returns-clause-delivered
returns-clause-delivered g c = λ m is.
    each_ok _ _ c.going_on.result
    (λ event allowed. λ course h asks sent. allowed course h _ (c.who_serves-serving.ensures.serves course h) asks)
    c.going_on.ensures.allowed

pub returns-in-Some-clause-comes : goal.returns-in-Some-clause-comes
returns-in-Some-clause-comes g c = λ m is. λ course h. record {
  who = c.who_serves-serving.result;
  serves = c.who_serves-serving.ensures.serves course h;
  all = c.who_serves-serving.ensures.all course h;
  comes = c.in-Some.ensures.comes m is course h;
}

pub returns-clause-comes : goal.returns-clause-comes
returns-clause-comes g c = λ m is.
    any_ok _ c.going_on.result (λ next. λ course h. record {
      who = c.who_serves-serving.result;
      serves = c.who_serves-serving.ensures.serves course h;
      all = c.who_serves-serving.ensures.all course h;
      comes = other_next course.world c.who_serves-serving.result m c.arriving.result next c.in_default.not-Some
          (c.arriving.ensures.comes m is course h);
    })

pub returns-clause-rests : goal.returns-clause-rests
returns-clause-rests g c =
    when_ok _ _ c.going_on.result
    (λ next rests. λ none course h. record {
      who = c.who_serves-serving.result;
      serves = c.who_serves-serving.ensures.serves course h;
      all = c.who_serves-serving.ensures.all course h;
      rests = rests none course h _ (c.who_serves-serving.ensures.serves course h);
    })
    c.going_on.ensures.rests
