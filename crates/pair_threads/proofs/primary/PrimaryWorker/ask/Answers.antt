-- A write that is asked for is released once all is acknowledged.
use Rattle.std.proofs.Common.{◌∙◌}
use Rattle.pair_threads.proofs.Views.{asks}
use Rattle.pair_threads.proofs.primary.PrimaryWorker.ask.Goals as goal

pub returns-in-Some-clause-works : goal.returns-in-Some-clause-works
returns-in-Some-clause-works g c =
    let first = c.due_request.ensures.works in
    let second =
    asks g.B.Lockstep.state g.B.Lockstep.machine g.met.B.Lockstep.counts g.met.B.Lockstep.operations
    c.due_request.new.self c.request.new.self c.request.ensures.same c.in-Some.request c.in-Some.ensures.may
    c.request.ensures.asked in (
      second.0 ∙ first.0,
      second.1 ∙ first.1,
      first.2,
      first.3,
      first.4,
      λ boot leads. second.5 boot (first.5 boot leads),
      λ boot leads kept. second.6 boot (first.5 boot leads) (first.6 boot leads kept),
    )
