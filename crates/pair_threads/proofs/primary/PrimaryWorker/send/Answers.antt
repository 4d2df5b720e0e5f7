-- A packet that is posted changes nothing that the seat knows.
use Rattle.std.proofs.Common.{ap, refl}
use Rattle.std.proofs.lemmas.Option.{slice_get_read}
use Rattle.pair_rule.specs.declared.view.Core.{Core}
use Rattle.pair_threads.proofs.Leading.{at_index}
use Rattle.pair_threads.proofs.Views.{works_on}
use Rattle.pair_threads.proofs.primary.PrimaryWorker.send.Goals as goal

pub returns-clause-works : goal.returns-clause-works
returns-clause-works g c =
    let old = c.args.self.now in
    works_on g.B.Lockstep.state g.B.Lockstep.machine old c.post.new.self old.seat.core.known.primary
    c.post.ensures.same (ap (λ (k : Core). k.known.primary) c.post.ensures.posted.0.1) refl
    (λ boot taken accepted leads. leads) (λ boot leads kept. kept)

pub returns-clause-posted : goal.returns-clause-posted
returns-clause-posted g c = (
  c.index.result.now,
  slice_get_read c.args.self.now.list.items _ c.args.index c.index.result.now refl c.requires.there.1 c.index.ensures,
  c.post.ensures.posted,
)

pub post-requires-clause-stands : goal.post-requires-clause-stands
post-requires-clause-stands g c =
    let old = c.args.self.now in
    at_index old.list.items old.seat.core.known.primary.list old.same _ c.index.result.now
    (slice_get_read old.list.items _ c.args.index c.index.result.now refl c.requires.there.1 c.index.ensures)
