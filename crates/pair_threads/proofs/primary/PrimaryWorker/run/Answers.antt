-- Its guest leads on, as it ran.
use Rattle.std.proofs.Common.{refl}
use Rattle.pair_threads.specs.Primary.{keys_by, told_by}
use Rattle.pair_threads.proofs.primary.PrimaryWorker.run.Goals as goal

pub returns-after-not-moved-clause-works : goal.returns-after-not-moved-clause-works
returns-after-not-moved-clause-works g c =
    let old = c.args.self.now in (
      refl,
      refl,
      refl,
      refl,
      refl,
      λ boot leads. c.in-Ok.ensures.onward boot old.seat.core.known.primary (keys_by old) (told_by old) leads,
      λ boot leads kept. kept,
    )
