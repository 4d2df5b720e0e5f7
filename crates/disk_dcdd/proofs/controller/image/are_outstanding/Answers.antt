-- A list of outstanding writes can grow by one that may follow, and contains none that may not.
use Rattle.std.proofs.Common.{sym, ◌∙◌}
use Rattle.disk_dcdd.proofs.Outstanding.{AreOutstanding-more, MayFollow-at}
use Rattle.disk_dcdd.proofs.controller.image.are_outstanding.Goals as goal

pub loop-index-preserved : goal.loop-index-preserved
loop-index-preserved c =
    let follows = c.may_follow.ensures.0 c.if-not-may_follow.false in
    AreOutstanding-more _ _ _ _ _ c.loop-index-test.true c.if-places-gt-OUTSTANDING.false c.loop-index.invariant follows

pub returns-then-not-may_follow : goal.returns-then-not-may_follow
returns-then-not-may_follow c = (
  λ e. absurd (cc),
  λ h. sym c.if-not-may_follow.true ∙ c.may_follow.ensures.1 (MayFollow-at _ _ _ _ _ c.loop-index-test.true h),
)
