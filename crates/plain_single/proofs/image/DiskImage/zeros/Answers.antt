-- With each turn there is one more place, and it is zeros.
use Rattle.std.proofs.Common.{◌+◌, refl, sym, ap, subst, ◌∙◌}
use Rattle.plain_single.specs.Image.{zero_sector}
use Rattle.plain_single.proofs.Zeros.{AreZeros, at_each_address, one_more}
use Rattle.plain_single.proofs.image.DiskImage.zeros.Goals as goal

pub loop-init : goal.loop-init
loop-init c = record {
  count = c.in_ok-sectors.ensures.len;
  zeros = subst AreZeros (sym c.in_ok-sectors.ensures.items) (λ i. refl);
}

pub loop-preserved : goal.loop-preserved
unfolding zero_sector
loop-preserved c = record {
  count = c.in_ok-push.ensures.len ∙ ap (λ n. n + 1) c.loop.invariant.count;
  zeros = subst AreZeros (sym c.in_ok-push.ensures.items) (one_more c.loop.sectors.items c.loop.invariant.zeros);
}

pub returns-clause-ok : goal.returns-clause-ok
returns-clause-ok c = λ a. at_each_address c.loop.sectors.items c.loop.invariant.zeros a
