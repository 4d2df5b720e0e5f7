-- The verdict, from what the single machine does.
use Rattle.std.proofs.Common.{◌≡◌, sym, ◌∙◌, subst, refl, true≢false, true, false}
use Rattle.guest_board.specs.Guest.{altair}
use Rattle.ft_world.specs.Standing.{machine_of}
use Rattle.plain_single.specs.SingleState.{output_of}
use Rattle.plain_single.specs.Image.{boot_sectors, sector_at}
use Rattle.plain_single.specs.Reaching.{Fails, NeverFall, RunsTo}
use Rattle.altair_pair.specs.Comparing.{IsAnswer, Falls, Stops, deeds_of}
use Rattle.altair_pair.proofs.Comparisons.{verdict_of}
use Rattle.altair_pair.proofs.checking.compare.Goals as goal

pub returns-then-not-never_fall-clause-verdict : goal.returns-then-not-never_fall-clause-verdict
returns-then-not-never_fall-clause-verdict g c = λ course shows. record {
  list = c.settled-count.result.0.now;
  count = c.settled-count.result.1;
  settled = c.settled-count.ensures course shows;
  judged = Falls (λ never. true≢false (sym (c.never_fall.ensures.1
      (subst (λ l. NeverFall 0 l)
      (sym (c.deref.ensures.value ∙ c.in_ok-inputs.ensures.items_if_clones_equal (λ x y same. same))) never))
      ∙ c.if-not-never_fall.true));
}

pub returns-then-is_alike-clause-verdict : goal.returns-then-is_alike-clause-verdict
returns-then-is_alike-clause-verdict g c = λ course shows.
    let d = deeds_of (machine_of g.B.Lockstep.machine course) course.world c.settled-count.result.0.now in
    let M = altair c.args.setup.now (boot_sectors c.args.sectors.now) in
    let same : c.in_ok-inputs.inputs.items ≡ c.settled-count.result.0.now
    = c.in_ok-inputs.ensures.items_if_clones_equal (λ x y is. is) in
    record {
      list = c.settled-count.result.0.now;
      count = c.settled-count.result.1;
      settled = c.settled-count.ensures course shows;
      judged = verdict_of M c.args.setup.now.drives d c.args.world.now.disk.store c.settled-count.result.1 c.in-Ok.single true
          c.args.setup.now.few
          (subst (λ l. RunsTo M l c.settled-count.result.1 c.in-Ok.single) (c.deref-2.ensures.value ∙ same)
          (c.in-Ok.ensures.ok c.args.setup.now (boot_sectors c.args.sectors.now) c.in_ok-single.ensures.ok))
          (subst (λ answer. IsAnswer c.args.setup.now.drives d c.args.world.now.disk.store (output_of c.in-Ok.single)
          c.in-Ok.single.behind.writes (sector_at c.in-Ok.single.disk) answer) c.if-is_alike.true
          (subst (λ l. IsAnswer c.args.setup.now.drives
          (deeds_of (machine_of g.B.Lockstep.machine course) course.world l) c.args.world.now.disk.store
          (output_of c.in-Ok.single) c.in-Ok.single.behind.writes (sector_at c.in-Ok.single.disk) c.is_alike.result)
          (c.deref-3.ensures.value ∙ same) (c.is_alike.ensures.answer course shows)));
    }

pub returns-clause-verdict : goal.returns-clause-verdict
returns-clause-verdict g c = λ course shows.
    let d = deeds_of (machine_of g.B.Lockstep.machine course) course.world c.settled-count.result.0.now in
    let M = altair c.args.setup.now (boot_sectors c.args.sectors.now) in
    let same : c.in_ok-inputs.inputs.items ≡ c.settled-count.result.0.now
    = c.in_ok-inputs.ensures.items_if_clones_equal (λ x y is. is) in
    record {
      list = c.settled-count.result.0.now;
      count = c.settled-count.result.1;
      settled = c.settled-count.ensures course shows;
      judged = verdict_of M c.args.setup.now.drives d c.args.world.now.disk.store c.settled-count.result.1 c.in-Ok.single false
          c.args.setup.now.few
          (subst (λ l. RunsTo M l c.settled-count.result.1 c.in-Ok.single) (c.deref-2.ensures.value ∙ same)
          (c.in-Ok.ensures.ok c.args.setup.now (boot_sectors c.args.sectors.now) c.in_ok-single.ensures.ok))
          (subst (λ answer. IsAnswer c.args.setup.now.drives d c.args.world.now.disk.store (output_of c.in-Ok.single)
          c.in-Ok.single.behind.writes (sector_at c.in-Ok.single.disk) answer) c.if-is_alike.false
          (subst (λ l. IsAnswer c.args.setup.now.drives
          (deeds_of (machine_of g.B.Lockstep.machine course) course.world l) c.args.world.now.disk.store
          (output_of c.in-Ok.single) c.in-Ok.single.behind.writes (sector_at c.in-Ok.single.disk) c.is_alike.result)
          (c.deref-3.ensures.value ∙ same) (c.is_alike.ensures.answer course shows)));
    }

pub returns-in_default : goal.returns-in_default
returns-in_default g c = record {
  verdict = λ course shows. record {
    list = c.settled-count.result.0.now;
    count = c.settled-count.result.1;
    settled = c.settled-count.ensures course shows;
    judged = Stops c.in-Err.fault c.in_default.not-OutOfMemory
        (subst (λ l. Fails (altair c.args.setup.now (boot_sectors c.args.sectors.now)) l c.settled-count.result.1 c.in-Err.fault)
        (c.deref-2.ensures.value ∙ c.in_ok-inputs.ensures.items_if_clones_equal (λ x y is. is))
        (c.in-Err.ensures.refused c.args.setup.now (boot_sectors c.args.sectors.now) c.in_ok-single.ensures.ok));
  };
  only_memory = tt;
  unchanged = refl;
}
