-- What the disk answered is taken, or dropped.
use Rattle.std.proofs.Common.{Some, ap, refl, ◌∙◌}
use Rattle.pair_rule.specs.declared.payload.DiskAnswer.TheVariants.{Read, Written}
use Rattle.pair_threads.proofs.Ports.{answered}
use Rattle.pair_threads.proofs.primary.PrimaryWorker.complete.Goals as goal

pub returns-in-Written-clause-works : goal.returns-in-Written-clause-works
returns-in-Written-clause-works g c = (
  refl,
  refl,
  refl,
  refl,
  refl,
  λ boot leads. answered g.B.Lockstep.state g.B.Lockstep.machine c.args.self.now c.written.new.self boot leads
      (Written c.in-Written.number) (c.in-Some.is ∙ ap Some c.in-Written.is) c.written.result
      c.written.ensures.refused c.written.ensures.onward,
  λ boot leads kept. kept,
)

pub returns-then-sector-clause-works : goal.returns-then-sector-clause-works
returns-then-sector-clause-works g c =
    let passed = c.pass_sector.ensures.works in (
      passed.0,
      passed.1,
      passed.2,
      passed.3,
      passed.4,
      λ boot leads. passed.5 boot (answered g.B.Lockstep.state g.B.Lockstep.machine c.args.self.now c.sector.new.self
          boot leads (Read c.in-Read.read) (c.in-Some.is ∙ ap Some c.in-Read.is) c.sector.result
          c.sector.ensures.refused c.sector.ensures.onward),
      λ boot leads kept. passed.6 boot (answered g.B.Lockstep.state g.B.Lockstep.machine c.args.self.now c.sector.new.self
          boot leads (Read c.in-Read.read) (c.in-Some.is ∙ ap Some c.in-Read.is) c.sector.result
          c.sector.ensures.refused c.sector.ensures.onward) kept,
    )
