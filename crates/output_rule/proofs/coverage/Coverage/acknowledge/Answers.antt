-- The number of keys rises if more is acknowledged, and not all was covered before.
use Rattle.std.proofs.Common.{◌≤◌, arith}
use Rattle.i8080_words.specs.declared.limits.TheConstants.{GREATEST_NUMBER}
use Rattle.output_rule.specs.Coverage.{covering_of}
use Rattle.output_rule.proofs.Standing.{IsCovering-held, IsCovering-reported, IsCovering-told}
use Rattle.output_rule.proofs.coverage.Coverage.acknowledge.Goals as goal
use Rattle.output_rule.proofs.coverage.Coverage.acknowledge.Goals.{then-held-self, then-not-self, else-not-self, else-held-self}

pub invariant_of-self : goal.invariant_of-self
invariant_of-self c =
    let before = covering_of c.self.inside in
    let replayed = c.max-self-inside.result in
    elim c.if-held-self.branch [
      | then-held-self w ↦
          (let order : before.acknowledged ≤ c.args.held = omega arith in
          let limit : c.args.held ≤ GREATEST_NUMBER = omega arith in
          elim w.if-not-self.branch [
            | then-not-self v ↦
                rw (w.self-inside-is, v.self-inside-is, v.with_keys-self-inside.ensures)
                (IsCovering-reported _ replayed
                (IsCovering-told before c.args.log.now c.args.held c.self.invariant order limit))
            | else-not-self v ↦
                rw (w.self-inside-is, v.self-inside-is)
                (IsCovering-reported _ replayed (IsCovering-held before c.args.held c.self.invariant order limit))
          ])
      | else-held-self w ↦ rw w.self-inside-is (IsCovering-reported before replayed c.self.invariant)
    ]
