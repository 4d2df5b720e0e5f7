-- The notes that `remove_note` leaves are those of the other names.
use Rattle.output_rule.proofs.Standing.{IsCovering-forget}
use Rattle.output_rule.specs.Coverage.{covering_of}
use Rattle.output_rule.proofs.coverage.Coverage.forget.Goals as goal

pub invariant_of-self : goal.invariant_of-self
invariant_of-self c =
    rw c.remove_note.ensures (IsCovering-forget (covering_of c.self.inside) c.args.id c.self.invariant)
