-- The host begins, and the spare has the number.
use Rattle.outside_switch.specs.Meets.{seen}
use Rattle.std.proofs.Common.{None, [], subst}
use Rattle.outside_switch.specs.Lines.{MayBeGiven}
use Rattle.outside_switch.proofs.Acting.{still_met}
use Rattle.outside_switch.proofs.Going.{acts, names, still}
use Rattle.outside_switch.proofs.switch.Switch.send_begin.Goals as goal

pub returns-then-not-may_be_given-clause-goes : goal.returns-then-not-may_be_given-clause-goes
returns-then-not-may_be_given-clause-goes g c = still (seen c.args.self.now)

pub returns-then-not-begin-clause-goes : goal.returns-then-not-begin-clause-goes
returns-then-not-begin-clause-goes g c = acts (seen c.args.self.now) (seen c.begin.new.self) [] c.if-not-begin.ensures

pub returns-clause-goes : goal.returns-clause-goes
returns-clause-goes g c =
    names (seen c.args.self.now) (seen c.begin.new.self) (seen c.name.new.self) c.args.spare c.args.generation
    (subst (λ l. MayBeGiven c.args.generation c.args.spare l) c.deref.ensures.value
    (c.may_be_given.ensures c.if-not-may_be_given.false))
    c.if-not-begin.ensures c.name.ensures

pub returns-then-not-may_be_given-clause-begun : goal.returns-then-not-may_be_given-clause-begun
returns-then-not-may_be_given-clause-begun g c = still_met None (seen c.args.self.now)

pub returns-clause-begun : goal.returns-clause-begun
returns-clause-begun g c = record {
  told = seen c.begin.new.self;
  may = subst (λ l. MayBeGiven c.args.generation c.args.spare l) c.deref.ensures.value
      (c.may_be_given.ensures c.if-not-may_be_given.false);
  begins = c.if-not-begin.ensures;
  names = c.name.ensures;
}
