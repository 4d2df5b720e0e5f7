-- An acceptance is one more of those taken.
use Rattle.std.proofs.Common.{refl}
use Rattle.pair_threads.proofs.Ports.{acceptance_of}
use Rattle.pair_threads.proofs.primary.PrimaryWorker.take_acceptance.Goals as goal

pub returns-then-port-eq0-clause-works : goal.returns-then-port-eq0-clause-works
returns-then-port-eq0-clause-works g c = (
  refl,
  refl,
  refl,
  refl,
  refl,
  λ boot leads. (acceptance_of g.B.Lockstep.state g.B.Lockstep.machine c.args.self.now c.sent.new.self boot leads c.args.port
      c.requires.port (c.sent.ensures.onward c.if-not-sent.false)).0 c.if-port-eq0.true,
  λ boot leads kept. kept,
)

pub returns-else-port-eq0-clause-works : goal.returns-else-port-eq0-clause-works
returns-else-port-eq0-clause-works g c = (
  refl,
  refl,
  refl,
  refl,
  refl,
  λ boot leads. (acceptance_of g.B.Lockstep.state g.B.Lockstep.machine c.args.self.now c.sent.new.self boot leads c.args.port
      c.requires.port (c.sent.ensures.onward c.if-not-sent.false)).1 c.if-port-eq0.false,
  λ boot leads kept. kept,
)
