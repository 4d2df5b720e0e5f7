-- The key that comes next is one more of those taken.
use Rattle.std.proofs.Common.{refl}
use Rattle.pair_threads.proofs.Ports.{key_of}
use Rattle.pair_threads.proofs.primary.PrimaryWorker.next_key.Goals as goal

pub returns-then-port-eq0-clause-works : goal.returns-then-port-eq0-clause-works
returns-then-port-eq0-clause-works g c = (
  refl,
  refl,
  refl,
  refl,
  refl,
  λ boot leads. (key_of g.B.Lockstep.state g.B.Lockstep.machine c.args.self.now c.key.new.self boot leads c.args.port
      c.in-Some.byte c.inputs.result.now c.requires.port c.inputs.ensures c.in-Some.ensures
      (c.key.ensures.onward c.if-not-key.false)).0 c.if-port-eq0.true,
  λ boot leads kept. kept,
)

pub returns-else-port-eq0-clause-works : goal.returns-else-port-eq0-clause-works
returns-else-port-eq0-clause-works g c = (
  refl,
  refl,
  refl,
  refl,
  refl,
  λ boot leads. (key_of g.B.Lockstep.state g.B.Lockstep.machine c.args.self.now c.key.new.self boot leads c.args.port
      c.in-Some.byte c.inputs.result.now c.requires.port c.inputs.ensures c.in-Some.ensures
      (c.key.ensures.onward c.if-not-key.false)).1 c.if-port-eq0.false,
  λ boot leads kept. kept,
)
