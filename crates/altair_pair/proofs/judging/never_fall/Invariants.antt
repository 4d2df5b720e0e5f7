-- If the inputs that are left never fall from the last count on, all of them never fall.
use Rattle.std.proofs.Common.{drop}
use Rattle.plain_single.specs.Reaching.{NeverFall}
use Rattle.altair_pair.proofs.judging.never_fall.Given as goal

abbrev pub invariant-loop-input : goal.invariant-loop-input
invariant-loop-input l = record {
  rises : NeverFall l.last (drop l.input-index l.fn.inputs) → NeverFall 0 l.fn.inputs;
  falls : NeverFall 0 l.fn.inputs → NeverFall l.last (drop l.input-index l.fn.inputs);
}
