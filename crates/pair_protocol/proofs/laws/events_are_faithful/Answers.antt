-- A run reaches its world by actions.
use Rattle.pair_protocol.proofs.Promises.Runs.{always_faithful, run_reaches}
use Rattle.pair_protocol.proofs.laws.events_are_faithful.Goals as goal

pub returns : goal.returns
returns g c = record {
  faithful = λ M C laws copies reads events replies w run.
      always_faithful M C laws copies w (run_reaches M C reads events replies w run);
}
