-- A run is longer by a step.
use Rattle.host_law.proofs.Running.{ran-more, ran-nothing}
use Rattle.host_law.proofs.laws.runs_go_on.Goals as goal

pub returns : goal.returns
returns g c = record {
  runs = λ M C me x. (
    ran-nothing M C me x,
    λ read written y z act r step. ran-more M C me x read written y z act r step,
  );
}
