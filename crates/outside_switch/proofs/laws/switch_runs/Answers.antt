-- Each call goes on with the run.
use Rattle.outside_switch.proofs.Running.{begins, move_runs, moved_more}
use Rattle.outside_switch.proofs.laws.switch_runs.Goals as goal

pub returns : goal.returns
returns g c = record {
  begins = begins _;
  runs = λ M drives. move_runs M drives;
  hosts = moved_more;
}
