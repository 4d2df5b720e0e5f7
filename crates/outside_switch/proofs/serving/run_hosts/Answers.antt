-- Counts began anew, it went on to the end, and then told the hosts to stop.
use Rattle.std.proofs.Common.{refl}
use Rattle.outside_switch.proofs.Counting.{none_yet}
use Rattle.outside_switch.proofs.TurnsGoing.{and_then, clears, switched}
use Rattle.outside_switch.proofs.serving.run_hosts.Goals as goal

pub serve-end-requires : goal.serve-end-requires
serve-end-requires g c = none_yet c.args.session.now (record c.args.session.now { flood = c.clear.new.self }) c.clear.ensures

pub returns : goal.returns
returns g c = record {
  last = c.serve-end.new.session;
  went = and_then _ _ _ (clears c.args.session.now (record c.args.session.now { flood = c.clear.new.self }) c.clear.ensures
      refl refl refl refl) c.serve-end.ensures.went;
  why = c.serve-end.ensures.why;
  stopped = switched _ _ c.stop.ensures refl refl refl refl;
}
