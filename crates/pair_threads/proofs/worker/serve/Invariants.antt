-- A worker keeps its table, is ready, and came from the one that began, by as many turns as there were.
use Rattle.std.proofs.Common.{◌≡◌}
use Rattle.pair_threads.specs.Served.{HasHadTurns}
use Rattle.pair_threads.proofs.worker.serve.Given as goal

abbrev pub invariant-loop-number : goal.invariant-loop-number
invariant-loop-number g l =
    (g.W.Worker.table l.worker ≡ l.fabric) × g.W.Worker.ready l.worker × g.W.Worker.came l.initial.worker l.worker
    × HasHadTurns g.W.Worker.turned l.initial.worker l.number l.worker
