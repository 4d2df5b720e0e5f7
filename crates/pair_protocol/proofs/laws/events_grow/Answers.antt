-- Both laws are about a single event.
use Rattle.pair_protocol.proofs.Promises.Growth.{row_grows}
use Rattle.pair_protocol.proofs.Promises.Runs.{run_reaches}
use Rattle.pair_protocol.proofs.laws.events_grow.Goals as goal

pub returns-clause-reached : goal.returns-clause-reached
returns-clause-reached g c M C laws copies w new e r reached row = row_grows M C laws copies w new e r reached row

pub returns-clause-grows : goal.returns-clause-grows
returns-clause-grows g c M C laws copies reads events replies w new e r run row =
    row_grows M C laws copies w new e r (run_reaches M C reads events replies w run) row
