-- Each law is about rows or about runs.
use Rattle.pair_protocol.proofs.RowActions.{row_changes}
use Rattle.pair_protocol.proofs.Promises.Runs.{changes_reach, run_reaches}
use Rattle.pair_protocol.proofs.laws.events_are_actions.Goals as goal

pub returns-clause-actions : goal.returns-clause-actions
returns-clause-actions g c M C w new e r row = row_changes M C w new e r row

pub returns-clause-reach : goal.returns-clause-reach
returns-clause-reach g c M C w new reached changes = changes_reach M C w new reached changes

pub returns-clause-runs : goal.returns-clause-runs
returns-clause-runs g c M C reads events replies w run = run_reaches M C reads events replies w run
