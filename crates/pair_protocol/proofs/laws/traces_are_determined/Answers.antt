-- Each law is about traces.
use Rattle.pair_protocol.proofs.Traces.OneTrace.{one_trace, first_entries, quiet_moves, quiet_entries, one_end}
use Rattle.pair_protocol.proofs.laws.traces_are_determined.Goals as goal

pub returns-clause-one : goal.returns-clause-one
returns-clause-one g c = one_trace

pub returns-clause-one_end : goal.returns-clause-one_end
returns-clause-one_end g c = one_end

pub returns-clause-first_entries : goal.returns-clause-first_entries
returns-clause-first_entries g c =
    λ M reads list count n moves reach few. first_entries M list count reads n moves reach few

pub returns-clause-quiet : goal.returns-clause-quiet
returns-clause-quiet g c = quiet_moves

pub returns-clause-quiet_entries : goal.returns-clause-quiet_entries
returns-clause-quiet_entries g c = quiet_entries
