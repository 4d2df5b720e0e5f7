-- Each law is a law of the map.
use Rattle.event_callbacks.proofs.OperationMap.{operation_at-empty, operation_at-with, operation_at-with_other, operation_at-without, operation_at-without_other}
use Rattle.event_callbacks.proofs.laws.operations_come_and_go.Goals as goal

pub returns-clause-none_at_first : goal.returns-clause-none_at_first
returns-clause-none_at_first c i = operation_at-empty i

pub returns-clause-comes : goal.returns-clause-comes
returns-clause-comes c m op = record { itself = operation_at-with m op; others = operation_at-with_other m op }

pub returns-clause-goes : goal.returns-clause-goes
returns-clause-goes c m i = record { itself = operation_at-without m i; others = operation_at-without_other m i }
