-- At first nothing is outstanding, then only bytes of port 0, then only bytes.
use Rattle.std.proofs.Common.{sym, ap, subst, ◌∙◌}
use Rattle.event_callbacks.specs.declared.operations.OpId.{OpId}
use Rattle.event_callbacks.specs.declared.operations.OpId.TheVariants as id
use Rattle.event_callbacks.specs.Operations.{Operations, Outstanding, operation_at}
use Rattle.event_callbacks.proofs.OperationMap.{operation_at-empty}
use Rattle.guest_parts.specs.Parts.{Rise}
use Rattle.guest_parts.proofs.Names.{other_port, no_byte}
use Rattle.guest_parts.proofs.Waiting.{port-other}
use Rattle.guest_parts.proofs.Places.{rises}
use Rattle.guest_parts.proofs.Standing.{standing_writes}
use Rattle.guest_board.proofs.board.rebuild.outstanding.Goals as goal

pub issue_port-requires-clause-new : goal.issue_port-requires-clause-new
issue_port-requires-clause-new c = λ number.
    ap (λ (o : Outstanding). operation_at o.operations (id.Byte 0 number)) c.new-pending.ensures
    ∙ operation_at-empty (id.Byte 0 number)

pub issue_port-requires-2-clause-new : goal.issue_port-requires-2-clause-new
issue_port-requires-2-clause-new c = λ number.
    let parts = c.args.parts.now in
    let name : OpId = id.Byte 1 number in
    ap (λ (m : Operations). operation_at m name) c.in_ok-issue_port.ensures.ok
    ∙ port-other parts.devices parts.issued parts.unaccepted c.new-pending.result.operations 0 name
    (λ j. other_port 1 0 number j (λ e. cc))
    ∙ ap (λ (o : Outstanding). operation_at o.operations name) c.new-pending.ensures ∙ operation_at-empty name

pub issue_writes-requires-clause-rise : goal.issue_writes-requires-clause-rise
issue_writes-requires-clause-rise c =
    let parts = c.args.parts.now in
    subst Rise (sym c.deref.ensures.value)
    (rises parts.writes.items parts.devices.disk.outstanding
    (standing_writes parts c.requires) c.stands.ensures.outstanding.order)

pub issue_writes-requires-clause-new : goal.issue_writes-requires-clause-new
issue_writes-requires-clause-new c = λ number.
    let parts = c.args.parts.now in
    let name : OpId = id.Write number in
    ap (λ (m : Operations). operation_at m name) c.in_ok-issue_port-2.ensures.ok
    ∙ port-other parts.devices parts.issued parts.unaccepted c.issue_port.new.pending.operations 1 name
    (λ j. no_byte 1 j number)
    ∙ ap (λ (m : Operations). operation_at m name) c.in_ok-issue_port.ensures.ok
    ∙ port-other parts.devices parts.issued parts.unaccepted c.new-pending.result.operations 0 name
    (λ j. no_byte 0 j number)
    ∙ ap (λ (o : Outstanding). operation_at o.operations name) c.new-pending.ensures ∙ operation_at-empty name
