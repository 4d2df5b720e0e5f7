-- The bytes before this one have lower numbers, so its name is free.
use Rattle.std.proofs.Common.{ap, sym, ◌∙◌, take, get_or, length, ◌+◌, ◌≤◌, arith}
use Rattle.std.proofs.lemmas.List.{length-take-le}
use Rattle.event_callbacks.specs.declared.operations.OpId.TheVariants as id
use Rattle.event_callbacks.specs.declared.operations.Operation.TheVariants as operation
use Rattle.event_callbacks.specs.Operations.{Operations, Outstanding, operation_at, with_operation}
use Rattle.guest_parts.proofs.Waiting.{bytes-more, bytes-past}
use Rattle.guest_board.proofs.board.rebuild.issue_bytes.Goals as goal

pub issue-requires : goal.issue-requires
issue-requires c =
    let i = c.loop-byte.byte-index in
    let before : c.args.oldest + length (take i c.args.bytes.now) ≤ c.loop-byte.number =
    omega (arith, length-take-le i c.args.bytes.now (omega arith)) in
    ap (λ (m : Operations). operation_at m (id.Byte c.args.port c.loop-byte.number)) c.loop-byte.invariant.issued
    ∙ bytes-past c.args.pending.now.operations c.args.port c.args.oldest
    (take i c.args.bytes.now) c.loop-byte.number before
    ∙ c.requires.new c.loop-byte.number

pub loop-byte-preserved : goal.loop-byte-preserved
loop-byte-preserved c =
    let i = c.loop-byte.byte-index in
    let op = operation.Byte c.args.port c.loop-byte.number (get_or c.args.bytes.now i 0) in
    record {
      next = omega arith;
      issued = ap (λ (o : Outstanding). o.operations) c.in_ok-issue.ensures.ok
          ∙ ap (λ (m : Operations). with_operation m op) c.loop-byte.invariant.issued
          ∙ sym (bytes-more c.args.pending.now.operations c.args.port c.args.oldest c.loop-byte.number c.args.bytes.now i
          c.loop-byte-test.true c.loop-byte.invariant.next);
    }
