-- The writes before this one have lower numbers, so its name is free.
use Rattle.std.proofs.Common.{ap, sym, ◌∙◌, [], take, get_or}
use Rattle.event_callbacks.specs.declared.operations.OpId.TheVariants as id
use Rattle.event_callbacks.specs.declared.operations.Operation.TheVariants as operation
use Rattle.event_callbacks.specs.Operations.{Operations, Outstanding, operation_at, with_operation}
use Rattle.guest_parts.proofs.Waiting.{writes-more, writes-other, earlier-differ}
use Rattle.guest_board.proofs.board.rebuild.issue_writes.Goals as goal

pub issue-requires : goal.issue-requires
issue-requires c =
    let i = c.loop-write.write-index in
    let ws = c.args.writes.now in
    let n = (get_or ws i (record { number = 0; drive = 0; track = 0; sector = 0; bytes = [] })).number in
    ap (λ (m : Operations). operation_at m (id.Write n)) c.loop-write.invariant
    ∙ writes-other c.args.pending.now.operations (take i ws) n
    (earlier-differ ws i _ c.loop-write-test.true c.requires.rise)
    ∙ c.requires.new n

pub loop-write-preserved : goal.loop-write-preserved
loop-write-preserved c =
    let i = c.loop-write.write-index in
    let ws = c.args.writes.now in
    ap (λ (o : Outstanding). o.operations) c.in_ok-issue.ensures.ok
    ∙ ap (λ (m : Operations). with_operation m (operation.Write
    (get_or ws i (record { number = 0; drive = 0; track = 0; sector = 0; bytes = [] })))) c.loop-write.invariant
    ∙ sym (writes-more c.args.pending.now.operations ws i _ c.loop-write-test.true)
