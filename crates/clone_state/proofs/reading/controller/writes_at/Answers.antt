use Rattle.std.proofs.Common.{sym, ◌∙◌}
use Rattle.clone_state.proofs.OutstandingWrites.{few_read, no_count, too_many}
use Rattle.clone_state.proofs.reading.controller.writes_at.Goals as goal

pub returns-in_default : goal.returns-in_default
returns-in_default c = sym (no_count c.args.bytes.now (sym c.in_default.ensures))

pub returns-then-count-gt-OUTSTANDING : goal.returns-then-count-gt-OUTSTANDING
returns-then-count-gt-OUTSTANDING c =
    sym (too_many c.args.bytes.now c.in-Some.rest.now c.in-Some.count (sym c.in-Some.ensures) c.if-count-gt-OUTSTANDING.true)

pub returns : goal.returns
returns c =
    c.each_write_at.ensures
    ∙ few_read c.args.bytes.now c.in-Some.rest.now c.in-Some.count (sym c.in-Some.ensures) c.if-count-gt-OUTSTANDING.false
