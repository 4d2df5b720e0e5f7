-- Each line has an event, so fewer are left after it.
use Rattle.std.proofs.Common.{◌≡◌, ◌+◌, ◌==◌, ◌++◌, ◌∙◌, true, false, length, length-append, length-drop, drop, replicate, ap, arith}
use Rattle.std.proofs.lemmas.List.{length-replicate, nil_from_length}
use Rattle.sequence_diagram.proofs.Sharing.{drawn_all, drawn_more, none_left, some_left}
use Rattle.sequence_diagram.proofs.lines.lines_of.Goals as goal

pub lines-preserved : goal.lines-preserved
lines-preserved c =
    let test : (length c.lines.rest.now == 0) ≡ false = cc in
    let some = some_left (length c.lines.rest.now) test in
    let events = c.line_length-events.result in
    let many : c.add_line.new.of.items ≡ c.lines.of.items ++ replicate events c.lines.count = c.in_ok-add_line.ensures in
    let after : c.split_at.result.1.now ≡ drop events c.lines.rest.now = c.split_at.ensures.back in
    let longer : length c.add_line.new.of.items ≡ length c.lines.of.items + events =
    ap length many ∙ simp (length-append, length-replicate) in
    let shorter = ap length after ∙ length-drop events c.lines.rest.now in
    let one = c.line_length-events.ensures.some some in
    let all = c.line_length-events.ensures.within in
    record {
      drawn = drawn_more c.args.moments.now c.lines.of.items c.add_line.new.of.items c.lines.count events c.lines.rest.now
          c.split_at.result.1.now c.lines.invariant.drawn some c.line_length-events.ensures.exact many after;
      counted = omega (arith, longer, shorter, all, c.lines.invariant.counted);
      few = omega (arith, longer, one, c.lines.invariant.few);
    }

pub returns : goal.returns
returns c =
    let test : (length c.lines.rest.now == 0) ≡ true = cc in
    drawn_all c.args.moments.now c.lines.of.items c.lines.count c.lines.rest.now c.lines.invariant.drawn
    (nil_from_length c.lines.rest.now (none_left (length c.lines.rest.now) test))
