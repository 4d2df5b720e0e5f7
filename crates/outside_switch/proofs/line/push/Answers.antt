-- The frame was pushed to a ring that had room.
use Rattle.outside_switch.proofs.Lines.{took_pushed}
use Rattle.outside_switch.proofs.line.push.Goals as goal

pub returns : goal.returns
returns c = (
  c.in-Ok.bytes,
  c.in-Ok.ensures.ok,
  took_pushed c.args.to.now c.in-Some.to c.is_full.new.self c.push_reserved.new.self c.in-Ok.bytes c.in-Some.is
      c.is_full.ensures.looked c.push_reserved.ensures.ring c.push_reserved.ensures.sent.0,
)
