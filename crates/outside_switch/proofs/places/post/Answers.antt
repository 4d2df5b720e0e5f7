-- One line took the frame, or lost it.
use Rattle.outside_switch.proofs.Lines.{posted_at}
use Rattle.outside_switch.proofs.places.post.Goals as goal

pub returns : goal.returns
returns c =
    posted_at c.args.lines.now c.from-place.result c.args.place c.index-lines-place.result c.from-place.ensures
    c.if-place-lines.false c.send.new.self _ c.send.result c.send.ensures
