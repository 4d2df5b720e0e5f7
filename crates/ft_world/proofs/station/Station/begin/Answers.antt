-- The node has begun, and the joining host is given what is of this station.
use Rattle.ft_world.proofs.CopiedStations.{alone_role, begins_on, may_begin}
use Rattle.ft_world.proofs.station.Station.begin.Goals as goal

pub returns-clause-answer : goal.returns-clause-answer
returns-clause-answer g c = λ C drives x copies keys parts is.
    let may = c.in_ok-next.ensures.answer C drives x copies parts is.node in
    let alone = alone_role x (may_begin drives x c.in_ok-next.next may).0 in
    begins_on g.B.Lockstep.state g.B.Lockstep.machine C drives c.args.self.now c.begin.new.self c.in_ok-opening.opening c.in_ok-next.next
    c.in_ok-begin.field-0 x is may (c.in_ok-begin.ensures.answer C drives x copies (keys alone) is.node) c.in_ok-opening.ensures.ok
