-- Nobody serves, or a primary that is to ask, or one that a host joins.
use Rattle.pair_protocol.specs.Settled.{highest}
use Rattle.pair_shell.proofs.Bounds.{joining_bound, nobody_bound, primary_bound}
use Rattle.pair_shell.proofs.bound.most_events.Goals as goal

pub returns-in-Nobody : goal.returns-in-Nobody
returns-in-Nobody g c = λ course h.
    nobody_bound g.B.Lockstep.state g.B.OutstandingWrites.writes g.B.Lockstep.machine course.world c.args.hosts c.args.parts
    (highest course.world.nodes) (c.in-Nobody.ensures.serves course h) (c.in-Nobody.ensures.all course h)

pub returns-in_ok-count_of-in-Primary : goal.returns-in_ok-count_of-in-Primary
returns-in_ok-count_of-in-Primary g c = λ course h.
    primary_bound g.B.Lockstep.state g.B.OutstandingWrites.writes g.B.Lockstep.machine course.world c.args.hosts c.args.parts
    (highest course.world.nodes) c.in-Primary.node c.in_ok-count_of-in-Primary.field-0 c.completed.result
    c.saturating_add.result (c.in-Primary.ensures.serves course h) (c.in-Primary.ensures.all course h)
    (c.in_ok-count_of-in-Primary.ensures course h) c.completed.ensures c.saturating_add.ensures

pub returns-in_ok-names-in-Joining : goal.returns-in_ok-names-in-Joining
returns-in_ok-names-in-Joining g c = λ course h.
    joining_bound g.B.Lockstep.state g.B.OutstandingWrites.writes g.B.Lockstep.machine course.world c.args.hosts c.args.parts
    (highest course.world.nodes) c.in-Joining.node c.in-Joining.host c.in_ok-names-in-Joining.names c.paired.result
    c.joined.result c.standing_of-in-Joining.result (c.in-Joining.ensures.serves course h)
    (c.in-Joining.ensures.all course h) (c.in_ok-names-in-Joining.ensures course h)
    (c.standing_of-in-Joining.ensures course h) c.paired.ensures c.joined.ensures
