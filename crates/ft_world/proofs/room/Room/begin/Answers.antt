-- A primary and a backup of generation 1 are the two first nodes.
use Rattle.ft_world.proofs.Beginnings.{backup_station, primary_station, two_hosts}
use Rattle.ft_world.proofs.room.Room.begin.Goals as goal

pub returns : goal.returns
returns g c = λ C drives course p b none.
    let state = g.B.Lockstep.state in
    let M = g.B.Lockstep.machine in
    two_hosts state M C drives course c.args.reads c.args.self.hosts.items c.push_reserved.new.self.items c.push_reserved-2.new.self.items c.new.result
    c.new-2.result c.args.self.empty c.push_reserved.ensures.items c.push_reserved-2.ensures.items
    (primary_station state M C drives course c.args.reads (state c.args.primary) c.primary.result c.new.result (c.primary.ensures C drives)
    c.new.ensures.node c.new.ensures.inputs (c.new.ensures.count C drives) p)
    (backup_station state M C drives course c.args.reads (state c.args.backup) c.backup.result c.new-2.result (c.backup.ensures C drives)
    c.new-2.ensures.node c.new-2.ensures.inputs (c.new-2.ensures.count C drives) b none)
