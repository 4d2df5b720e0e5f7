-- What a station shows is what the node of the world has at that number.
use Rattle.std.proofs.Common.{◌≡◌, Some}
use Rattle.std.specs.Prelude.{slice_get}
use Rattle.ft_world.specs.declared.host.Host.TheVariants as host
use Rattle.ft_world.proofs.Statuses.{holds_of_found, station_shows}
use Rattle.ft_world.proofs.hosts.status.Goals as goal

pub returns : goal.returns
returns g c = λ C drives nodes are.
    station_shows g.B.Lockstep.state g.B.Lockstep.machine C drives c.args.hosts.now.items nodes c.args.node c.in_ok-station.station.now
    (record { role = c.role.result; generation = c.generation.result; count = c.count.result }) are
    (holds_of_found (λ here. slice_get c.args.hosts.now.items c.args.node ≡ Some (host.Node here.now)) c.station.result
    c.in_ok-station.station c.in_ok-station.ensures.value c.station.ensures.found)
    (c.role.ensures C drives) (c.generation.ensures.value C drives) (c.count.ensures C drives)
