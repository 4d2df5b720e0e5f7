-- There is no such host, or it has a role, or it is spare.
use Rattle.std.specs.Prelude.{slice_get}
use Rattle.ft_world.specs.declared.host.Host.TheVariants as host
use Rattle.ft_world.proofs.Lending.{host_there, no_host_there}
use Rattle.ft_world.proofs.SpareHosts.{check_absent, check_role, check_spare}
use Rattle.ft_world.proofs.hosts.check_pair.Goals as goal

pub returns-in_default : goal.returns-in_default
returns-in_default g c =
    let hosts = c.args.hosts.now.items in
    check_absent (slice_get hosts c.args.host) (slice_get hosts c.args.node)
    (no_host_there c.deref.result.now hosts c.args.host c.deref.ensures.value c.in_default.ensures.lookup.3)

pub returns-in-Node : goal.returns-in-Node
returns-in-Node g c =
    let hosts = c.args.hosts.now.items in
    let s = c.in-Some in
    check_role (slice_get hosts c.args.host) (slice_get hosts c.args.node) c.in-Node.field-0 c.in_ok-station.field-0.now
    (host_there c.deref.result.now hosts c.args.host s.other.now (host.Node c.in-Node.field-0) c.deref.ensures.value
    s.ensures.lookup.3.0 s.ensures.lookup.1 c.in-Node.is)
    c.in_ok-station.ensures.found

pub returns-in-Spare : goal.returns-in-Spare
returns-in-Spare g c =
    let hosts = c.args.hosts.now.items in
    let s = c.in-Some in
    check_spare (slice_get hosts c.args.host) (slice_get hosts c.args.node) c.in-Spare.field-0 c.in_ok-station.field-0.now
    (host_there c.deref.result.now hosts c.args.host s.other.now (host.Spare c.in-Spare.field-0) c.deref.ensures.value
    s.ensures.lookup.3.0 s.ensures.lookup.1 c.in-Spare.is)
    c.in_ok-station.ensures.found
