-- The host of this number is a node, or has no role, or there is no such host.
use Rattle.std.proofs.Common.{refl}
use Rattle.ft_world.specs.declared.host.Host.TheVariants as host
use Rattle.ft_world.proofs.Lending.{absent_past, absent_spare, host_there, no_host_there}
use Rattle.ft_world.proofs.hosts.station.Goals as goal

pub returns-in-Some-Node-clause-found : goal.returns-in-Some-Node-clause-found
returns-in-Some-Node-clause-found g c =
    let s = c.in-Some-Node in
    host_there c.deref.result.now c.args.hosts.now.items c.args.node s.field-0.now (host.Node s.station)
    c.deref.ensures.value s.ensures.lookup.3.0 s.ensures.lookup.1 s.field-0-is

pub returns-in-Some-Spare-clause-absent : goal.returns-in-Some-Spare-clause-absent
returns-in-Some-Spare-clause-absent g c =
    let s = c.in-Some-Spare in (
      refl,
      absent_spare c.args.hosts.now.items c.args.node s.field-0-0
          (host_there c.deref.result.now c.args.hosts.now.items c.args.node s.field-0.now (host.Spare s.field-0-0)
          c.deref.ensures.value s.ensures.lookup.3.0 s.ensures.lookup.1 s.field-0-is),
    )

pub returns-in-None-clause-absent : goal.returns-in-None-clause-absent
returns-in-None-clause-absent g c = (
  refl,
  absent_past c.args.hosts.now.items c.args.node
      (no_host_there c.deref.result.now c.args.hosts.now.items c.args.node c.deref.ensures.value
      c.in-None.ensures.lookup.3),
)
