-- One more host is appended, here and in the world.
use Rattle.std.proofs.Common.{◌≡◌, [], ◌∷◌, ◌++◌, ap, subst, sym}
use Rattle.pair_protocol.specs.World.{with_host}
use Rattle.ft_world.specs.Applies.{Shows}
use Rattle.ft_world.specs.Pairs.{running_of}
use Rattle.ft_world.specs.Standing.{machine_of}
use Rattle.ft_world.specs.declared.host.Host.TheVariants as host
use Rattle.ft_world.proofs.Applying.{shown_is_faithful}
use Rattle.ft_world.proofs.Hosting.{host_comes, host_grows}
use Rattle.ft_world.proofs.pair.Pair.host.Goals as goal

pub returns-clause-ok : goal.returns-clause-ok
returns-clause-ok g c = λ course h.
    let e : c.push_reserved.new.self.items ≡ c.args.self.now.hosts.items ++ host.Spare c.args.resources ∷ [] =
    cc (c.push_reserved.ensures.items, c.reserve.ensures.items, c.in-Ok.ensures.items) in
    subst
    (λ hs. Shows g.B.Lockstep.state g.B.Copies.copied g.B.Lockstep.machine g.D.SectorStore.records
    (record (running_of c.args.self.now) { hosts = hs })
    (record course { world = with_host (machine_of g.B.Lockstep.machine course) course.world })) (sym e)
    (host_comes g.B.Lockstep.state g.B.Copies.copied g.B.Lockstep.machine g.D.SectorStore.records (running_of c.args.self.now) course
    c.args.resources h)

pub returns-clause-faithful : goal.returns-clause-faithful
returns-clause-faithful g c = λ course h.
    shown_is_faithful g.B.Lockstep.state g.B.Copies.copied g.B.Lockstep.machine g.D.SectorStore.records
    (record (running_of c.args.self.now) { hosts = c.args.self.now.hosts.items ++ host.Spare c.args.resources ∷ [] })
    (record course { world = with_host (machine_of g.B.Lockstep.machine course) course.world })
    (host_comes g.B.Lockstep.state g.B.Copies.copied g.B.Lockstep.machine g.D.SectorStore.records (running_of c.args.self.now) course
    c.args.resources h)

pub returns-clause-grows : goal.returns-clause-grows
returns-clause-grows g c = λ course h.
    host_grows g.B.Lockstep.state g.B.Copies.copied g.B.Lockstep.machine g.D.SectorStore.records (running_of c.args.self.now)
    course h

pub returns-clause-others : goal.returns-clause-others
returns-clause-others g c =
    let e : c.push_reserved.new.self.items ≡ c.args.self.now.hosts.items ++ host.Spare c.args.resources ∷ [] =
    cc (c.push_reserved.ensures.items, c.reserve.ensures.items, c.in-Ok.ensures.items) in
    ap (λ hs. record (running_of c.args.self.now) { hosts = hs }) e
