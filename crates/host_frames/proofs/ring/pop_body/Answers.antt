-- The bytes are moved to as many places.
use Rattle.std.proofs.Common.{ap, arith}
use Rattle.host_frames.proofs.PopLaws.{body_is, left_is}
use Rattle.host_frames.proofs.ring.pop_body.Goals as goal

pub returns-clause-ok : goal.returns-clause-ok
returns-clause-ok c =
    body_is c.args.pending.now.items c.truncate_front.new.self.items c.deref_mut.result.now c.read_into.new.dst
    c.in_ok-body.body.items c.args.count c.len-rest.result c.read_into.result c.in_ok-body.body.len c.requires.whole
    c.len-rest.ensures.len (ap (λ b. b.items) c.truncate_front.ensures)
    (omega (arith, c.deref_mut.ensures.len, c.in_ok-body.ensures.len)) (omega (arith, c.in_ok-body.ensures.len))
    c.read_into.ensures.count c.read_into.ensures.read

pub returns-clause-rest : goal.returns-clause-rest
returns-clause-rest c =
    left_is c.args.pending.now.items c.truncate_front.new.self.items c.deref_mut.result.now c.read_into.new.self.items
    c.args.count c.len-rest.result c.read_into.result c.requires.whole c.len-rest.ensures.len
    (ap (λ b. b.items) c.truncate_front.ensures) (omega (arith, c.deref_mut.ensures.len, c.in_ok-body.ensures.len))
    c.read_into.ensures.count (ap (λ b. b.items) c.read_into.ensures.items)
