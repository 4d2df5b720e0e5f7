use Rattle.rtrb.specs.Ring.{received}
use Rattle.host_node.proofs.Keeping.{kept_one}
use Rattle.host_node.proofs.mail.Mail.next.Goals as goal

pub invariant_of-self-2 : goal.invariant_of-self-2
invariant_of-self-2 c = record {
  first = kept_one (received c.self.inside.bodies) (received c.pop.new.self) c.in-Ok.body c.self.inside.first.items
      c.in-Ok.ensures.ok.0 c.self.invariant.first;
  second = kept_one (received c.self.inside.bodies) (received c.pop.new.self) c.in-Ok.body c.self.inside.second.items
      c.in-Ok.ensures.ok.0 c.self.invariant.second;
}
