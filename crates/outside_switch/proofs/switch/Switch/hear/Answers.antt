-- The body that came was heard.
use Rattle.std.proofs.Common.{[], None, Some, refl, subst, sym}
use Rattle.pair_protocol.proofs.Traces.Lists.{prefix-refl}
use Rattle.pair_protocol.specs.Lawful.{Among}
use Rattle.outside_switch.specs.Causes.{came_at}
use Rattle.outside_switch.proofs.Coming.{body_on, came_now}
use Rattle.outside_switch.specs.Goes.{HearsBody}
use Rattle.outside_switch.specs.Heeds.{HeedsBody}
use Rattle.outside_switch.specs.Meets.{seen}
use Rattle.outside_switch.specs.Passing.{passed_of}
use Rattle.outside_switch.proofs.Rooms.{room_for}
use Rattle.outside_switch.proofs.Going.{acts, heard_body}
use Rattle.outside_switch.proofs.switch.Switch.hear.Goals as goal

pub hear_body-requires : goal.hear_body-requires
hear_body-requires g c =
    subst (λ l. Among l (came_at c.next.new.self.lines.items c.args.place)) (sym c.deref.ensures.value)
    (came_now c.args.self.now.lines.items c.next.new.self.lines.items c.args.place c.in-Some.body c.in-Some.ensures.lines)

pub returns-in-Some-clause-goes : goal.returns-in-Some-clause-goes
returns-in-Some-clause-goes g c =
    heard_body (seen c.args.self.now) (seen c.next.new.self) (seen c.hear_body.new.self) (passed_of c.hear_body.result) c.args.place c.in-Some.body
    c.in-Some.ensures
    (subst (λ l. HearsBody (passed_of c.hear_body.result) c.args.place l (seen c.next.new.self) (seen c.hear_body.new.self)) c.deref.ensures.value
    c.hear_body.ensures.goes)

pub returns-in-None-clause-goes : goal.returns-in-None-clause-goes
returns-in-None-clause-goes g c = acts (seen c.args.self.now) (seen c.next.new.self) [] c.in-None.ensures.0

pub returns-in-Some-clause-hears : goal.returns-in-Some-clause-hears
returns-in-Some-clause-hears g c = record {
  body = Some c.in-Some.body;
  taken = seen c.next.new.self;
  next = c.in-Some.ensures;
  heeds = subst
      (λ l. HeedsBody c.args.place c.args.rooms l c.next.new.self.lines.items c.next.new.self.devices
      c.hear_body.new.self.devices c.hear_body.result)
      c.deref.ensures.value c.hear_body.ensures.heeds;
  on = body_on (passed_of c.hear_body.result) c.args.place c.deref.result.now (seen c.next.new.self)
      (seen c.hear_body.new.self) c.hear_body.ensures.goes;
}

pub returns-in-None-clause-hears : goal.returns-in-None-clause-hears
returns-in-None-clause-hears g c = record {
  body = None;
  taken = seen c.next.new.self;
  next = c.in-None.ensures;
  heeds = (refl, refl);
  on = λ n. prefix-refl (came_at c.next.new.self.lines.items n);
}

pub returns-in-Some-clause-room : goal.returns-in-Some-clause-room
returns-in-Some-clause-room g c =
    room_for c.args.rooms c.args.place (Some c.in-Some.body) (seen c.next.new.self) (seen c.hear_body.new.self)
    c.hear_body.result
    (subst
    (λ l. HeedsBody c.args.place c.args.rooms l c.next.new.self.lines.items c.next.new.self.devices
    c.hear_body.new.self.devices c.hear_body.result)
    c.deref.ensures.value c.hear_body.ensures.heeds)
