-- The host was heard, and what is to be shown of it was.
use Rattle.std.proofs.Common.{refl}
use Rattle.outside_switch.specs.Passing.{passed_of}
use Rattle.outside_switch.proofs.TurnsGoing.{hears, hears_one, types_nothing}
use Rattle.outside_switch.proofs.session.Session.hear_one.Goals as goal

pub tell-requires : goal.tell-requires
tell-requires g c = c.rooms-rooms.ensures.room c.hear-heard.result c.hear-heard.ensures.room

pub returns-clause-went : goal.returns-clause-went
returns-clause-went g c =
    hears c.args.self.now c.rooms-rooms.new.self (record c.rooms-rooms.new.self { switch = c.hear-heard.new.self })
    c.tell.new.self (passed_of c.hear-heard.result) (types_nothing c.hear-heard.result 0) (types_nothing c.hear-heard.result 1)
    c.rooms-rooms.ensures.told c.hear-heard.ensures.goes refl refl refl refl c.tell.ensures.told

pub returns-clause-hears : goal.returns-clause-hears
returns-clause-hears g c =
    hears_one c.args.self.now c.rooms-rooms.new.self (record c.rooms-rooms.new.self { switch = c.hear-heard.new.self })
    c.tell.new.self c.args.place c.rooms-rooms.result c.hear-heard.result c.rooms-rooms.ensures.told
    c.hear-heard.ensures.hears refl c.tell.ensures.told
