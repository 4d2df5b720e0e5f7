-- The screen was looked at.
use Rattle.std.proofs.Common.{refl}
use Rattle.outside_switch.proofs.TurnsGoing.{looks, may_show}
use Rattle.outside_switch.proofs.session.Session.rooms.Goals as goal

pub returns-clause-told : goal.returns-clause-told
returns-clause-told g c = looks _ _ refl refl refl refl c.has_room-has_room.ensures.same c.has_room-has_room.ensures.shown

pub returns-clause-room : goal.returns-clause-room
returns-clause-room g c = may_show c.has_room-has_room.result _ c.has_room-has_room.ensures.room
