-- Keys were sent from both ports.
use Rattle.std.proofs.Common.{refl}
use Rattle.outside_switch.specs.Meets.{seen}
use Rattle.outside_switch.proofs.TurnsGoing.{sends}
use Rattle.outside_switch.proofs.session.Session.send_keys.Goals as goal

pub returns : goal.returns
returns g c =
    sends _ _ (seen c.send_keys.new.switch) c.send_keys.ensures.goes c.send_keys-2.ensures.goes c.send_keys.ensures.rests
    c.send_keys-2.ensures.rests refl refl
