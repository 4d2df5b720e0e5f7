-- A frame that means nothing.
use Rattle.std.proofs.Common.{refl, ◌∙◌}
use Rattle.host_frames.specs.Meaning.{OfProgress}
use Rattle.host_node.proofs.Going.{said_since}
use Rattle.host_node.proofs.Calling.{saying}
use Rattle.host_node.proofs.host.HostNode.say_progress.Goals as goal

pub returns : goal.returns
returns g c =
    saying g.B.Lockstep.state g.B.Lockstep.machine g.B.Copies.copied _ _ _ refl (record { number = refl; drives = refl; rings = c.in_ok-say.ensures.rings ∙ c.has_room.ensures.rings })
    (c.in_ok-say.ensures.came ∙ c.has_room.ensures.came)
    (said_since _ _ _ _ c.has_room.ensures.gone c.in_ok-say.ensures.gone) (λ drives me. OfProgress c.args.self.now.peer _ _)
