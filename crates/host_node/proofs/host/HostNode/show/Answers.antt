-- What the machine has went.
use Rattle.std.proofs.Common.{refl, ◌∙◌}
use Rattle.host_frames.specs.Meaning.{OfInspected}
use Rattle.host_node.proofs.Going.{said_since}
use Rattle.host_node.proofs.Calling.{saying}
use Rattle.host_node.proofs.host.HostNode.show.Goals as goal

pub returns-clause-goes : goal.returns-clause-goes
returns-clause-goes g c =
    saying g.B.Lockstep.state g.B.Lockstep.machine g.B.Copies.copied _ _ _ refl (record { number = refl; drives = refl; rings = c.in_ok-say.ensures.rings ∙ c.has_room.ensures.rings }) (c.in_ok-say.ensures.came ∙ c.has_room.ensures.came)
    (said_since _ _ _ _ c.has_room.ensures.gone c.in_ok-say.ensures.gone) (λ drives me. OfInspected _ _ _)

pub returns-clause-shows : goal.returns-clause-shows
returns-clause-shows g c = (
  c.count-count.result,
  c.count-count.ensures,
  (
    c.in-Some.bytes,
    c.in-Some.ensures,
    said_since _ _ _ _ c.has_room.ensures.gone c.in_ok-say.ensures.gone,
  ),
)
