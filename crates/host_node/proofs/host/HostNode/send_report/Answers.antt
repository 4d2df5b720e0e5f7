-- The report went.
use Rattle.std.proofs.Common.{refl, ◌∙◌}
use Rattle.host_node.proofs.Going.{said_since}
use Rattle.host_node.proofs.Reported.{reports}
use Rattle.host_node.proofs.host.HostNode.send_report.Goals as goal

pub returns-clause-goes : goal.returns-clause-goes
returns-clause-goes g c =
    reports g.B.Lockstep.state g.B.Lockstep.machine g.B.Copies.copied _ _ _ c.report-report.result refl
    (record { number = refl; drives = refl; rings = c.in_ok-say.ensures.rings ∙ c.has_room.ensures.rings }) (c.in_ok-say.ensures.came ∙ c.has_room.ensures.came)
    (said_since _ _ _ _ c.has_room.ensures.gone c.in_ok-say.ensures.gone) c.report-report.ensures

pub returns-clause-says : goal.returns-clause-says
returns-clause-says g c = (
  c.report-report.result,
  c.report-report.ensures,
  said_since _ _ _ _ c.has_room.ensures.gone c.in_ok-say.ensures.gone,
)
