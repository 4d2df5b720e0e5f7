-- What the log that is kept answers is what the protocol says of the whole log.
use Rattle.std.proofs.Common.{sym, ap, subst, ◌∙◌}
use Rattle.log_buffer.specs.Log.{IsWithinLimits, kept}
use Rattle.log_buffer.specs.Logs.{room_answer}
use Rattle.ft_node.specs.Due.{refused_by}
use Rattle.ft_node.specs.Roles.{HasImage, IsPrimary}
use Rattle.ft_node.proofs.PrimaryInputs.{keeps_log}
use Rattle.ft_node.proofs.PrimaryRefusals.{log_answers}
use Rattle.ft_node.proofs.node.Node.room.Goals as goal

pub returns-in-Primary-clause-log : goal.returns-in-Primary-clause-log
returns-in-Primary-clause-log g c = λ C drives x is serves.
    let M = g.B.Lockstep.machine in
    let primary = c.in-Primary.primary in
    let s = g.B.Lockstep.state primary.recorder.board in
    let l = primary.recorder.log in
    let K = HasImage C primary.sender.generation primary.image in
    let p : IsPrimary M K primary.recorder.reads s l primary.sender primary.coverage x = rw c.in-Primary.is at is in
    log_answers x l
    (keeps_log M s l primary.sender primary.coverage x p (subst IsWithinLimits c.log.ensures c.stands.ensures))
    ∙ sym (ap refused_by (c.room.ensures ∙ ap (room_answer kept) c.log-in-Primary.ensures))
