-- The coverage, the log and the sender all know the acknowledged number.
use Rattle.std.proofs.Common.{None, ap, refl, ◌∙◌}
use Rattle.log_buffer.specs.Log.{Log, next_of}
use Rattle.log_channel.specs.Channel.{ack_answer}
use Rattle.log_channel.specs.Packet.{packet_at}
use Rattle.ft_node.specs.Roles.{HasImage}
use Rattle.ft_node.proofs.PrimaryAcknowledged.{ack_heard}
use Rattle.ft_node.proofs.SamePrimary.{alike, whatever}
use Rattle.ft_node.proofs.primary.Primary.on_ack.Goals as goal

pub returns-clause-answer : goal.returns-clause-answer
returns-clause-answer g c = λ C x p.
    let l = c.args.self.now.recorder.log in
    let sender = c.args.self.now.sender in
    rw (
      c.forget.ensures,
      c.drop_to.ensures,
      c.log_mut.ensures.value,
      c.acknowledge.ensures,
      c.replayed.ensures,
      c.in_ok-covered.ensures.after,
      c.log-2.ensures,
    )
    (ack_heard (HasImage C sender.generation None) g.B.Lockstep.machine (g.B.Lockstep.state c.args.self.now.recorder.board) l sender
    c.args.self.now.coverage x (packet_at c.args.bytes.now) c.in_ok-covered.covered p refl
    (c.in_ok-covered.ensures.answer
    ∙ ap (λ (l : Log). ack_answer sender (next_of l) (packet_at c.args.bytes.now)) c.log.ensures))

pub returns-in_err-covered-clause-unchanged : goal.returns-in_err-covered-clause-unchanged
returns-in_err-covered-clause-unchanged g c =
    whatever c.from_residual.result
    (alike refl c.in_err-covered.ensures.after refl refl)
