-- The packet brings no entry that is next, or its entry is held.
use Rattle.std.proofs.Common.{Ok, subst}
use Rattle.log_channel.specs.Packet.{packet_at}
use Rattle.ft_node.specs.Calls.{Expects, NeedsRoom}
use Rattle.ft_node.specs.AnyNode.{IsNode}
use Rattle.ft_node.proofs.Deliveries.{held, passed_by}
use Rattle.ft_node.proofs.PassedChecks.{none_there}
use Rattle.ft_node.proofs.node.Node.on_log.Goals as goal

pub returns-in_default-clause-answer : goal.returns-in_default-clause-answer
returns-in_default-clause-answer g c = λ C drives x is.
    let p = packet_at c.args.bytes.now in
    passed_by NeedsRoom x (IsNode g.B.Lockstep.state g.B.Lockstep.machine C drives c.args.self.now) p
    (subst (λ next. Expects p x (Ok next)) (none_there c.in_ok-entry.field-0 c.in_default.not-Some)
    (c.in_ok-entry.ensures.answer C drives x is)) is

pub returns-clause-answer : goal.returns-clause-answer
returns-clause-answer g c = λ C drives x is.
    let p = packet_at c.args.bytes.now in
    held NeedsRoom x (IsNode g.B.Lockstep.state g.B.Lockstep.machine C drives c.hold.new.self) p c.in-Some.entry
    (subst (λ next. Expects p x (Ok next)) c.in-Some.is (c.in_ok-entry.ensures.answer C drives x is))
    (c.in_ok-hold.ensures.answer C drives x is)
