-- The packet is refused, or it brings no entry that is next, or its entry is held and its input is appended.
use Rattle.std.proofs.Common.{Ok, subst}
use Rattle.std.proofs.lemmas.Result.{err_from_is_err_and}
use Rattle.std.specs.Prelude.{IfSome}
use Rattle.log_channel.specs.Packet.{packet_at}
use Rattle.pair_protocol.specs.Effects.{NeedsEntry}
use Rattle.ft_node.specs.Calls.{Expects}
use Rattle.ft_node.specs.AnyNode.{MayHold}
use Rattle.ft_node.proofs.Deliveries.{held, passed_by, refused}
use Rattle.ft_node.proofs.PassedChecks.{none_there}
use Rattle.ft_world.specs.Shows.{IsStation}
use Rattle.ft_world.specs.declared.station.Station.{Station}
use Rattle.ft_world.proofs.Holding.{holds_on}
use Rattle.ft_world.proofs.station.Station.deliver_log.Goals as goal

pub returns-in_err-entry-clause-answer : goal.returns-in_err-entry-clause-answer
returns-in_err-entry-clause-answer g c = λ C drives x is.
    let e = err_from_is_err_and c.from_residual.result c.from_residual.ensures.1 in
    rw (e.1, e.2)
    (refused NeedsEntry x (IsStation g.B.Lockstep.state g.B.Lockstep.machine C drives c.args.self.now)
    (packet_at c.args.bytes.now) c.in_err-entry.field-0.0 (c.in_err-entry.ensures.answer C drives x is.node) is)

pub returns-in_default-clause-answer : goal.returns-in_default-clause-answer
returns-in_default-clause-answer g c = λ C drives x is.
    let p = packet_at c.args.bytes.now in
    passed_by NeedsEntry x (IsStation g.B.Lockstep.state g.B.Lockstep.machine C drives c.args.self.now) p
    (subst (λ next. Expects p x (Ok next)) (none_there c.in_ok-entry.field-0 c.in_default.not-Some)
    (c.in_ok-entry.ensures.answer C drives x is.node)) is

pub returns-in-Ok-clause-answer : goal.returns-in-Ok-clause-answer
returns-in-Ok-clause-answer g c = λ C drives x is.
    let state = g.B.Lockstep.state in
    let M = g.B.Lockstep.machine in
    let p = packet_at c.args.bytes.now in
    let e = c.in-Some.entry in
    let old = c.args.self.now in
    let new : Station g.row.B.Denot g.row.H.Denot =
    record { node = c.hold-2.new.self; inputs = c.hold.new.self; count = c.count-self.result } in
    held NeedsEntry x (IsStation state M C drives new) p e
    (subst (λ next. Expects p x (Ok next)) c.in-Some.is (c.in_ok-entry.ensures.answer C drives x is.node))
    (holds_on state M C drives old new e x (subst (λ next. IfSome next (MayHold old.node)) c.in-Some.is c.in_ok-entry.ensures.may)
    is (c.in-Ok.ensures.answer C drives x is.node) c.in_ok-hold.ensures.ok c.count-self.ensures)
