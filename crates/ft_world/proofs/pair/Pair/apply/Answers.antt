-- Each event's method says what the event does; most leave the disk and the copied pages as they were.
use Rattle.std.proofs.Common.{refl}
use Rattle.ft_world.proofs.PlainEvents.{refused_so, with_the_disk}
use Rattle.ft_world.proofs.pair.Pair.apply.Goals as goal

pub returns-in-Step : goal.returns-in-Step
returns-in-Step g c =
    let made = c.step.ensures in
    rw c.in-Step.is (with_the_disk made.row made.disk refl (refused_so c.step.result _ made.unchanged) made.spares tt made.pages)

pub returns-in-Send : goal.returns-in-Send
returns-in-Send g c =
    let made = c.send.ensures in
    rw c.in-Send.is (with_the_disk made.row made.disk refl (refused_so c.send.result _ made.unchanged) made.spares tt made.pages)

pub returns-in-DeliverLog : goal.returns-in-DeliverLog
returns-in-DeliverLog g c =
    let made = c.deliver_log.ensures in
    rw c.in-DeliverLog.is (with_the_disk made.row made.disk refl (refused_so c.deliver_log.result _ made.unchanged) made.spares tt made.pages)

pub returns-in-Acknowledge : goal.returns-in-Acknowledge
returns-in-Acknowledge g c =
    let made = c.acknowledge.ensures in
    rw c.in-Acknowledge.is (with_the_disk made.row made.disk refl (refused_so c.acknowledge.result _ made.unchanged) made.spares tt made.pages)

pub returns-in-DeliverAcknowledgement : goal.returns-in-DeliverAcknowledgement
returns-in-DeliverAcknowledgement g c =
    let made = c.deliver_acknowledgement.ensures in
    rw c.in-DeliverAcknowledgement.is (with_the_disk made.row made.disk refl (refused_so c.deliver_acknowledgement.result _ made.unchanged) made.spares tt made.pages)

pub returns-in-Replay : goal.returns-in-Replay
returns-in-Replay g c =
    let made = c.replay.ensures in
    rw c.in-Replay.is (with_the_disk made.row made.disk refl (refused_so c.replay.result _ made.unchanged) made.spares tt made.pages)

pub returns-in-Suspect : goal.returns-in-Suspect
returns-in-Suspect g c =
    let made = c.suspect.ensures in
    rw c.in-Suspect.is (with_the_disk made.row made.disk refl made.unchanged made.spares tt made.pages)

pub returns-in-Drain : goal.returns-in-Drain
returns-in-Drain g c =
    let made = c.drain.ensures in
    rw c.in-Drain.is (with_the_disk made.row made.disk refl (refused_so c.drain.result _ made.unchanged) made.spares tt made.pages)

pub returns-in-TakeKey : goal.returns-in-TakeKey
returns-in-TakeKey g c =
    let made = c.take_key.ensures in
    rw c.in-TakeKey.is (with_the_disk made.row made.disk refl (refused_so c.take_key.result _ made.unchanged) made.spares tt made.pages)

pub returns-in_default : goal.returns-in_default
returns-in_default g c = c.apply_at_device.ensures
