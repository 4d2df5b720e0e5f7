-- Each event's method says what the event does; only a write that is put can leave the disk another.
use Rattle.std.proofs.Common.{refl}
use Rattle.ft_world.proofs.PlainEvents.{refused_so, with_the_disk}
use Rattle.ft_world.proofs.pair.Pair.apply_at_device.Goals as goal

pub returns-in-Stop : goal.returns-in-Stop
returns-in-Stop g c =
    let made = c.stop.ensures in
    rw c.in-Stop.is (with_the_disk made.row made.disk refl (refused_so c.stop.result _ made.unchanged) made.spares tt made.pages)

pub returns-in-TypeByte : goal.returns-in-TypeByte
returns-in-TypeByte g c =
    let made = c.type_byte.ensures in
    rw c.in-TypeByte.is (with_the_disk made.row made.disk refl (refused_so c.type_byte.result _ made.unchanged) made.spares tt made.pages)

pub returns-in-Release : goal.returns-in-Release
returns-in-Release g c =
    let made = c.release.ensures in
    rw c.in-Release.is (with_the_disk made.row made.disk refl (refused_so c.release.result _ made.unchanged) made.spares tt made.pages)

pub returns-in-Arrive : goal.returns-in-Arrive
returns-in-Arrive g c =
    let made = c.arrive.ensures in
    rw c.in-Arrive.is (with_the_disk made.row made.disk refl (refused_so c.arrive.result _ made.unchanged) made.spares tt made.pages)

pub returns-in-TellSent : goal.returns-in-TellSent
returns-in-TellSent g c =
    let made = c.tell_sent.ensures in
    rw c.in-TellSent.is (with_the_disk made.row made.disk refl (refused_so c.tell_sent.result _ made.unchanged) made.spares tt made.pages)

pub returns-in-Told : goal.returns-in-Told
returns-in-Told g c =
    let made = c.tell.ensures in
    rw c.in-Told.is (with_the_disk made.row made.disk refl (refused_so c.tell.result _ made.unchanged) made.spares tt made.pages)

pub returns-in-Put : goal.returns-in-Put
returns-in-Put g c =
    let made = c.put.ensures in
    rw c.in-Put.is (record {
      row = made.row;
      counted = made.counted;
      unchanged = made.unchanged;
      spares = made.spares;
      told_stale = tt;
      pages = made.pages;
    })

pub returns-in-PutReply : goal.returns-in-PutReply
returns-in-PutReply g c =
    let made = c.put_reply.ensures in
    rw c.in-PutReply.is (with_the_disk made.row made.disk refl (refused_so c.put_reply.result _ made.unchanged) made.spares tt made.pages)

pub returns-in_default : goal.returns-in_default
returns-in_default g c = c.apply_with_copies.ensures
