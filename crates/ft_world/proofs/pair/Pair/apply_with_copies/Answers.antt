-- Each event's method says what the event does; only one that reads the disk can leave it another.
use Rattle.std.proofs.Common.{refl}
use Rattle.ft_world.proofs.PlainEvents.{refused_so, with_the_disk}
use Rattle.ft_world.proofs.pair.Pair.apply_with_copies.Goals as goal

pub returns-in-Get : goal.returns-in-Get
returns-in-Get g c =
    let made = c.get.ensures in
    rw c.in-Get.is (record {
      row = made.row;
      counted = made.counted;
      unchanged = made.unchanged;
      spares = made.spares;
      told_stale = tt;
      pages = made.pages;
    })

pub returns-in-GetReply : goal.returns-in-GetReply
returns-in-GetReply g c =
    let made = c.get_reply.ensures in
    rw c.in-GetReply.is (with_the_disk made.row made.disk refl (refused_so c.get_reply.result _ made.unchanged) made.spares tt made.pages)

pub returns-in-Fetch : goal.returns-in-Fetch
returns-in-Fetch g c =
    let made = c.fetch.ensures in
    rw c.in-Fetch.is (record {
      row = made.row;
      counted = made.counted;
      unchanged = made.unchanged;
      spares = made.spares;
      told_stale = tt;
      pages = made.pages;
    })

pub returns-in-Fetched : goal.returns-in-Fetched
returns-in-Fetched g c =
    let made = c.fetched.ensures in
    rw c.in-Fetched.is (with_the_disk made.row made.disk refl (refused_so c.fetched.result _ made.unchanged) made.spares tt made.pages)

pub returns-in-BeginPair : goal.returns-in-BeginPair
returns-in-BeginPair g c =
    let made = c.begin_pair.ensures in
    rw c.in-BeginPair.is (with_the_disk made.row made.disk refl (refused_so c.begin_pair.result _ made.unchanged) made.spares tt made.pages)

pub returns-in-SendPart : goal.returns-in-SendPart
returns-in-SendPart g c =
    let made = c.send_part.ensures in
    rw c.in-SendPart.is (with_the_disk made.row made.disk refl (refused_so c.send_part.result _ made.unchanged) made.spares tt made.pages)

pub returns-in-PartComes : goal.returns-in-PartComes
returns-in-PartComes g c =
    let made = c.part_comes.ensures in
    rw c.in-PartComes.is (with_the_disk made.row made.disk refl (refused_so c.part_comes.result _ made.unchanged) made.spares tt made.pages)

pub returns-in-Freshen : goal.returns-in-Freshen
returns-in-Freshen g c =
    let made = c.freshen.ensures in
    rw c.in-Freshen.is (with_the_disk made.row made.disk refl (refused_so c.freshen.result _ made.unchanged) made.spares made.stale made.pages)
