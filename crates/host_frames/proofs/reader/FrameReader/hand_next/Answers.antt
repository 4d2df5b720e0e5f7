-- The ring was only looked at, and then the next frame was handed on, or refused, or is not whole.
use Rattle.std.proofs.Common.{◌∙◌, None, Some, Ok, sym, subst}
use Rattle.host_frames.specs.Stream.{Gives, IsPartial, Refuses}
use Rattle.host_frames.specs.StreamReading.{end_of}
use Rattle.host_frames.specs.Slots.{blocks_in}
use Rattle.host_frames.specs.declared.reader.FrameReader.{FrameReader}
use Rattle.host_frames.specs.declared.reader.StreamEnd.{StreamEnd}
use Rattle.host_frames.proofs.StreamReading.{consumed_none, none_yet, of_none, handed_next, refused_so}
use Rattle.host_frames.proofs.reader.FrameReader.hand_next.Goals as goal

pub returns-in-Err : goal.returns-in-Err
returns-in-Err g c =
    let looked = c.wait_for_room.ensures in
    of_none g.S.Read.remaining (Some (StreamEnd.Deserted c.in-Err.deserted)) c.args.self.now c.wait_for_room.new.self
    (consumed_none g.S.Read.remaining c.args.self.now c.wait_for_room.new.self looked.source)
    looked.pending looked.carried looked.looked.1 tt looked.looked.0

pub returns-in-Ok-Some : goal.returns-in-Ok-Some
returns-in-Ok-Some g c =
    let looked = c.wait_for_room.ensures in
    let gives : Gives c.wait_for_room.new.self.pending (Ok (Some c.in-Ok-Some.body)) c.next.new.self =
    subst (λ o. Gives c.wait_for_room.new.self.pending (Ok o) c.next.new.self) c.in-Ok-Some.field-0-is
    c.in-Ok-Some.ensures in
    let m : FrameReader g.row.S.Denot = record {
      source = c.wait_for_room.new.self.source;
      pending = c.next.new.self;
      carried = c.wait_for_room.new.self.carried;
      bodies = c.wait_for_room.new.self.bodies;
    } in
    handed_next g.S.Read.remaining c.args.self.now m c.hand_body.new.self c.in-Ok-Some.body.items c.hand_body.result
    looked.source looked.carried looked.looked.1 looked.looked.0 gives.0 (sym looked.pending ∙ gives.1) c.hand_body.ensures

pub returns-in-Ok-None : goal.returns-in-Ok-None
returns-in-Ok-None g c =
    let looked = c.wait_for_room.ensures in
    let gives : Gives c.wait_for_room.new.self.pending (Ok None) c.next.new.self =
    subst (λ o. Gives c.wait_for_room.new.self.pending (Ok o) c.next.new.self) c.in-Ok-None.field-0-is
    c.in-Ok-None.ensures in (
      none_yet g.S.Read.remaining c.args.self.now (record {
        source = c.wait_for_room.new.self.source;
        pending = c.next.new.self;
        carried = c.wait_for_room.new.self.carried;
        bodies = c.wait_for_room.new.self.bodies;
      }) looked.source (gives.0 ∙ looked.pending) looked.carried looked.looked.1 looked.looked.0,
      subst (λ p. IsPartial p) (sym gives.0) gives.1,
    )

pub returns-in-Err-next : goal.returns-in-Err-next
returns-in-Err-next g c =
    let looked = c.wait_for_room.ensures in
    let gives = c.in-Err-next.ensures in
    rw c.end_of.ensures
    (of_none g.S.Read.remaining (Some (end_of c.in-Err-next.fault)) c.args.self.now (record {
      source = c.wait_for_room.new.self.source;
      pending = c.next.new.self;
      carried = c.wait_for_room.new.self.carried;
      bodies = c.wait_for_room.new.self.bodies;
    }) (consumed_none g.S.Read.remaining c.args.self.now c.wait_for_room.new.self looked.source)
    (gives.0 ∙ looked.pending) looked.carried looked.looked.1
    (refused_so c.in-Err-next.fault (g.S.Read.remaining c.wait_for_room.new.self.source)
    (blocks_in c.wait_for_room.new.self.carried)
    c.next.new.self (subst (λ p. Refuses c.in-Err-next.fault p) (sym gives.0) gives.1)) looked.looked.0)
