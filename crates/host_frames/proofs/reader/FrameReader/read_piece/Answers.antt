-- What a read took is pending too. A read of no bytes took none, nor did one that failed.
use Rattle.std.proofs.Common.{◌≡◌, None, Some, length-take, take, refl, arith}
use Rattle.host_frames.specs.declared.reader.FrameReader.{FrameReader}
use Rattle.host_frames.specs.declared.reader.StreamEnd.{StreamEnd}
use Rattle.host_frames.proofs.StreamReading.{ended, fed, keeps_consumed, of_none, of_piece}
use Rattle.host_frames.proofs.reader.FrameReader.read_piece.Goals as goal

pub returns-in-Ok-eq0 : goal.returns-in-Ok-eq0
returns-in-Ok-eq0 g c =
    let none : c.in-Ok-eq0.field-0 ≡ 0 = first_of (omega arith, cc, grind arith) in
    let over = ended (g.S.Read.remaining c.args.self.now.source) (g.S.Read.remaining c.read.new.source) c.read.result
    c.in-Ok-eq0.field-0 c.read.new.piece c.in-Ok-eq0.is none c.read.ensures.bytes (omega arith) in
    let b : FrameReader g.row.S.Denot = record c.args.self.now { source = c.read.new.source } in
    of_none g.S.Read.remaining (Some StreamEnd.Closed) c.args.self.now b over.0 refl refl refl (over.1, c.requires)
    ((refl, refl, refl, refl), refl)

pub returns-in-Ok : goal.returns-in-Ok
returns-in-Ok g c =
    let piece = take c.in-Ok.count c.read.new.piece in
    let b : FrameReader g.row.S.Denot = record c.args.self.now { source = c.read.new.source; pending = c.feed.new.self } in
    of_piece g.S.Read.remaining c.args.self.now b piece c.in-Ok.ensures.bytes.0
    (fed c.args.self.now.pending c.feed.new.self piece c.feed.result c.feed.ensures.after c.feed.ensures.count
    (c.streams_stand_apart.ensures.short c.args.self.now.pending c.requires)
    (omega (arith, length-take c.in-Ok.count c.read.new.piece))) refl refl

pub returns-in-Err : goal.returns-in-Err
returns-in-Err g c =
    let b : FrameReader g.row.S.Denot = record c.args.self.now { source = c.read.new.source } in
    of_none g.S.Read.remaining None c.args.self.now b
    (keeps_consumed (g.S.Read.remaining c.args.self.now.source) (g.S.Read.remaining c.read.new.source) c.in-Err.ensures.bytes)
    refl refl refl tt ((refl, refl, refl, refl), refl)

pub returns-in-Err-2 : goal.returns-in-Err-2
returns-in-Err-2 g c =
    let b : FrameReader g.row.S.Denot = record c.args.self.now { source = c.read.new.source } in
    of_none g.S.Read.remaining (Some (StreamEnd.Failed c.in-Err.failed)) c.args.self.now b
    (keeps_consumed (g.S.Read.remaining c.args.self.now.source) (g.S.Read.remaining c.read.new.source) c.in-Err-2.ensures.bytes)
    refl refl refl tt ((refl, refl, refl, refl), refl)
