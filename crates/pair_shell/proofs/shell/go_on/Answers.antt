-- What was answered since goes on with the answer of the line.
use Rattle.std.proofs.Common.{string_bytes, subst}
use Rattle.std.specs.Io.KnownBytes.{Appends}
use Rattle.pair_shell.specs.Running.{desk}
use Rattle.pair_shell.proofs.Answering.{further_one, further_then}
use Rattle.pair_shell.proofs.Hearing.{wrote, writes_more}
use Rattle.pair_shell.proofs.shell.go_on.Goals as goal

pub pauses-preserved : goal.pauses-preserved
pauses-preserved g c =
    let old = g.O.Write.contents c.args.writer.now in
    let mid = g.O.Write.contents c.pauses.writer in
    let new = g.O.Write.contents c.write.new.writer in
    let first = desk c.args.session.now.opening c.args.session.now.world c.args.session.now.is_traced in
    let here = desk c.pauses.session.opening c.pauses.session.world c.pauses.session.is_traced in
    let session = c.go_on.new.self in
    let next = desk session.opening session.world session.is_traced in
    let line = c.args.line.now in
    let text = string_bytes c.in_ok-answered.answered in
    let more = c.in_ok-answered.ensures in
    let written = subst (Appends mid new) c.deref.ensures c.in_ok-write.ensures.written in
    record {
      written = writes_more old mid new c.pauses.invariant.written (wrote text mid new written);
      further = further_then (λ d. d.board.guest) first here next line old mid new c.pauses.invariant.further
          (further_one (λ d. d.board.guest) here next line session.notes.tape.items text mid new c.requires more.played more.traced
          more.opening more.switched written);
    }
