-- The line has the answer that the session promises, and that was written.
use Rattle.std.proofs.Common.{string_bytes, subst}
use Rattle.std.specs.Io.KnownBytes.{Appends}
use Rattle.pair_shell.specs.Running.{desk}
use Rattle.pair_shell.proofs.Answering.{each_one}
use Rattle.pair_shell.proofs.shell.begin.Goals as goal

pub returns-clause-heard : goal.returns-clause-heard
returns-clause-heard g c =
    let old = c.args.session.now in
    let new = c.answer.new.self in
    let before = g.O.Write.contents c.args.writer.now in
    let after = g.O.Write.contents c.write.new.writer in
    let told = c.in_ok-outcome.ensures in
    each_one (λ d. d.board.guest) (desk old.opening old.world old.is_traced) (desk new.opening new.world new.is_traced) old.notes
    new.notes c.args.line.now c.without_cr.result.now new.notes.tape.items c.in_ok-outcome.outcome
    (string_bytes c.in_ok-outcome.answered) before after c.without_cr.ensures
    (record {
      played = told.played;
      traced = told.traced;
      heeded = told.heeded;
      seen = told.seen;
      wrong = told.wrong;
      why = told.why;
      set = told.set;
      switched = told.switched;
      left = told.refused;
      ended = told.ended;
    }) (subst (Appends before after) c.deref.ensures c.in_ok-write.ensures.written)
