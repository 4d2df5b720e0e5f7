-- Both threads have ended, and all that went to the screen came out.
use Rattle.std.proofs.Common.{◌∙◌, ap, refl, subst, sym}
use Rattle.std.specs.Prelude.{OnOk}
use Rattle.command_console.proofs.Finishing.{all_out}
use Rattle.console_terminal.specs.Screen.{Wrote}
use Rattle.rtrb.specs.Ring.{received}
use Rattle.command_console.proofs.session.leave.Goals as goal

pub returns : goal.returns
returns g c = record {
  end_is = refl;
  disk_is = refl;
  heard = c.in_ok-await_hearing.ensures;
  display = c.join-display.result.0;
  wrote = subst (λ r. OnOk r (Wrote g.W.Write.contents g.N.Write.contents c.args.beside.showing.promise.0.value
      c.join-display.result.0)) c.in_ok-written.was c.join-display.ensures;
  all = sym (ap received c.into_parts-writer.ensures.2)
      ∙ all_out c.args.parts.screen c.in-Some.finished c.into_parts-writer.result.2 c.in-Some.ensures
      (c.is_all.ensures c.if-not-is_all.false);
  writer_is = c.into_parts-writer.ensures.0;
  notes_are = c.into_parts-writer.ensures.1;
}
