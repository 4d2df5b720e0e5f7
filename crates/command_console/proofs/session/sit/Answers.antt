-- The threads begin, the loop goes to its end, and the threads leave.
use Rattle.std.proofs.Common.{◌∙◌, ap, subst, sym}
use Rattle.std.proofs.lemmas.Result.{IfOk-weaker}
use Rattle.command_console.specs.declared.mirror.Mirrored.{Mirrored}
use Rattle.command_console.proofs.Sitting.{both_keyboards, has_sat}
use Rattle.command_console.specs.Sitting.{HasSat}
use Rattle.disk_file.specs.Drives.{all_records}
use Rattle.command_console.proofs.session.sit.Goals as goal

pub returns : goal.returns
returns g c = IfOk-weaker c.leave.result _ _ (λ left l.
    subst (λ e. HasSat g.R.Read.remaining g.W.Write.contents g.N.Write.contents c.args.desktop.escape c.args.desktop.lines.items
    c.args.session c.args.streams (all_records left.disk.store) e left.writer left.notes) (sym l.end_is)
    (has_sat g.R.Read.remaining _ g.W.Write.contents g.N.Write.contents c.args.ends c.args.desktop c.args.streams
    c.run_hosts-end.result c.args.session c.run_hosts-end.new.session c.run_hosts-end.ensures c.requires c.in_ok-beside.beside
    c.in_ok-beside.ensures c.into_parts.result.screen c.into_parts.ensures.others.0 c.into_parts.result.keyboards
    (both_keyboards c.into_parts.result.keyboards _ _ c.into_parts.ensures.keyboards.0 c.into_parts.ensures.keyboards.1)
    (all_records left.disk.store) (ap (λ (d : Mirrored). all_records d.store) l.disk_is ∙ c.into_parts.ensures.disk)
    l.heard l.display l.wrote l.all left.writer l.writer_is left.notes l.notes_are)) c.leave.ensures
