-- The terminals were told, and the report is kept.
use Rattle.std.proofs.Common.{◌∙◌, [], ap, subst, arith}
use Rattle.std.proofs.lemmas.Option.{slice_get-get_or}
use Rattle.std.specs.Global.{Vec}
use Rattle.outside_switch.specs.declared.line.HostLine.{HostLine}
use Rattle.outside_switch.specs.Lines.{LinesGo}
use Rattle.outside_switch.specs.Meets.{seen}
use Rattle.outside_switch.proofs.Acting.{met_in, report_met}
use Rattle.outside_switch.proofs.switch.Switch.meet_report.Goals as goal

pub returns-then-not-keep-clause-meets : goal.returns-then-not-keep-clause-meets
returns-then-not-keep-clause-meets g c =
    met_in _ (seen c.args.self.now) c.tell-2.new.self.devices c.tell-2.new.self.lines.len c.keep.new.lines c.tell-2.new.self.lines.items (omega arith)
    (report_met c.args.place _ _ c.args.report.now (seen c.args.self.now)
    (record { devices = c.tell-2.new.self.devices; lines = c.keep.new.lines }) c.tell.new.self.devices
    (slice_get-get_or c.args.report.now.covered 0 0 (omega arith)) (slice_get-get_or c.args.report.now.covered 1 0 (omega arith))
    c.tell.ensures.called c.tell-2.ensures.called
    (subst (λ l. LinesGo [] l c.keep.new.lines)
    (c.deref_mut.ensures.value ∙ ap (λ (v : Vec HostLine). v.items) (c.tell-2.ensures.lines ∙ c.tell.ensures.lines))
    c.keep.ensures.goes))

pub returns-clause-meets : goal.returns-clause-meets
returns-clause-meets g c =
    met_in _ (seen c.args.self.now) c.tell-2.new.self.devices c.tell-2.new.self.lines.len c.keep.new.lines c.tell-2.new.self.lines.items (omega arith)
    (report_met c.args.place _ _ c.args.report.now (seen c.args.self.now)
    (record { devices = c.tell-2.new.self.devices; lines = c.keep.new.lines }) c.tell.new.self.devices
    (slice_get-get_or c.args.report.now.covered 0 0 (omega arith)) (slice_get-get_or c.args.report.now.covered 1 0 (omega arith))
    c.tell.ensures.called c.tell-2.ensures.called
    (subst (λ l. LinesGo [] l c.keep.new.lines)
    (c.deref_mut.ensures.value ∙ ap (λ (v : Vec HostLine). v.items) (c.tell-2.ensures.lines ∙ c.tell.ensures.lines))
    c.keep.ensures.goes))
