-- The frame is passed on.
use Rattle.std.proofs.Common.{Some, refl, arith}
use Rattle.outside_switch.specs.Meets.{seen}
use Rattle.host_frames.specs.Frames.{said_by}
use Rattle.outside_switch.proofs.Lines.{posts_from}
use Rattle.outside_switch.proofs.Acting.{met_in, passed_met}
use Rattle.outside_switch.proofs.switch.Switch.pass.Goals as goal

pub returns-clause-meets : goal.returns-clause-meets
returns-clause-meets g c = λ place heard passed.
    met_in (Some (record { place = place; said = heard })) (seen c.args.self.now) c.args.self.now.devices c.args.self.now.lines.len c.post.new.lines c.args.self.now.lines.items (omega arith)
    (passed_met place c.args.host heard _ c.post.result (seen c.args.self.now) (record { devices = c.args.self.now.devices; lines = c.post.new.lines }) passed refl
    (posts_from c.args.host (said_by c.args.frame.now) c.post.result c.deref_mut.result.now
    c.args.self.now.lines.items c.post.new.lines c.deref_mut.ensures.value c.post.ensures))
