-- The sector was read, or was not.
use Rattle.std.proofs.Common.{refl, arith}
use Rattle.outside_switch.specs.Meets.{seen}
use Rattle.host_frames.specs.Frames.{Transfers}
use Rattle.host_frames.specs.declared.frame.Transfer.TheVariants.{Sector}
use Rattle.outside_switch.proofs.Lines.{posts_from}
use Rattle.outside_switch.proofs.Acting.{met_in, sector_met, unread_met}
use Rattle.outside_switch.proofs.switch.Switch.meet_get.Goals as goal

pub returns-in_default-clause-meets : goal.returns-in_default-clause-meets
returns-in_default-clause-meets g c =
    unread_met c.args.place c.args.address c.in_default.field-0 (seen c.args.self.now)
    (record { devices = c.read.new.self; lines = c.args.self.now.lines.items }) c.in_default.ensures.read
    c.in_default.ensures.others refl

pub returns-clause-meets : goal.returns-clause-meets
returns-clause-meets g c =
    met_in _ (seen c.args.self.now) c.read.new.self c.args.self.now.lines.len c.post.new.lines c.args.self.now.lines.items (omega arith)
    (sector_met c.args.place c.args.address c.in-Ok.read c.post.result (seen c.args.self.now) (record { devices = c.read.new.self; lines = c.post.new.lines })
    c.in-Ok.ensures.read c.in-Ok.ensures.others (posts_from c.args.place (Transfers (Sector c.in-Ok.read)) c.post.result c.deref_mut.result.now
    c.args.self.now.lines.items c.post.new.lines c.deref_mut.ensures.value c.post.ensures))
