-- The write is on the disk, or was refused.
use Rattle.std.proofs.Common.{arith}
use Rattle.outside_switch.specs.Meets.{seen}
use Rattle.host_frames.specs.Frames.{Transfers}
use Rattle.host_frames.specs.declared.frame.Transfer.TheVariants.{Failed, Written}
use Rattle.outside_switch.proofs.Lines.{posts_from}
use Rattle.outside_switch.proofs.Acting.{met_in, unwritten_met, written_met}
use Rattle.outside_switch.proofs.switch.Switch.meet_write.Goals as goal

pub returns-in-Ok-clause-meets : goal.returns-in-Ok-clause-meets
returns-in-Ok-clause-meets g c =
    met_in _ (seen c.args.self.now) c.put.new.self c.args.self.now.lines.len c.post.new.lines c.args.self.now.lines.items (omega arith)
    (written_met c.args.place c.args.write.now c.post.result (seen c.args.self.now) (record { devices = c.put.new.self; lines = c.post.new.lines })
    c.in-Ok.ensures.put c.in-Ok.ensures.others (posts_from c.args.place (Transfers (Written c.args.write.now.number)) c.post.result c.deref_mut.result.now
    c.args.self.now.lines.items c.post.new.lines c.deref_mut.ensures.value c.post.ensures))

pub returns-in-Err-clause-meets : goal.returns-in-Err-clause-meets
returns-in-Err-clause-meets g c =
    met_in _ (seen c.args.self.now) c.put.new.self c.args.self.now.lines.len c.post-in-Err.new.lines c.args.self.now.lines.items (omega arith)
    (unwritten_met c.args.place c.args.write.now _ c.post-in-Err.result (seen c.args.self.now) (record { devices = c.put.new.self; lines = c.post-in-Err.new.lines })
    c.in-Err.ensures.put c.in-Err.ensures.others (posts_from c.args.place (Transfers (Failed c.args.write.now.number)) c.post-in-Err.result c.deref_mut-in-Err.result.now
    c.args.self.now.lines.items c.post-in-Err.new.lines c.deref_mut-in-Err.ensures.value c.post-in-Err.ensures))
