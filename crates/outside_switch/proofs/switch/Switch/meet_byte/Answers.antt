-- The byte arrived, and the count was sent.
use Rattle.std.proofs.Common.{None, Some, ◌∙◌, arith, sym}
use Rattle.outside_switch.specs.Meets.{seen}
use Rattle.host_frames.specs.Frames.{Transfers}
use Rattle.host_frames.specs.declared.frame.Transfer.TheVariants.{Accepted}
use Rattle.outside_switch.proofs.Lines.{posts_from}
use Rattle.outside_switch.proofs.Acting.{byte_met, met_in}
use Rattle.outside_switch.proofs.switch.Switch.meet_byte.Goals as goal

pub returns-in-Some-clause-meets : goal.returns-in-Some-clause-meets
returns-in-Some-clause-meets g c =
    met_in _ (seen c.args.self.now) c.arrive-shown.new.self c.args.self.now.lines.len c.post.new.lines c.args.self.now.lines.items (omega arith)
    (byte_met c.args.place c.args.port c.args.number c.args.byte c.accepted-count.result c.args.room c.post.result (Some c.in-Some.byte)
    (seen c.args.self.now) (record { devices = c.arrive-shown.new.self; lines = c.post.new.lines }) (sym c.in-Some.is ∙ c.arrive-shown.ensures.shown) c.arrive-shown.ensures.after
    c.accepted-count.ensures (posts_from c.args.place (Transfers (Accepted c.args.port c.accepted-count.result)) c.post.result c.deref_mut.result.now
    c.args.self.now.lines.items c.post.new.lines c.deref_mut.ensures.value c.post.ensures))

pub returns-in-None-clause-meets : goal.returns-in-None-clause-meets
returns-in-None-clause-meets g c =
    met_in _ (seen c.args.self.now) c.arrive-shown.new.self c.args.self.now.lines.len c.post.new.lines c.args.self.now.lines.items (omega arith)
    (byte_met c.args.place c.args.port c.args.number c.args.byte c.accepted-count.result c.args.room c.post.result None
    (seen c.args.self.now) (record { devices = c.arrive-shown.new.self; lines = c.post.new.lines }) (sym c.in-None.is ∙ c.arrive-shown.ensures.shown) c.arrive-shown.ensures.after
    c.accepted-count.ensures (posts_from c.args.place (Transfers (Accepted c.args.port c.accepted-count.result)) c.post.result c.deref_mut.result.now
    c.args.self.now.lines.items c.post.new.lines c.deref_mut.ensures.value c.post.ensures))
