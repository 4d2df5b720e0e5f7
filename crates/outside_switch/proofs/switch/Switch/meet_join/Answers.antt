-- A Join is passed on to the host of its number.
use Rattle.std.proofs.Common.{◌≡◌, Some, refl, subst, arith}
use Rattle.outside_switch.specs.Lines.{number_at}
use Rattle.outside_switch.specs.Meets.{seen}
use Rattle.outside_switch.specs.Says.{OfJoin}
use Rattle.host_frames.specs.Frames.{Tells}
use Rattle.host_frames.specs.declared.frame.Notice.TheVariants.{Join}
use Rattle.outside_switch.proofs.Lines.{posts_from}
use Rattle.outside_switch.proofs.Acting.{met_in, passed_met}
use Rattle.outside_switch.proofs.switch.Switch.meet_join.Goals as goal

pub returns-clause-meets : goal.returns-clause-meets
returns-clause-meets g c =
    met_in _ (seen c.args.self.now) c.args.self.now.devices c.args.self.now.lines.len c.post.new.lines c.args.self.now.lines.items (omega arith)
    (passed_met c.args.place c.args.host _ _ c.post.result (seen c.args.self.now)
    (record { devices = c.args.self.now.devices; lines = c.post.new.lines }) (OfJoin c.args.generation c.args.drives c.args.count
    (subst (λ l. number_at l c.args.host ≡ Some c.args.generation) c.deref.ensures.value (c.is_number.ensures c.if-not-is_number.false))) refl
    (posts_from c.args.host (Tells (Join c.args.generation c.args.place c.args.drives c.args.count)) c.post.result c.deref_mut.result.now
    c.args.self.now.lines.items c.post.new.lines c.deref_mut.ensures.value c.post.ensures))
