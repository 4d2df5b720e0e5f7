-- The host was counted, and the frame went.
use Rattle.std.proofs.Common.{◌∙◌, arith, refl, subst, sym}
use Rattle.std.specs.Prelude.{IsTrue}
use Rattle.host_frames.specs.Frames.{Tells}
use Rattle.host_frames.specs.declared.frame.Notice.TheVariants.{Begin}
use Rattle.outside_switch.specs.Goes.{BeginsSo}
use Rattle.outside_switch.specs.Meets.{seen}
use Rattle.outside_switch.proofs.Acting.{admitted_met, begins_so}
use Rattle.outside_switch.proofs.Going.{put_back}
use Rattle.outside_switch.proofs.Lines.{posts_from}
use Rattle.outside_switch.proofs.switch.Switch.begin.Goals as goal

pub returns-then-not-may_begin : goal.returns-then-not-may_begin
returns-then-not-may_begin g c =
    admitted_met c.args.generation (seen c.args.self.now) (record { devices = c.admit.new.self; lines = c.args.self.now.lines.items }) c.admit.ensures.after refl

pub returns : goal.returns
returns g c =
    subst (λ l. BeginsSo c.args.spare c.args.generation c.post.result (seen c.args.self.now)
    (record { devices = c.admit.new.self; lines = l }))
    (sym (put_back c.args.self.now.lines.len c.post.new.lines c.args.self.now.lines.items (omega arith)))
    (begins_so c.args.place c.args.spare c.args.generation c.post.result (seen c.args.self.now)
    (record { devices = c.admit.new.self; lines = c.post.new.lines }) c.admit.ensures.after
    (subst (λ b. IsTrue b) (sym c.if-not-may_begin.false ∙ c.may_begin.ensures) refl)
    (posts_from c.args.place (Tells (Begin c.args.generation c.args.spare)) c.post.result c.deref_mut.result.now
    c.args.self.now.lines.items c.post.new.lines c.deref_mut.ensures.value c.post.ensures))
