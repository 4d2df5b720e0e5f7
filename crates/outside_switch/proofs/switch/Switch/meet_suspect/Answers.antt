-- The host has won, or lost, or the question is forgotten.
use Rattle.std.proofs.Common.{◌≡◌, ◌∙◌, Some, ap, refl, sym, arith}
use Rattle.outside_switch.specs.Lines.{number_at}
use Rattle.outside_switch.specs.Meets.{seen}
use Rattle.host_frames.specs.Frames.{Tells}
use Rattle.host_frames.specs.declared.frame.Notice.TheVariants.{Lost, Won}
use Rattle.outside_switch.proofs.Lines.{posts_from}
use Rattle.outside_switch.proofs.Acting.{forgot_met, lost_met, met_in, won_met}
use Rattle.outside_switch.proofs.switch.Switch.meet_suspect.Goals as goal

pub returns-in-Ok-clause-meets : goal.returns-in-Ok-clause-meets
returns-in-Ok-clause-meets g c =
    let at : number_at c.args.self.now.lines.items c.args.place ≡ Some c.in-Some.host =
    ap (λ l. number_at l c.args.place) (sym c.deref.ensures.value) ∙ sym c.number_at.ensures ∙ c.in-Some.is in
    met_in _ (seen c.args.self.now) c.test_and_set.new.self c.args.self.now.lines.len c.post.new.lines c.args.self.now.lines.items (omega arith)
    (won_met c.args.place c.args.generation c.in-Some.host c.in-Ok.field-0 c.post.result (seen c.args.self.now)
    (record { devices = c.test_and_set.new.self; lines = c.post.new.lines }) at c.in-Ok.ensures.asked c.in-Ok.ensures.others (posts_from c.args.place (Tells (Won c.args.generation)) c.post.result c.deref_mut.result.now
    c.args.self.now.lines.items c.post.new.lines c.deref_mut.ensures.value c.post.ensures))

pub returns-in-Err-Lost-clause-meets : goal.returns-in-Err-Lost-clause-meets
returns-in-Err-Lost-clause-meets g c =
    let at : number_at c.args.self.now.lines.items c.args.place ≡ Some c.in-Some.host =
    ap (λ l. number_at l c.args.place) (sym c.deref.ensures.value) ∙ sym c.number_at.ensures ∙ c.in-Some.is in
    met_in _ (seen c.args.self.now) c.test_and_set.new.self c.args.self.now.lines.len c.post-in-Err-Lost.new.lines c.args.self.now.lines.items (omega arith)
    (lost_met c.args.place c.args.generation c.in-Some.host c.in-Err-Lost.field-0 c.post-in-Err-Lost.result (seen c.args.self.now)
    (record { devices = c.test_and_set.new.self; lines = c.post-in-Err-Lost.new.lines }) at c.in-Err-Lost.field-0-is
    c.in-Err-Lost.ensures.asked c.in-Err-Lost.ensures.others (posts_from c.args.place (Tells (Lost c.args.generation)) c.post-in-Err-Lost.result c.deref_mut-in-Err-Lost.result.now
    c.args.self.now.lines.items c.post-in-Err-Lost.new.lines c.deref_mut-in-Err-Lost.ensures.value c.post-in-Err-Lost.ensures))

pub returns-in-Err-clause-meets : goal.returns-in-Err-clause-meets
returns-in-Err-clause-meets g c =
    let at : number_at c.args.self.now.lines.items c.args.place ≡ Some c.in-Some.host =
    ap (λ l. number_at l c.args.place) (sym c.deref.ensures.value) ∙ sym c.number_at.ensures ∙ c.in-Some.is in
    forgot_met c.args.place c.args.generation c.in-Some.host c.in-Err.field-0 (seen c.args.self.now)
    (record { devices = c.test_and_set.new.self; lines = c.args.self.now.lines.items }) at c.in-Err.ensures.asked
    c.in-Err.ensures.others refl
