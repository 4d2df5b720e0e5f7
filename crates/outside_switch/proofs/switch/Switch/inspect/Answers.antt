-- The question was sent.
use Rattle.std.proofs.Common.{[], arith, refl, subst, sym}
use Rattle.host_frames.specs.Frames.{Transfers}
use Rattle.host_frames.specs.declared.frame.Transfer.TheVariants.{Inspect}
use Rattle.outside_switch.specs.Goes.{GoesWith}
use Rattle.outside_switch.specs.Lines.{Posts}
use Rattle.outside_switch.specs.Meets.{seen}
use Rattle.outside_switch.proofs.Acting.{inspect_met}
use Rattle.outside_switch.proofs.Going.{acts, put_back}
use Rattle.outside_switch.proofs.Lines.{posts_from}
use Rattle.outside_switch.proofs.switch.Switch.inspect.Goals as goal

pub returns-clause-goes : goal.returns-clause-goes
returns-clause-goes g c =
    subst (λ l. GoesWith [] (seen c.args.self.now) (record { devices = c.args.self.now.devices; lines = l }))
    (sym (put_back c.args.self.now.lines.len c.post.new.lines c.args.self.now.lines.items (omega arith)))
    (acts (seen c.args.self.now) (record { devices = c.args.self.now.devices; lines = c.post.new.lines }) []
    (inspect_met c.args.place c.args.asked.number c.args.asked.page c.post.result (seen c.args.self.now)
    (record { devices = c.args.self.now.devices; lines = c.post.new.lines }) refl
    (posts_from c.args.place (Transfers (Inspect c.args.asked.number c.args.asked.page)) c.post.result c.deref_mut.result.now
    c.args.self.now.lines.items c.post.new.lines c.deref_mut.ensures.value c.post.ensures)))

pub returns-clause-posts : goal.returns-clause-posts
returns-clause-posts g c =
    subst (λ l. Posts c.args.place (Transfers (Inspect c.args.asked.number c.args.asked.page)) c.post.result
    c.args.self.now.lines.items l)
    (sym (put_back c.args.self.now.lines.len c.post.new.lines c.args.self.now.lines.items (omega arith)))
    (posts_from c.args.place (Transfers (Inspect c.args.asked.number c.args.asked.page)) c.post.result c.deref_mut.result.now
    c.args.self.now.lines.items c.post.new.lines c.deref_mut.ensures.value c.post.ensures)
