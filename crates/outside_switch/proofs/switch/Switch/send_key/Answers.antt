-- The key that is kept was sent.
use Rattle.std.proofs.Common.{[], arith, refl, subst, sym}
use Rattle.host_frames.specs.Frames.{Transfers}
use Rattle.host_frames.specs.declared.frame.Transfer.TheVariants.{Key}
use Rattle.outside_switch.specs.DeviceCalls.{key_answer}
use Rattle.outside_switch.specs.Goes.{GoesWith, SendsKey}
use Rattle.outside_switch.specs.Meets.{seen}
use Rattle.outside_switch.proofs.Acting.{key_met}
use Rattle.outside_switch.proofs.Going.{acts, put_back, still}
use Rattle.outside_switch.proofs.Lines.{posts_from}
use Rattle.outside_switch.proofs.switch.Switch.send_key.Goals as goal

pub returns-in_default-clause-goes : goal.returns-in_default-clause-goes
returns-in_default-clause-goes g c = still (seen c.args.self.now)

pub returns-clause-goes : goal.returns-clause-goes
returns-clause-goes g c =
    subst (λ l. GoesWith [] (seen c.args.self.now) (record { devices = c.args.self.now.devices; lines = l }))
    (sym (put_back c.args.self.now.lines.len c.post.new.lines c.args.self.now.lines.items (omega arith)))
    (acts (seen c.args.self.now) (record { devices = c.args.self.now.devices; lines = c.post.new.lines }) []
    (key_met c.args.place c.args.port c.args.index c.in-Ok.byte c.post.result (seen c.args.self.now)
    (record { devices = c.args.self.now.devices; lines = c.post.new.lines }) (sym c.in-Ok.ensures) refl
    (posts_from c.args.place (Transfers (Key c.args.port c.args.index c.in-Ok.byte)) c.post.result c.deref_mut.result.now
    c.args.self.now.lines.items c.post.new.lines c.deref_mut.ensures.value c.post.ensures)))

pub returns-clause-sends : goal.returns-clause-sends
returns-clause-sends g c =
    subst (λ l. SendsKey (key_answer c.args.self.now.devices.terminals c.args.port c.args.index) c.args.place c.args.port
    c.args.index c.post.result c.args.self.now.lines.items l)
    (sym (put_back c.args.self.now.lines.len c.post.new.lines c.args.self.now.lines.items (omega arith)))
    (subst (λ o. SendsKey o c.args.place c.args.port c.args.index c.post.result c.args.self.now.lines.items c.post.new.lines)
    c.in-Ok.ensures
    (posts_from c.args.place (Transfers (Key c.args.port c.args.index c.in-Ok.byte)) c.post.result c.deref_mut.result.now
    c.args.self.now.lines.items c.post.new.lines c.deref_mut.ensures.value c.post.ensures))
