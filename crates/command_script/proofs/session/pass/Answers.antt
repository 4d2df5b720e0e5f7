-- The event of the line has happened.
use Rattle.std.proofs.Common.{◌∷◌, [], subst, sym}
use Rattle.command_script.specs.Running.{HaveHappened}
use Rattle.command_script.proofs.Lines.{passes_event}
use Rattle.command_script.proofs.session.pass.Goals as goal

pub returns-in-Event : goal.returns-in-Event
returns-in-Event g c = λ course shows.
    subst
    (λ l. HaveHappened g.B.Lockstep.state g.B.Copies.copied g.B.Lockstep.machine course (l ∷ []) c.args.world.now c.apply.new.self)
    (sym c.in-Event.is)
    (passes_event g.B.Lockstep.state g.B.Copies.copied g.B.Lockstep.machine c.args.world.now c.apply.new.self
    c.in-Event.event c.apply.result c.apply.ensures.row c.apply.ensures.counted course shows)
