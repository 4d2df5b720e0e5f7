-- The event of the line is told after the others.
use Rattle.std.proofs.Common.{◌∷◌, [], subst, sym}
use Rattle.command_script.specs.Telling.{TellsAfter}
use Rattle.command_script.proofs.Telling.{tells_event}
use Rattle.command_script.proofs.picture.tell.Goals as goal

pub returns-in_ok-push : goal.returns-in_ok-push
returns-in_ok-push g c =
    subst
    (λ l. TellsAfter g.B.Lockstep.state g.B.Copies.copied g.B.Lockstep.machine c.args.world.now (l ∷ [])
    c.args.moments.now.items c.push.new.self.items c.apply-answer.new.self)
    (sym c.in-Event.is)
    (tells_event g.B.Lockstep.state g.B.Copies.copied g.B.Lockstep.machine c.args.world.now c.apply-answer.new.self
    c.moment_of.result c.in-Event.event c.apply-answer.result c.args.moments.now.items c.push.new.self.items
    c.moment_of.ensures.event c.moment_of.ensures.answer c.in_ok-push.ensures.items c.apply-answer.ensures.row
    c.apply-answer.ensures.counted)
