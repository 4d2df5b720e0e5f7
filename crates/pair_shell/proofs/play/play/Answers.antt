-- What the tape said before the next event, it says after it, with that event.
use Rattle.shell_language.specs.Tapes.{played}
use Rattle.pair_shell.proofs.Playing.{plays_more}
use Rattle.pair_shell.proofs.play.play.Goals as goal

pub returns-in_err-answer-clause-played : goal.returns-in_err-answer-clause-played
returns-in_err-answer-clause-played g c = c.in_err-answer.ensures.happened c.args.world.now c.events.invariant.plays

pub events-preserved : goal.events-preserved
events-preserved g c =
    plays_more g.B.Lockstep.state g.B.Copies.copied g.B.Lockstep.machine c.args.world.now c.events.world c.play_next.new.world
    c.events._made c.events.tape.items c.play_next.new.tape.items (played c.in-Some.event c.in_ok-answer.answer) c.events.invariant
    c.in_ok-answer.ensures.taped c.in_ok-answer.ensures.happened

pub returns-then-pauses-clause-played : goal.returns-then-pauses-clause-played
returns-then-pauses-clause-played g c = c.in_ok-answer.ensures.happened c.args.world.now c.events.invariant.plays
