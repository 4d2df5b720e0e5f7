-- The event comes after the others on the tape, in which there was room for it.
use Rattle.std.proofs.Common.{◌∷◌, ◌++◌, ◌∙◌, [], ap}
use Rattle.shell_language.specs.Tapes.{played}
use Rattle.pair_shell.proofs.Playing.{lengthens}
use Rattle.pair_shell.proofs.play.play_next.Goals as goal

pub returns-clause-happened : goal.returns-clause-happened
returns-clause-happened g c =
    lengthens g.B.Lockstep.state g.B.Copies.copied g.B.Lockstep.machine c.args.world.now c.make-answer.new.world
    c.args.tape.now.items c.make-answer.new.tape.items c.args.event c.make-answer.result
    (c.make-answer.ensures.taped ∙ ap (λ t. t ++ played c.args.event c.make-answer.result ∷ []) c.in_ok-reserve.ensures.items)
    c.make-answer.ensures.happened
