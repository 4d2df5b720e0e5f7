-- The state of its machine stays, so it is the same node.
use Rattle.std.proofs.Common.{ap, ◌∙◌}
use Rattle.ft_node.proofs.Freshening.{freshens}
use Rattle.ft_node.proofs.copying.freshened.Goals as goal

pub returns-clause-answer : goal.returns-clause-answer
returns-clause-answer g c = λ x a.
    freshens c.args.alone.now.recorder.reads (g.B.Lockstep.state c.args.alone.now.recorder.board) (g.B.Lockstep.state c.freshen.new.self) c.args.alone.now.generation x
    c.freshen.result (c.freshen.ensures.state ∙ ap g.B.Lockstep.state c.board_mut.ensures.value) c.freshen.ensures.full a
