-- An alone node begins a generation, or it is the last one, or there is no memory.
use Rattle.std.proofs.Common.{Err, Some, ap, refl, subst, sym, ◌∙◌, arith}
use Rattle.clone_state.specs.Copies.{image_parts}
use Rattle.i8080_words.specs.declared.refusal.Fault.{Fault}
use Rattle.ft_node.specs.Calls.{BeginsPair}
use Rattle.ft_node.specs.Kept.{ImageParts}
use Rattle.ft_node.specs.Roles.{IsAlone}
use Rattle.ft_node.specs.AnyNode.{IsNode}
use Rattle.ft_node.specs.declared.alone.Alone.{Alone}
use Rattle.ft_node.specs.declared.node.Node.TheVariants as node
use Rattle.ft_node.proofs.BegunPairs.{begins, is_begun, out_of_memory, spent}
use Rattle.ft_node.proofs.copying.begun.Goals as goal

pub returns-then-alone-clause-answer : goal.returns-then-alone-clause-answer
returns-then-alone-clause-answer g c = λ C drives x copies has a.
    let M = g.B.Lockstep.machine in
    let state = g.B.Lockstep.state in
    spent M c.args.alone.recorder.reads (state c.args.alone.recorder.board) c.args.alone.generation x a
    (IsNode {H = g.row.H.Denot} state M C drives (node.Alone c.args.alone)) (omega arith) a

pub returns-in-Err-clause-answer : goal.returns-in-Err-clause-answer
returns-in-Err-clause-answer g c = λ C drives x copies has a.
    let M = g.B.Lockstep.machine in
    let state = g.B.Lockstep.state in
    let now = c.log_and_image.new.alone in
    subst (λ (fault : Fault). BeginsPair M x (Err fault) (IsAlone now.recorder.reads (state now.recorder.board) now.generation)) (sym c.in-Err.ensures.full)
    (out_of_memory M c.args.alone.recorder.reads (state c.args.alone.recorder.board) c.args.alone.generation x a (IsAlone now.recorder.reads (state now.recorder.board) now.generation)
    (omega arith)
    (subst (λ (alone : Alone g.row.B.Denot). IsAlone alone.recorder.reads (state alone.recorder.board) alone.generation x) (sym c.in-Err.ensures.unchanged) a))

pub returns-clause-answer : goal.returns-clause-answer
returns-clause-answer g c = λ C drives x copies has a.
    let M = g.B.Lockstep.machine in
    let state = g.B.Lockstep.state in
    let s = state c.args.alone.recorder.board in
    let primary = c.begin-primary.result in
    let made = c.begin-primary.ensures in
    begins M c.args.alone.recorder.reads s c.args.alone.generation x a (IsNode {H = g.row.H.Denot} state M C drives (node.Primary primary)) (omega arith)
    (is_begun M c.args.alone.recorder.reads s c.args.alone.generation x a C primary.recorder.reads (state primary.recorder.board) primary.recorder.log primary.sender
    primary.coverage primary.image (image_parts (g.B.Copies.copied c.args.alone.recorder.board)) has (made.reads ∙ c.reads-reads.ensures ∙ c.log_and_image.ensures.reads)
    (ap state (made.board ∙ c.into_board-board.ensures) ∙ c.log_and_image.ensures.state)
    (made.log ∙ c.in-Ok.ensures.log) made.sender
    (made.coverage ∙ rw (c.keys.ensures, c.keys-2.ensures, c.board-board.ensures, c.log_and_image.ensures.state) refl)
    (made.image ∙ c.of-image.ensures ∙ ap (λ (image : ImageParts). Some image) c.in-Ok.ensures.image)
    (sym (copies.same c.args.alone.recorder.board)))
