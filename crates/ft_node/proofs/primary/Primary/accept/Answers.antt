-- The recorder takes the input, the coverage knows of its read, and the operation that it completes no longer has a note.
use Rattle.std.proofs.Common.{Some, None, sym, ap, ◌∙◌}
use Rattle.guest_lockstep.specs.Outstanding.{completed_by}
use Rattle.ft_node.proofs.PassedChecks.{none_there}
use Rattle.ft_node.proofs.PrimaryInputs.{accepts}
use Rattle.ft_node.proofs.primary.Primary.accept.Goals as goal

pub returns-in-Some : goal.returns-in-Some
returns-in-Some g c = λ C x p.
    let M = g.B.Lockstep.machine in
    let s = g.B.Lockstep.state c.args.self.now.recorder.board in
    rw (c.forget.ensures, c.note_read.ensures, c.accept-index.ensures.reads, c.is_read-is_read.ensures (M.count s), c.reads.ensures)
    (accepts M s (g.B.Lockstep.state c.accept-index.new.self.board)
    c.args.self.now.recorder.log c.accept-index.new.self.log c.args.self.now.sender c.args.self.now.coverage x c.args.input
    (Some c.in-Some.id) c.accept-index.result g.met.B.Lockstep.operations p c.accept-index.ensures.after c.accept-index.ensures.entry
    (sym c.in-Some.is ∙ c.completed_by-completed.ensures
    ∙ ap (λ board. completed_by M (g.B.Lockstep.state board) c.args.input) c.board.ensures) c.accept-index.ensures.index)

pub returns-in_default : goal.returns-in_default
returns-in_default g c = λ C x p.
    let M = g.B.Lockstep.machine in
    let s = g.B.Lockstep.state c.args.self.now.recorder.board in
    rw (c.note_read.ensures, c.accept-index.ensures.reads, c.is_read-is_read.ensures (M.count s), c.reads.ensures)
    (accepts M s (g.B.Lockstep.state c.accept-index.new.self.board)
    c.args.self.now.recorder.log c.accept-index.new.self.log c.args.self.now.sender c.args.self.now.coverage x c.args.input
    None c.accept-index.result g.met.B.Lockstep.operations p c.accept-index.ensures.after c.accept-index.ensures.entry
    (sym (none_there c.completed_by-completed.result c.in_default.not-Some) ∙ c.completed_by-completed.ensures
    ∙ ap (λ board. completed_by M (g.B.Lockstep.state board) c.args.input) c.board.ensures) c.accept-index.ensures.index)
