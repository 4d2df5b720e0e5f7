-- The book of a node that is alone begins again from the inputs that are settled.
use Rattle.std.proofs.Common.{subst}
use Rattle.std.specs.Prelude.{slice_get}
use Rattle.ft_world.specs.Shows.{IsStatusAt}
use Rattle.pair_shell.proofs.Books.{book_of_alone}
use Rattle.pair_shell.proofs.notes.Notes.backup_for.Goals as goal

pub returns-in_ok-begin_again-in-Alone-clause-book : goal.returns-in_ok-begin_again-in-Alone-clause-book
returns-in_ok-begin_again-in-Alone-clause-book g c = λ course shows.
    let M = g.B.Lockstep.machine in
    let begun = c.in_ok-begin_again-in-Alone.ensures in
    book_of_alone M course c.args.self.now.book c.begin_again.new.self c.args.node c.in-Some.status
    (subst (IsStatusAt M (slice_get course.world.nodes c.args.node)) c.in-Some.is (c.node.ensures course shows)) c.in-Alone.is
    begun.letters c.settled.result.0.now c.settled.result.1 (c.settled.ensures course shows) begun.progress
