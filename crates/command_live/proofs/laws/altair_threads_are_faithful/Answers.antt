-- The laws of any machine, for one that the threads may run.
use Rattle.guest_board.specs.Guest.{altair}
use Rattle.pair_protocol.specs.Copying.{no_copies}
use Rattle.pair_protocol.proofs.Promises.Growth.{row_grows}
use Rattle.pair_protocol.proofs.RowActions.{row_changes}
use Rattle.pair_protocol.proofs.Promises.Runs.{always_faithful, changes_reach}
use Rattle.pair_rule.proofs.Threads.{runs_shown}
use Rattle.command_live.proofs.Threads.{altair_runnable, without_copies}
use Rattle.command_live.proofs.laws.altair_threads_are_faithful.Goals as goal

pub returns-clause-runnable : goal.returns-clause-runnable
returns-clause-runnable c setup sectors =
    altair_runnable setup sectors (c.altairs_are_lawful.ensures setup sectors) c.boards_count.ensures
    c.boards_issue_and_complete.ensures

pub returns-clause-faithful : goal.returns-clause-faithful
returns-clause-faithful c setup sectors typed0 typed1 k run =
    runs_shown (λ M C w new e r row. row_changes M C w new e r row)
    (λ M C w new reached changes. changes_reach M C w new reached changes) always_faithful
    (λ M C laws copies w new e r reached row. row_grows M C laws copies w new e r reached row)
    (altair setup sectors) no_copies
    (altair_runnable setup sectors (c.altairs_are_lawful.ensures setup sectors) c.boards_count.ensures
    c.boards_issue_and_complete.ensures) (without_copies (altair setup sectors)) typed0 typed1 k run
