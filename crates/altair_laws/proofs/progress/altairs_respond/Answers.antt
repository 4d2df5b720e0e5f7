-- What is outstanding at an Altair is due, and what is due is taken.
use Rattle.altair_laws.proofs.Responding.{reads_sectors, responds}
use Rattle.altair_laws.proofs.progress.altairs_respond.Goals as goal

pub returns-clause-responds : goal.returns-clause-responds
returns-clause-responds c =
    responds c.boards_issue_and_complete.ensures c.altairs_are_lawful.ensures c.altairs_stay_within.ensures

pub returns-clause-reads : goal.returns-clause-reads
returns-clause-reads c = reads_sectors c.altairs_stay_within.ensures
