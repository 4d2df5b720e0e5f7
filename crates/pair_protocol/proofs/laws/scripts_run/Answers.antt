-- Each script is proved event by event.
use Rattle.pair_protocol.proofs.Promises.Scripts.{shares_reads, takes_over, writes_disk}
use Rattle.pair_protocol.proofs.laws.scripts_run.Goals as goal

pub returns-clause-failover : goal.returns-clause-failover
returns-clause-failover c = takes_over

pub returns-clause-disk_write : goal.returns-clause-disk_write
returns-clause-disk_write c = writes_disk

pub returns-clause-shared_read : goal.returns-clause-shared_read
returns-clause-shared_read c = shares_reads
