-- The nodes are made just so.
use Rattle.host_calls.proofs.Stepping.{begins-backup, begins-primary, joins}
use Rattle.host_calls.proofs.laws.hosts_begin.Goals as goal

pub returns : goal.returns
returns g c = record {
  begin = λ M C reads. (begins-primary M reads, begins-backup M reads, λ generation count list. joins M C generation count reads list);
}
