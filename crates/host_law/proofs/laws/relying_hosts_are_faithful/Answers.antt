-- Each step is made, since each node stands.
use Rattle.host_law.proofs.Relying.{relying-faithful}
use Rattle.host_law.proofs.laws.relying_hosts_are_faithful.Goals as goal

pub returns : goal.returns
returns g c = record {
  faithful = λ M C laws copies reads spares deeds o happened. relying-faithful M C laws copies reads spares deeds o happened;
}
