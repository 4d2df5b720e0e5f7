-- They are made just so.
use Rattle.host_node.proofs.Booting.{boots}
use Rattle.host_node.proofs.laws.hosts_boot.Goals as goal

pub returns : goal.returns
returns g c state M C = boots state M C
