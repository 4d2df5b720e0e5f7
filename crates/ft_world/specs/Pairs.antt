-- The running world that a pair is.
use Rattle.ft_world.specs.Running.{Running}
use Rattle.ft_world.specs.declared.pair.Pair.{Pair}

abbrev pub running_of : {B D H : Type 0} → Pair B D H → Running B H D
running_of p = record {
  hosts = p.hosts.items;
  messages = p.messages.items;
  terminals = p.terminals;
  askings = p.arbiter;
  disk = p.disk;
  generation = p.generation;
  backup = p.backup;
}
