-- A world over the disk of the program, as one over its records.
use Rattle.std.specs.Prelude.{List}
use Rattle.ft_world.specs.Running.{Running}
use Rattle.shared_disk.specs.Failing.{Disk}
use Rattle.shared_disk.specs.declared.store.Record.{Record}

unfoldable pub over_records : {B H : Type 0} → Running B H Disk → Running B H (List Record)
over_records v = record {
  hosts = v.hosts;
  messages = v.messages;
  terminals = v.terminals;
  askings = v.askings;
  disk = v.disk.store;
  generation = v.generation;
  backup = v.backup;
}
