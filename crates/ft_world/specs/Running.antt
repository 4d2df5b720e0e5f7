-- A running world: its hosts, the messages sent, what each terminal shows, who asked the arbiter, the disk, the highest
-- generation, and the number of the only node that may be its backup.
use Rattle.std.specs.Prelude.{ℕ, List}
use Rattle.arbiter_core.specs.declared.arbiter.Asking.{Asking}
use Rattle.terminals.specs.Screen.{Screen}
use Rattle.ft_world.specs.declared.host.Host.{Host}
use Rattle.ft_world.specs.declared.message.Message.{Message}

pub record Running (B H D : Type 0) : Type 0 where
  pub hosts : List (Host B H)
  pub messages : List Message
  pub terminals : List Screen
  pub askings : List Asking
  pub disk : D
  pub generation : ℕ
  pub backup : ℕ
