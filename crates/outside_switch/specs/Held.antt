-- What the process outside of the hosts has in its memory.
use Rattle.std.specs.Prelude.{ℕ, List, [], ◌∷◌, Option}
use Rattle.arbiter_core.specs.declared.arbiter.Asking.{Asking}
use Rattle.shared_disk.specs.declared.store.Record.{Record}
use Rattle.outside_switch.specs.Terminal.{KeptTerminal, blank}

-- a terminal at each port, the askings that won, the disk's records with how often its device may still fail, and how many
-- hosts are there
pub record Held : Type 0 where
  pub terminals : List KeptTerminal
  pub askings : List Asking
  pub records : List Record
  pub may_fail : Option ℕ
  pub hosts : ℕ

-- nothing has happened, and no host is there
abbrev pub at_boot : List Record → Option ℕ → Held
at_boot records may_fail = record {
  terminals = blank ∷ blank ∷ [];
  askings = [];
  records = records;
  may_fail = may_fail;
  hosts = 0;
}
