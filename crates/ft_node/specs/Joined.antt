-- What a joining node has: the parts that arrived, how many steps the machine that is copied had made, and how the log of
-- its generation carries sectors.
use Rattle.std.specs.Prelude.{ℕ}
use Rattle.clone_state.specs.Assembly.{Gathering}
use Rattle.guest_lockstep.specs.declared.reads.Reads.{Reads}

pub record Joined : Type 0 where
  pub gathering : Gathering
  pub count : ℕ
  pub reads : Reads
