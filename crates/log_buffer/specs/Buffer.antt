-- What the fields of a `LogBuffer` mean, and what holds of every one.
use Rattle.std.specs.Prelude.{◌≡◌}
use Rattle.log_buffer.specs.Log.{Log, log, IsWithinLimits}
use Rattle.log_buffer.specs.declared.buffer.TheConstants.{CAPACITY}
use Rattle.log_buffer.specs.declared.buffer.LogBuffer.TheInside.{Inside}

-- the entries in the ring, from its front, are the log's
abbrev pub log_of : Inside → Log
log_of b = log b.first b.entries.items

-- the log is within its limits, and the ring has all the places that it may need
pub record IsBuffer (b : Inside) : Type 0 where
  pub limits : IsWithinLimits (log_of b)
  pub places : b.entries.capacity ≡ CAPACITY
