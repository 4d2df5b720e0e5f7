-- The constants that the definitions cite by their names in the code.
use Rattle.std.specs.Prelude.{◌≡◌}
use Rattle.log_buffer.specs.declared.buffer.TheConstants.{CAPACITY}

-- at most 256 entries are not acknowledged
pub record Limits : Type 0 where
  pub capacity : CAPACITY ≡ 256
