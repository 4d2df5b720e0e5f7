-- The constants that the definitions cite by their names in the code.
use Rattle.std.specs.Prelude.{◌≡◌}
use Rattle.event_callbacks.specs.declared.devices.TheConstants.{PORTS, SENT, SECTOR, WRITTEN}

-- a board has two ports, and the kinds of closures are numbered in the order of `Done`
pub record Limits : Type 0 where
  pub ports : PORTS ≡ 2
  pub sent : SENT ≡ 0
  pub sector : SECTOR ≡ 1
  pub written : WRITTEN ≡ 2
