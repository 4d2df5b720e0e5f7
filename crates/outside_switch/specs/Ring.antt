-- What the fields of a `BoundedTerminal` mean, and what holds of every one.
use Rattle.std.specs.Prelude.{◌≡◌}
use Rattle.outside_switch.specs.Terminal.{KeptTerminal, IsWithinLimits}
use Rattle.outside_switch.specs.declared.terminal.TheConstants.{KEYS}
use Rattle.outside_switch.specs.declared.terminal.BoundedTerminal.TheInside.{Inside}

-- the keys in the ring, from its front, are those that are kept
abbrev pub kept_in : Inside → KeptTerminal
kept_in b = record { accepted = b.accepted; first = b.first; keys = b.keys.items; told = b.told }

-- they are within their limits, and the ring has all the places that it may need
pub record IsRing (b : Inside) : Type 0 where
  pub limits : IsWithinLimits (kept_in b)
  pub places : b.keys.capacity ≡ KEYS
