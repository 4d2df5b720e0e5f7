-- What the worker of the terminals keeps besides its seat.
use Rattle.std.specs.Prelude.{◌≡◌, ℕ, ◌+◌, ◌==◌, cond, Bool, true, false, List, [], ◌∷◌, Some}
use Rattle.event_callbacks.specs.declared.operations.Operation.TheVariants.{Byte}
use Rattle.pair_rule.specs.declared.payload.PortByte.{PortByte}
use Rattle.pair_rule.specs.declared.view.Knowledge.{Knowledge}
use Rattle.pair_rule.specs.Shown.{hand_of}

-- the port whose turn it is
abbrev pub port_of : Bool → ℕ
port_of false = 0
port_of true = 1

-- the terminals' seat has taken this byte at the port
abbrev pub HasInHand : Bool → PortByte → Knowledge → Type 0
HasInHand second b k = hand_of (port_of second) k ≡ Some (Byte (port_of second) b.number b.byte)

-- a byte that arrives after n accepted ones is accepted if it is the next one
abbrev pub next_byte : ℕ → PortByte → List ℕ
next_byte n b = cond (b.number == n + 1) (b.byte ∷ []) []
