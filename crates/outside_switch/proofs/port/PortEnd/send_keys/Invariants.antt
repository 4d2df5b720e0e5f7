-- The switch went on so far, and nothing was typed and shown.
use Rattle.std.specs.Prelude.{[]}
use Rattle.outside_switch.specs.Goes.{GoesWith}
use Rattle.outside_switch.specs.Meets.{seen}
use Rattle.outside_switch.specs.Ports.{Rests}
use Rattle.outside_switch.proofs.port.PortEnd.send_keys.Given as goal

abbrev pub invariant-loop : goal.invariant-loop
invariant-loop g l = GoesWith [] (seen l.fn.switch) (seen l.switch) × Rests l.fn.self l.self
