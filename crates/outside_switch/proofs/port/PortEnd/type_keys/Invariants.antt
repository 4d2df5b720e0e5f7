-- Keys were typed so far.
use Rattle.outside_switch.specs.Meets.{seen}
use Rattle.outside_switch.specs.Ports.{TypesKeys}
use Rattle.outside_switch.proofs.port.PortEnd.type_keys.Given as goal

abbrev pub invariant-loop : goal.invariant-loop
invariant-loop g l = TypesKeys l.port l.fn.self l.self (seen l.fn.switch) (seen l.switch)
