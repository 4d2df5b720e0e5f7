-- It has only looked at the ring.
use Rattle.rtrb.specs.Ring.{ProducerLooked}
use Rattle.command_console.proofs.hearing.has_room.Given as goal

abbrev pub invariant-loop : goal.invariant-loop
invariant-loop g l = ProducerLooked l.fn.ring l.ring
