-- Nothing is written meanwhile.
use Rattle.std.proofs.Common.{◌≡◌}
use Rattle.rtrb.specs.Ring.{SameProducer, sent}
use Rattle.command_console.proofs.mirror.Mirrored.has_room.Given as goal

abbrev pub invariant-loop : goal.invariant-loop
invariant-loop l =
    (l.self.store ≡ l.fn.self.store) × (l.self.is_behind ≡ l.fn.self.is_behind) × (sent l.self.writes ≡ sent l.fn.self.writes)
    × SameProducer l.fn.self.writes l.self.writes
