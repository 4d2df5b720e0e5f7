-- No refusal is out of memory, and these events need no memory.
use Rattle.pair_protocol.proofs.Needing.{no_turns, other_bytes, other_entries, other_moves, other_parts, stops_at_steps, winners}
use Rattle.pair_protocol.proofs.laws.some_events_need_no_memory.Goals as goal

pub returns : goal.returns
returns g c = record {
  no_turns = no_turns;
  other_moves = other_moves;
  other_entries = other_entries;
  other_bytes = other_bytes;
  other_parts = other_parts;
  winners = winners;
  stops = stops_at_steps;
}
