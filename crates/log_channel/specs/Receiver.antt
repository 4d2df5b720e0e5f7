-- What the fields of a `Receiver` mean, and what holds of every one.
use Rattle.std.specs.Prelude.{◌≡◌, ◌+◌, ◌^◌, ◌<◌, length}
use Rattle.log_channel.specs.Block.{held_in, IsBlock}
use Rattle.log_channel.specs.Channel.{Receiving}
use Rattle.log_channel.specs.declared.receiver.Receiver.TheInside.{Inside}

-- the first entry and those that the block spells are held
abbrev pub receiving_of : Inside → Receiving
receiving_of r = record { generation = r.generation; held = r.held; entries = held_in r.front r.block }

-- a generation is at least 1, the number held is below the limit, those that are not popped are still held, and the block
-- spells entries
pub record IsReceiver (r : Inside) : Type 0 where
  pub first_generation : 0 < r.generation
  pub generation : r.generation < 2 ^ 32
  pub held : r.held < 2 ^ 62
  pub kept : r.popped + length (held_in r.front r.block) ≡ r.held
  pub block : IsBlock r.front r.block
