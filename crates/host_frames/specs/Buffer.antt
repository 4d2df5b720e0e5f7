-- What the field of a `FrameBuffer` means, and what holds of every one.
use Rattle.std.specs.Prelude.{◌≡◌, ℕ, List}
use Rattle.log_entry.specs.Numbers.{IsBytes}
use Rattle.host_frames.specs.declared.buffer.TheConstants.{BUFFER_BYTES}
use Rattle.host_frames.specs.declared.buffer.FrameBuffer.TheInside.{Inside}

abbrev pub pending_in : Inside → List ℕ
pending_in b = b.pending.items

pub record IsBuffer (b : Inside) : Type 0 where
  pub places : b.pending.capacity ≡ BUFFER_BYTES
  pub bytes : IsBytes b.pending.items
