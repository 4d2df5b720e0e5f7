-- A step of a host that one call of its node made.
use Rattle.std.specs.Prelude.{◌≡◌, ℕ, Option, unwrap_or}
use Rattle.std.specs.Global.{Vec}
use Rattle.clone_state.specs.Image.{part_bytes}
use Rattle.guest_lockstep.specs.Machine.{Machine}
use Rattle.log_channel.specs.declared.packet.Packet.TheVariants.{Log, Ack}
use Rattle.pair_protocol.specs.Copying.{Copying}
use Rattle.pair_protocol.specs.Node.{Node}
use Rattle.pair_protocol.specs.World.{Message, LogEntry, Acknowledgement, ImagePart}
use Rattle.ft_node.specs.Calls.{IsSpelled}
use Rattle.host_law.specs.Frame.{Act, Carries, sending}
use Rattle.host_law.specs.Host.{HostStep}

-- the step led to a node that the host's node is after the call
pub record Made {S : Type 0} (M : Machine S) (C : Copying S) (me : ℕ) (x : Node S) (act : Act) (Is : Node S → Type 0)
    : Type 0 where
  pub y : Node S
  pub step : HostStep M C me x act y
  pub is : Is y

-- bytes spell what a host sends another one
abbrev pub Spells : Vec ℕ → Message → Type 0
Spells bytes (LogEntry generation index e) = IsSpelled (Log generation index e) bytes
Spells bytes (Acknowledgement generation held replayed) =
    (reports : Option ℕ) × IsSpelled (Ack generation held reports) bytes × (unwrap_or reports 0 ≡ replayed)
Spells bytes (ImagePart generation index part) = bytes.items ≡ part_bytes generation index part
Spells bytes _ = ⊥

-- the step sent a message that these bytes spell
pub record Said {S : Type 0} (M : Machine S) (C : Copying S) (me : ℕ) (x : Node S) (bytes : Vec ℕ) : Type 0 where
  pub message : Message
  pub spelled : Spells bytes message
  pub step : HostStep M C me x (sending (Carries message)) x
