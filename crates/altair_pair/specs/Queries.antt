-- What a query of the script language finds in a world, as the text that answers it.
use Rattle.std.specs.Prelude.{◌≡◌, ℕ, List, Option, Some, None, if◌then◌else◌, nat_lt, slice_get}
use Rattle.i8080_words.specs.declared.refusal.Fault.TheVariants.{Unknown}
use Rattle.guest_lockstep.specs.Machine.{Machine}
use Rattle.pair_events.specs.Printed.{accepted_text, node_text, packet_text, refusal_text}
use Rattle.pair_protocol.specs.Node.{Node}
use Rattle.pair_protocol.specs.World as protocol
use Rattle.ft_world.specs.Shows.{Agree, IsStatusAt}
use Rattle.ft_world.specs.Words.{IsMessage}
use Rattle.ft_world.specs.declared.hosts.NodeStatus.{NodeStatus}
use Rattle.ft_world.specs.declared.message.Message.{Message}
use Rattle.ft_world.specs.declared.message.Message.TheVariants as message
use Rattle.script_language.specs.declared.line.Query.{Query}
use Rattle.script_language.specs.declared.line.Query.TheVariants as query

-- what the terminal of a port has accepted; there are two ports
abbrev pub screen_text : ℕ → List ℕ → List ℕ
screen_text port bytes = if nat_lt port 2 then accepted_text port bytes else refusal_text Unknown

-- the bytes of an entry, an acknowledgement or a part of an image; the other messages have no packets
abbrev pub message_text : Option Message → List ℕ
message_text (Some (message.Log bytes)) = packet_text bytes.items
message_text (Some (message.Ack bytes)) = packet_text bytes.items
message_text (Some (message.Part bytes)) = packet_text bytes.items
message_text _ = refusal_text Unknown

-- what a node shows of itself
abbrev pub status_text : Option NodeStatus → List ℕ
status_text (Some status) = node_text status.role status.generation status.count
status_text None = refusal_text Unknown

pub record FindsMessage (messages : List protocol.Message) (number : ℕ) (text : List ℕ) : Type 0 where
  pub found : Option Message
  pub is_there : Agree IsMessage found (slice_get messages number)
  pub told : text ≡ message_text found

pub record FindsNode {S : Type 0} (M : Machine S) (nodes : List (Node S)) (number : ℕ) (text : List ℕ) : Type 0 where
  pub status : Option NodeStatus
  pub is_there : IsStatusAt M (slice_get nodes number) status
  pub told : text ≡ status_text status

-- What answers a query.
abbrev pub Finds : {S : Type 0} → Machine S → protocol.World S → Query → List ℕ → Type 0
Finds M w (query.Show port) text = text ≡ screen_text port (protocol.accepted w port)
Finds M w (query.Packet number) text = FindsMessage w.messages number text
Finds M w (query.Node number) text = FindsNode M w.nodes number text
