-- Kinds of events, by which one function that applies events hands on to the next.
use Rattle.std.specs.Prelude.{Bool, true, false}
use Rattle.pair_events.specs.declared.event.Event.{Event}
use Rattle.pair_events.specs.declared.event.Event.TheVariants as event

-- a node runs or takes a key, sends or hears of the log, or goes on alone
abbrev pub is_at_node : Event → Bool
is_at_node (event.Step node turns) = true
is_at_node (event.Send node index) = true
is_at_node (event.DeliverLog message node) = true
is_at_node (event.Acknowledge node) = true
is_at_node (event.DeliverAcknowledgement message node) = true
is_at_node (event.Replay node turns) = true
is_at_node (event.Suspect node) = true
is_at_node (event.Drain node turns) = true
is_at_node (event.TakeKey node port index) = true
is_at_node _ = false

-- a sector is read, or a machine is copied
abbrev pub is_read_or_copy : Event → Bool
is_read_or_copy (event.Get node sector) = true
is_read_or_copy (event.GetReply message node) = true
is_read_or_copy (event.Fetch node) = true
is_read_or_copy (event.Fetched message node) = true
is_read_or_copy (event.BeginPair node host) = true
is_read_or_copy (event.SendPart node index) = true
is_read_or_copy (event.PartComes message node) = true
is_read_or_copy (event.Freshen node pages) = true
is_read_or_copy _ = false
