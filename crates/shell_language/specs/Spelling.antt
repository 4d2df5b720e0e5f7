-- Events as the lines of a script, as docs/SCRIPTS.md has them.
use Rattle.std.specs.Prelude.{ℕ, List, [], codes}
use Rattle.std.specs.Fmt.{decimal}
use Rattle.event_callbacks.specs.declared.operations.OpId.{OpId}
use Rattle.event_callbacks.specs.declared.operations.OpId.TheVariants as id
use Rattle.pair_events.specs.declared.event.Event.{Event}
use Rattle.pair_events.specs.declared.event.Event.TheVariants as event
use Rattle.pair_events.specs.Printed.{byte_text, ◌␣◌}

-- `byte P X` or `write X`
abbrev pub operation_text : OpId → List ℕ
operation_text (id.Byte port x) = codes "byte" ␣ decimal port ␣ decimal x
operation_text (id.Write x) = codes "write" ␣ decimal x

-- The line that says an event that changes what a node is.
abbrev pub change_text : Event → List ℕ
change_text (event.Suspect node) = codes "suspect" ␣ decimal node
change_text (event.Drain node turns) = codes "drain" ␣ decimal node ␣ decimal turns
change_text (event.BeginPair node host) = codes "pair" ␣ decimal node ␣ decimal host
change_text (event.Freshen node pages) = codes "freshen" ␣ decimal node ␣ decimal pages
change_text (event.SendPart node index) = codes "sendpart" ␣ decimal node ␣ decimal index
change_text (event.PartComes message node) = codes "part" ␣ decimal message ␣ decimal node
change_text (event.Stop node) = codes "stop" ␣ decimal node
change_text other = []

-- The line that says an event at a terminal or at the disk, or one of those above.
abbrev pub effect_text : Event → List ℕ
effect_text (event.Arrive message) = codes "arrive" ␣ decimal message
effect_text (event.TellSent node port x) = codes "sent" ␣ decimal node ␣ decimal port ␣ decimal x
effect_text (event.Told node port) = codes "told" ␣ decimal node ␣ decimal port
effect_text (event.Put message) = codes "put" ␣ decimal message
effect_text (event.PutReply message node) = codes "done" ␣ decimal message ␣ decimal node
effect_text (event.Get node sector) = codes "get" ␣ decimal node ␣ decimal sector
effect_text (event.GetReply message node) = codes "under" ␣ decimal message ␣ decimal node
effect_text (event.Fetch node) = codes "fetch" ␣ decimal node
effect_text (event.Fetched message node) = codes "fetched" ␣ decimal message ␣ decimal node
effect_text other = change_text other

-- The line that says an event.
abbrev pub event_text : Event → List ℕ
event_text (event.Step node turns) = codes "step" ␣ decimal node ␣ decimal turns
event_text (event.TypeByte port typed) = codes "type" ␣ decimal port ␣ byte_text typed
event_text (event.TakeKey node port index) = codes "key" ␣ decimal node ␣ decimal port ␣ decimal index
event_text (event.Send node index) = codes "send" ␣ decimal node ␣ decimal index
event_text (event.DeliverLog message node) = codes "log" ␣ decimal message ␣ decimal node
event_text (event.Acknowledge node) = codes "ack" ␣ decimal node
event_text (event.DeliverAcknowledgement message node) = codes "acked" ␣ decimal message ␣ decimal node
event_text (event.Replay node turns) = codes "replay" ␣ decimal node ␣ decimal turns
event_text (event.Release node released) = codes "release" ␣ decimal node ␣ operation_text released
event_text other = effect_text other
