-- The machine that a node shows.
use Rattle.std.specs.Prelude.{if◌then◌else◌, Option, Some, None}
use Rattle.pair_protocol.specs.Node.{Node, Role, Primary, Backup, Joining, Draining, Alone, Spare}

-- what a running node has in a role: a joining node is still given its machine, and a spare host has none
abbrev pub machine_in : {S : Type 0} → Role → S → Option S
machine_in Primary s = Some s
machine_in Backup s = Some s
machine_in Joining s = None
machine_in Draining s = Some s
machine_in Alone s = Some s
machine_in Spare s = None

-- a halted node shows none
abbrev pub shown_machine : {S : Type 0} → Node S → Option S
shown_machine x = if x.running then machine_in x.role x.machine else None
