-- How far a node is with the log of its generation.
use Rattle.std.specs.Prelude.{◌-◌, if◌then◌else◌, Option, Some, None, length}
use Rattle.log_channel.specs.Channel.{Receiving}
use Rattle.pair_protocol.specs.Node.{Node, Role, Primary, Backup, Joining, Draining, Alone, Spare}
use Rattle.ft_node.specs.declared.ran.Standing.{Standing}

-- a primary has logged so many entries, of which so many are acknowledged
abbrev pub logged_by : {S : Type 0} → Node S → Standing
logged_by x = record { entries = length x.log; done = x.covered }

-- a node that repeats holds so many, of which so many are replayed
abbrev pub followed_by : {S : Type 0} → Node S → Standing
followed_by x = record { entries = length x.held; done = x.replayed }

-- the same by its end of the channel
abbrev pub held_by : Receiving → Standing
held_by r = record { entries = r.held; done = r.held - length r.entries }

-- what a running node shows in a role: one that is alone, joins or is spare has no log
abbrev pub standing_in : {S : Type 0} → Role → Node S → Option Standing
standing_in Primary x = Some (logged_by x)
standing_in Backup x = Some (followed_by x)
standing_in Joining x = None
standing_in Draining x = Some (followed_by x)
standing_in Alone x = None
standing_in Spare x = None

-- a halted node shows none
abbrev pub shown_standing : {S : Type 0} → Node S → Option Standing
shown_standing x = if x.running then standing_in x.role x else None
