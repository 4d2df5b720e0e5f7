-- The exit statuses of the processes of a pair.
use Rattle.std.specs.Prelude.{ℕ}
use Rattle.outside_switch.specs.declared.session.HostsEnd.{HostsEnd}
use Rattle.outside_switch.specs.declared.session.HostsEnd.TheVariants.{NoHosts, Settled, Silent, Stopped, UserQuit}
use Rattle.host_node.specs.declared.pace.End.{End}
use Rattle.host_node.specs.declared.pace.End.TheVariants as of_end

-- a console's
abbrev pub console_status : HostsEnd → ℕ
console_status UserQuit = 0
console_status Settled = 0
console_status Silent = 8
console_status Stopped = 5
console_status NoHosts = 6

-- a host's
abbrev pub host_status : End → ℕ
host_status of_end.OutOfMemory = 4
host_status of_end.Diverged = 7
host_status end = 0
