-- Which outside of the law the devices show: it has every arrival, every key and every write, of which they keep less.
use Rattle.std.specs.Prelude.{◌≡◌, ℕ, ◌≤◌, List, drop, length}
use Rattle.event_callbacks.specs.declared.devices.TheConstants.{PORTS}
use Rattle.guest_lockstep.specs.Machine.{Machine}
use Rattle.host_law.specs.Outside.{Outside}
use Rattle.pair_protocol.specs.SharedDevices.{AreWinners, IsDisk}
use Rattle.pair_protocol.specs.World.{Terminal, accepted_after, terminal_in}
use Rattle.outside_switch.specs.DeviceCalls.{terminal_at}
use Rattle.outside_switch.specs.Held.{Held}
use Rattle.outside_switch.specs.Terminal.{KeptTerminal, next_key}

-- a terminal keeps all keys but the first ones, which it was told are covered; of its arrivals it keeps how many it has
-- accepted
pub record IsTerminal (kept : KeptTerminal) (t : Terminal) : Type 0 where
  pub accepted : kept.accepted ≡ length (accepted_after 0 t.arrivals)
  pub keys : kept.keys ≡ drop kept.first t.typed
  pub typed : next_key kept ≡ length t.typed
  pub told : kept.told ≡ t.told
  pub covered : kept.first ≤ t.told

-- the same at each port
pub record AreTerminals (kept : List KeptTerminal) (terminals : List Terminal) : Type 0 where
  pub ports : length kept ≡ PORTS
  pub count : length terminals ≡ PORTS
  pub each : (port : ℕ) → IsTerminal (terminal_at kept port) (terminal_in terminals port)

-- the devices show this outside, whose disk has this many drives; a host that is not there yet may be counted by it
pub record Shows {S : Type 0} (M : Machine S) (drives : ℕ) (held : Held) (o : Outside) : Type 0 where
  pub terminals : AreTerminals held.terminals o.terminals
  pub winners : AreWinners held.askings o.winners
  pub disk : IsDisk M drives held.records o.puts
  pub hosts : held.hosts ≤ o.hosts
