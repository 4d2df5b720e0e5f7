-- Which world of the protocol a fleet shows.
use Rattle.std.specs.Prelude.{◌≡◌, ◌≢◌, ℕ, ◌<◌, ◌≤◌, ◌⊎◌, Option, Some, None, List, length, slice_get}
use Rattle.event_callbacks.specs.declared.devices.TheConstants.{PORTS}
use Rattle.guest_lockstep.specs.Machine.{Machine}
use Rattle.pair_protocol.specs.Change.{Reached}
use Rattle.pair_protocol.specs.Copying.{Copying}
use Rattle.pair_protocol.specs.Lawful.{Among}
use Rattle.pair_protocol.specs.Node.{Node, Joining, Spare}
use Rattle.pair_protocol.specs.World.{Terminal, Winner, World, accepted, terminal, terminal_in, winner_in}
use Rattle.host_law.specs.Fleet.{Fleet}
use Rattle.host_law.specs.Frame.{Frame, Carries, AsksSector, TellsKeys, AsksArbiter, Key, AreAccepted, HasWon, HasLost, MayBegin, Recruits}
use Rattle.host_law.specs.Host.{recruit}
use Rattle.host_law.specs.Outside.{Outside}

-- a terminal has what the world's has, and was told of no more keys: what it is told may be on its way
pub record IsTerminal (screen t : Terminal) : Type 0 where
  pub arrivals : screen.arrivals ≡ t.arrivals
  pub typed : screen.typed ≡ t.typed
  pub told : screen.told ≤ t.told

-- the same of both
pub record AreTerminals (screens terminals : List Terminal) : Type 0 where
  pub ports : length screens ≡ PORTS
  pub count : length terminals ≡ PORTS
  pub each : (port : ℕ) → IsTerminal (terminal_in screens port) (terminal_in terminals port)

-- the arbiter's winner of a generation is the world's once it has been told so
abbrev pub AreTold : List Winner → List Winner → Type 0
AreTold ours winners = (generation n : ℕ) → winner_in winners generation ≡ Some n → winner_in ours generation ≡ Some n

-- a host has the world's node, or is spare and has yet to hear of the generation that it joins
abbrev pub IsShown : {S : Type 0} → Node S → Node S → Type 0
IsShown x z = (x ≡ z) ⊎ ((x.role ≡ Spare) × (z.role ≡ Joining))

-- the same at a place, where neither may be
abbrev pub IsShownAt : {S : Type 0} → Option (Node S) → Option (Node S) → Type 0
IsShownAt (Some x) (Some z) = IsShown x z
IsShownAt None None = Unit {0}
IsShownAt _ _ = ⊥

-- a host joins the generation of its number, and no earlier one
abbrev pub IsNumbered : {S : Type 0} → ℕ → Node S → Type 0
IsNumbered n z = (z.role ≡ Spare) ⊎ (n ≤ z.generation)

-- what a frame says is so
abbrev pub Tells : {S : Type 0} → Machine S → Copying S → List (Node S) → World S → Outside → Frame → Type 0
Tells M C hosts w o (Carries message) = Among message w.messages
Tells M C hosts w o (AsksSector address) = Unit {0}
Tells M C hosts w o (TellsKeys port keys) = keys ≤ (terminal w port).told
Tells M C hosts w o (AsksArbiter host generation) = Unit {0}
Tells M C hosts w o (Key port index byte) = slice_get (terminal w port).typed index ≡ Some byte
Tells M C hosts w o (AreAccepted port count) = count ≤ length (accepted w port)
Tells M C hosts w o (HasWon generation host) = winner_in o.winners generation ≡ Some host
Tells M C hosts w o (HasLost generation host) =
    (other : ℕ) × (winner_in o.winners generation ≡ Some other) × (other ≢ host)
Tells M C hosts w o (MayBegin generation) = generation < o.hosts
Tells {S} M C hosts w o (Recruits generation count reads list) =
    (x : Node S) → slice_get hosts generation ≡ Some x → x.role ≡ Spare →
    slice_get w.nodes generation ≡ Some (recruit M C generation count reads list)

-- a fleet shows a reached world
pub record Shows {S : Type 0} (M : Machine S) (C : Copying S) (f : Fleet S) (w : World S) : Type 0 where
  pub reached : Reached M C w
  pub nodes : (n : ℕ) → IsShownAt (slice_get f.hosts n) (slice_get w.nodes n)
  pub numbered : (n : ℕ) (z : Node S) → slice_get w.nodes n ≡ Some z → IsNumbered n z
  pub terminals : AreTerminals f.outside.terminals w.terminals
  pub winners : AreTold f.outside.winners w.winners
  pub puts : f.outside.puts ≡ w.puts
  pub hosts : f.outside.hosts ≡ length f.hosts
  pub frames : (frame : Frame) → Among frame f.sent → Tells M C f.hosts w f.outside frame
