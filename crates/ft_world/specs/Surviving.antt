-- A pair survives a stop: what a whole node is answered that asks the arbiter.
use Rattle.std.specs.Prelude.{◌≡◌, List, Result, Ok, Err}
use Rattle.guest_parts.specs.Guest.{Guest}
use Rattle.guest_lockstep.specs.Machine.{Machine}
use Rattle.i8080_words.specs.declared.refusal.Fault.{Fault}
use Rattle.i8080_words.specs.declared.refusal.Fault.TheVariants.{OutOfMemory}
use Rattle.pair_protocol.specs.Node.{Node}
use Rattle.pair_protocol.specs.Survival.{MayWin}
use Rattle.shared_disk.specs.declared.store.Record.{Record}
use Rattle.pair_events.specs.declared.event.Event.{Event}
use Rattle.pair_events.specs.declared.event.Event.TheVariants as event
use Rattle.pair_events.specs.declared.reply.Reply.{Reply}
use Rattle.pair_events.specs.declared.reply.Reply.TheVariants as reply
use Rattle.ft_world.specs.Applies.{Shows}
use Rattle.ft_world.specs.Running.{Running}
use Rattle.ft_world.specs.Standing.{Course}

-- it has won, or there was no memory for its request
abbrev pub HasWonOrLacksMemory : Result Reply Fault → Type 0
HasWonOrLacksMemory (Ok r) = r ≡ reply.Won
HasWonOrLacksMemory (Err fault) = fault ≡ OutOfMemory

-- whatever world is shown, a node that may win its generation there, and asks
abbrev pub Survives : {B H D S : Type 0} → (B → S) → (B → Guest) → Machine S → (D → List Record) → Running B H D → Event
    → Result Reply Fault → Type 0
Survives {S = S} state copied M records old (event.Suspect n) answer =
    (c : Course S) → Shows state copied M records old c → (x : Node S) → MayWin c.world n x → HasWonOrLacksMemory answer
Survives state copied M records old e answer = Unit {0}
