-- A row: an event, its reply or refusal, and the world after it. And whole runs.
use Rattle.std.specs.Prelude.{◌≡◌, ℕ, IsTrue, Some, None, List, [], ◌∷◌}
use Rattle.guest_lockstep.specs.Machine.{Machine}
use Rattle.i8080_words.specs.declared.refusal.Fault.{Fault}
use Rattle.i8080_words.specs.declared.refusal.Fault.TheVariants.{Lost, DeviceFault, OutOfMemory}
use Rattle.pair_events.specs.declared.event.Event.{Event}
use Rattle.pair_events.specs.declared.event.Event.TheVariants.{Suspect}
use Rattle.pair_protocol.specs.Copying.{Copying}
use Rattle.pair_protocol.specs.Effects.{Halted}
use Rattle.pair_protocol.specs.Refusals.{refusal}
use Rattle.pair_protocol.specs.Reply.{Reply, Refused}
use Rattle.pair_protocol.specs.Rows.{AtNode, Does, MayNeedMemory, is_disk}
use Rattle.pair_protocol.specs.World.{World, with_host}

-- a node that asked the arbiter and lost is halted; any other refused event leaves the world as it was
abbrev pub Leaves : {S : Type 0} → World S → Event → Fault → World S → Type 0
Leaves w (Suspect n) Lost new = AtNode w n Halted new
Leaves w e fault new = new ≡ w

pub data Row {S : Type 0} (M : Machine S) (C : Copying S) (w : World S) (e : Event) : Reply → World S → Type 0 where
  Accepts : {r : Reply} {new : World S} → refusal M C w e ≡ None → Does M C w e r new → Row M C w e r new
  Refuses : {fault : Fault} {new : World S} → refusal M C w e ≡ Some fault → Leaves w e fault new →
      Row M C w e (Refused fault) new
  -- the disk failed
  DeviceFails : refusal M C w e ≡ None → IsTrue (is_disk e) → Row M C w e (Refused DeviceFault) w
  -- an allocation was refused
  NeedsMemory : refusal M C w e ≡ None → MayNeedMemory M w e → Row M C w e (Refused OutOfMemory) w

-- a whole run: one reply for each event; hosts may be added at any time
pub data Run {S : Type 0} (M : Machine S) (C : Copying S) : World S → List Event → List Reply → World S → Type 0 where
  Nothing : {w : World S} → Run M C w [] [] w
  First : {w mid new : World S} {e : Event} {events : List Event} {r : Reply} {replies : List Reply} →
      Row M C w e r mid → Run M C mid events replies new → Run M C w (e ∷ events) (r ∷ replies) new
  HostComes : {w new : World S} {events : List Event} {replies : List Reply} →
      Run M C (with_host M w) events replies new → Run M C w events replies new
