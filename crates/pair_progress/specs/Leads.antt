-- Events that are all carried out: none is refused by the rules, memory does not run out, and the disk does not fail. What such
-- events lead to, of which kind they are, and at most how many.
use Rattle.std.specs.Prelude.{◌≡◌, ◌≢◌, ℕ, ◌≤◌, None, List, [], ◌∷◌, length}
use Rattle.guest_lockstep.specs.Machine.{Machine}
use Rattle.guest_lockstep.specs.declared.replay_end.ReplayEnd.TheVariants.{Memory}
use Rattle.guest_lockstep.specs.declared.running.StopReason.TheVariants as reason
use Rattle.i8080_words.specs.declared.refusal.Fault.{Fault}
use Rattle.i8080_words.specs.declared.refusal.Fault.TheVariants.{DeviceFault, OutOfMemory}
use Rattle.pair_events.specs.declared.event.Event.{Event}
use Rattle.pair_protocol.specs.Copying.{Copying}
use Rattle.pair_protocol.specs.Refusals.{refusal}
use Rattle.pair_protocol.specs.Reply.{Reply, Moved, Ran, Refused}
use Rattle.pair_protocol.specs.Row.{Run}
use Rattle.pair_protocol.specs.Rows.{Does}
use Rattle.pair_protocol.specs.World.{World}

-- an answer that tells of a failure: memory was refused or the disk failed, so nothing was done, or memory ran out on the way
abbrev pub Fails : Reply → Type 0
Fails (Refused OutOfMemory) = Unit {0}
Fails (Refused DeviceFault) = Unit {0}
Fails (Ran made count (reason.Refused OutOfMemory)) = Unit {0}
Fails (Moved made Memory) = Unit {0}
Fails r = ⊥

pub data CarriedOut {S : Type 0} (M : Machine S) (C : Copying S) : World S → List Event → World S → Type 0 where
  Nothing : {w : World S} → CarriedOut M C w [] w
  First : {w mid new : World S} {e : Event} {events : List Event} (r : Reply) → (Fails r → ⊥) → refusal M C w e ≡ None →
      Does M C w e r mid → CarriedOut M C mid events new → CarriedOut M C w (e ∷ events) new

-- each event is of this kind
abbrev pub Each : (Event → Type 0) → List Event → Type 0
Each Kind [] = Unit {0}
Each Kind (e ∷ events) = Kind e × Each Kind events

-- from this world at most so many events of a kind, each carried out, lead to a world of which `End` holds
pub record Leads {S : Type 0} (M : Machine S) (C : Copying S) (w : World S) (Kind : Event → Type 0) (most : ℕ)
    (End : World S → Type 0) : Type 0 where
  pub events : List Event
  pub new : World S
  pub done : CarriedOut M C w events new
  pub kind : Each Kind events
  pub few : length events ≤ most
  pub end : End new

-- none of these replies is a refusal, and none tells of a failure
abbrev pub NoneRefuses : List Reply → Type 0
NoneRefuses [] = Unit {0}
NoneRefuses (r ∷ replies) = ((fault : Fault) → r ≢ Refused fault) × NoneRefuses replies

abbrev pub NoneFails : List Reply → Type 0
NoneFails [] = Unit {0}
NoneFails (r ∷ replies) = (Fails r → ⊥) × NoneFails replies

-- events that are carried out are a run with such replies
abbrev pub CarriedOutRuns : (S : Type 0) → Type 0
CarriedOutRuns S =
    (M : Machine S) (C : Copying S) (w new : World S) (events : List Event) → CarriedOut M C w events new →
    (replies : List Reply) × Run M C w events replies new × NoneRefuses replies × NoneFails replies
