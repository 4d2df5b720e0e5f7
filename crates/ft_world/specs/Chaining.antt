-- Events that happen one after another: of each one, all that is said of an event by itself.
use Rattle.std.specs.Prelude.{◌≡◌, ℕ, Bool, List, [], ◌∷◌, Option, Result, IfErr}
use Rattle.guest_parts.specs.Guest.{Guest}
use Rattle.guest_lockstep.specs.Machine.{Machine}
use Rattle.i8080_words.specs.declared.refusal.Fault.{Fault}
use Rattle.pair_events.specs.declared.event.Event.{Event}
use Rattle.pair_events.specs.declared.reply.Reply.{Reply}
use Rattle.shared_disk.specs.Failing.{before_failures}
use Rattle.shared_disk.specs.declared.store.Record.{Record}
use Rattle.ft_world.specs.Applies.{Happens, failures_told}
use Rattle.ft_world.specs.Freshened.{PagesAfter, TellsStale}
use Rattle.ft_world.specs.Running.{Running}
use Rattle.ft_world.specs.Staying.{SparesAfter, Stays}

-- an event has happened: its row, whatever was shown; how often the device failed; what a refusal leaves; the spare hosts;
-- of a freshening, how many pages are stale; and which pages are, of each node that is alone
pub record HasApplied {B H D S : Type 0} (state : B → S) (copied : B → Guest) (M : Machine S) (records : D → List Record)
    (may_fail : D → Option ℕ) (writes : S → ℕ → Bool) (stale : B → ℕ → Bool) (old : Running B H D) (e : Event)
    (answer : Result Reply Fault) (new : Running B H D) : Type 0 where
  pub row : Happens state copied M records old e answer new
  pub counted : may_fail old.disk ≡ before_failures (failures_told e answer) (may_fail new.disk)
  pub unchanged : IfErr answer (λ fault. Stays records e fault old new)
  pub spares : SparesAfter e answer old.hosts new.hosts
  pub told_stale : TellsStale stale e answer old.hosts new.hosts
  pub pages : PagesAfter state M writes stale e answer old.hosts new.hosts

-- each event has happened in the world that those before it left, with its own answer
pub data HaveApplied {B H D S : Type 0} (state : B → S) (copied : B → Guest) (M : Machine S) (records : D → List Record)
    (may_fail : D → Option ℕ) (writes : S → ℕ → Bool) (stale : B → ℕ → Bool) : Running B H D → List Event → List (Result Reply Fault) → Running B H D → Type 0 where
  Nothing : {v : Running B H D} → HaveApplied state copied M records may_fail writes stale v [] [] v
  First : {old mid new : Running B H D} {e : Event} {answer : Result Reply Fault} {events : List Event}
      {answers : List (Result Reply Fault)} → HasApplied state copied M records may_fail writes stale old e answer mid
      → HaveApplied state copied M records may_fail writes stale mid events answers new
      → HaveApplied state copied M records may_fail writes stale old (e ∷ events) (answer ∷ answers) new
