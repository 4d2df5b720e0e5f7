-- The pages that were copied early: how many are stale by the reply to a freshening, and which are after an event.
use Rattle.std.specs.Prelude.{◌≡◌, ◌≢◌, ℕ, Bool, List, Option, Some, None, Result, Ok, Err, IfOk, OnOk, slice_get}
use Rattle.std.specs.Option.{option_and_then}
use Rattle.clone_state.specs.Stale.{AreCopied}
use Rattle.guest_lockstep.specs.Machine.{Machine}
use Rattle.guest_lockstep.specs.Pages.{every_page}
use Rattle.i8080_words.specs.declared.refusal.Fault.TheVariants.{OutOfMemory}
use Rattle.i8080_words.specs.declared.refusal.Fault.{Fault}
use Rattle.ft_node.specs.Pages.{PagesGoOn, SamePages, StepsWrite}
use Rattle.ft_node.specs.AnyNode.{AreFreshened, alone_board}
use Rattle.pair_events.specs.declared.event.Event.{Event}
use Rattle.pair_events.specs.declared.event.Event.TheVariants as event
use Rattle.pair_events.specs.declared.reply.Reply.{Reply}
use Rattle.pair_events.specs.declared.reply.Reply.TheVariants as reply
use Rattle.ft_world.specs.declared.host.Host.{Host}
use Rattle.ft_world.specs.declared.host.Host.TheVariants as host
use Rattle.ft_world.specs.declared.station.Station.{Station}

-- the node of this number is alone, at most this many pages of its machine were copied, and how many are still stale
pub record HostFreshened {B H : Type 0} (stale : B → ℕ → Bool) (n pages left : ℕ) (old new : List (Host B H)) : Type 0 where
  pub before : Station B H
  pub there : slice_get old n ≡ Some (host.Node before)
  pub after : Station B H
  pub then : slice_get new n ≡ Some (host.Node after)
  pub freshened : AreFreshened stale pages left before.node after.node

-- the answer to a freshening says so; other answers say nothing of it
abbrev pub TellsStale : {B H : Type 0} → (B → ℕ → Bool) → Event → Result Reply Fault → List (Host B H) → List (Host B H)
    → Type 0
TellsStale stale (event.Freshen n pages) (Ok (reply.Stale left)) old new = HostFreshened stale n pages left old new
TellsStale stale e answer old new = Unit {0}

-- ---- the pages of each node that is alone

-- the guest of a host whose node is alone
abbrev pub alone_on : {B H : Type 0} → Host B H → Option B
alone_on (host.Node station) = alone_board station.node
alone_on (host.Spare resources) = None

abbrev pub alone_at : {B H : Type 0} → List (Host B H) → ℕ → Option B
alone_at hosts n = option_and_then alone_on (slice_get hosts n)

-- those of this node go on by a rule, and those of every other node are as they were
pub record PagesChange {B H : Type 0} (stale : B → ℕ → Bool) (rule : B → B → Type 0) (n : ℕ) (old new : List (Host B H)) : Type 0 where
  pub here : PagesGoOn stale rule (alone_at old n) (alone_at new n)
  pub others : (k : ℕ) → k ≢ n → PagesGoOn stale (SamePages stale) (alone_at old k) (alone_at new k)

abbrev pub PagesKeep : {B H : Type 0} → (B → ℕ → Bool) → List (Host B H) → List (Host B H) → Type 0
PagesKeep stale old new = (k : ℕ) → PagesGoOn stale (SamePages stale) (alone_at old k) (alone_at new k)

-- the steps that were made, by the reply
abbrev pub steps_in : Reply → ℕ
steps_in (reply.Ran steps count why) = steps
steps_in r = 0

-- the lowest stale pages are copied; there is no memory only for a draft that would begin
abbrev pub LowestAreCopied : {B : Type 0} → (B → ℕ → Bool) → ℕ → B → B → Type 0
LowestAreCopied stale pages before now = AreCopied pages (stale before) (stale now)

abbrev pub Freshens : {B H : Type 0} → (B → ℕ → Bool) → ℕ → ℕ → Result Reply Fault → List (Host B H) → List (Host B H) → Type 0
Freshens stale n pages (Ok r) old new = PagesChange stale (LowestAreCopied stale pages) n old new
Freshens {B} stale n pages (Err OutOfMemory) old new = (board : B) → alone_at old n ≡ Some board → stale board ≡ every_page
Freshens stale n pages (Err fault) old new = Unit {0}

-- what an event leaves of them: only steps and a freshening change them
abbrev pub PagesAfter : {B H S : Type 0} → (B → S) → Machine S → (S → ℕ → Bool) → (B → ℕ → Bool) → Event → Result Reply Fault
    → List (Host B H) → List (Host B H) → Type 0
PagesAfter state M writes stale (event.Step n turns) answer old new =
    IfOk answer (λ r. PagesChange stale (StepsWrite state M writes stale (steps_in r)) n old new)
PagesAfter state M writes stale (event.Freshen n pages) answer old new = Freshens stale n pages answer old new
PagesAfter state M writes stale e answer old new = OnOk answer (PagesKeep stale old new)
