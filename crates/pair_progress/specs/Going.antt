-- Going on: a node that serves makes a step whenever its guest does, and takes the next key that was typed.
use Rattle.std.specs.Prelude.{◌≡◌, ℕ, suc, ◌<◌, Some, [], ◌∷◌, length, slice_get}
use Rattle.guest_lockstep.specs.Lockstep.{step_refusal}
use Rattle.guest_lockstep.specs.Machine.{Machine}
use Rattle.pair_events.specs.declared.event.Event.TheVariants.{Step, TakeKey}
use Rattle.pair_protocol.specs.Copying.{Copying}
use Rattle.pair_protocol.specs.Lawful.{top}
use Rattle.pair_protocol.specs.Node.{Node}
use Rattle.pair_protocol.specs.Refusals.{refusal}
use Rattle.pair_protocol.specs.World.{World, terminal}
use Rattle.pair_progress.specs.Leads.{CarriedOut, Leads}
use Rattle.pair_progress.specs.CatchingUp.{IsCaughtUp}
use Rattle.pair_progress.specs.Takeover.{IsItsOwn, IsLive, MayServe, takeover_events}

-- a node with this machine refuses a step only if its guest does, which is spent or idles; and it takes the next key of a
-- port, if one is typed and a number is left for it
pub record MayGoOn {S : Type 0} (M : Machine S) (C : Copying S) (w : World S) (n : ℕ) (x : Node S) : Type 0 where
  pub steps : (turns : ℕ) → refusal M C w (Step n (suc turns)) ≡ step_refusal M x.machine
  pub keys : (port byte : ℕ) → port < 2 → M.keys x.machine port < top →
      slice_get (terminal w port).typed (M.keys x.machine port) ≡ Some byte →
      (new : World S) × CarriedOut M C w (TakeKey n port (M.keys x.machine port) ∷ []) new

-- a live node goes on
abbrev pub LiveGoesOn : {S : Type 0} → Machine S → Copying S → World S → Type 0
LiveGoesOn M C w = (n generation : ℕ) (live : IsLive w n generation) → MayGoOn M C w n live.x

-- and so does the primary of a pair of which all that is logged is acknowledged, while an index is left for an entry
abbrev pub CaughtUpGoesOn : {S : Type 0} → Machine S → Copying S → World S → Type 0
CaughtUpGoesOn M C w = (n m generation : ℕ) (all : IsCaughtUp w n m generation) → length all.pair.x.log < top →
    MayGoOn M C w n all.pair.x

-- so whatever happened before, a node that may still serve goes on after a few events of its own
pub record IsGoingOn {S : Type 0} (M : Machine S) (C : Copying S) (w : World S) (n generation : ℕ) : Type 0 where
  pub live : IsLive w n generation
  pub goes_on : MayGoOn M C w n live.x

abbrev pub ServesOn : {S : Type 0} → Machine S → Copying S → World S → Type 0
ServesOn {S} M C w = (n : ℕ) (x : Node S) → MayServe w n x →
    Leads M C w (IsItsOwn n) (takeover_events x x.role) (λ new. IsGoingOn M C new n x.generation)
