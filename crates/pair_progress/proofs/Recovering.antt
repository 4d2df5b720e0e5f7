-- First it goes live, and then it completes.
use Rattle.std.proofs.Common.{ℕ, ◌+◌, inl, inr}
use Rattle.pair_protocol.proofs.Words.{Copying, IsCopying, Lawful, Machine, Node, Reached, World}
use Rattle.pair_progress.specs.Completion.{IsAtRest, IsCompletion, Responds}
use Rattle.pair_progress.specs.Leads.{Leads}
use Rattle.pair_progress.specs.Recovery.{IsRecovery}
use Rattle.pair_progress.specs.Takeover.{IsItsOwn, IsLive, MayServe, takeover_events}
use Rattle.pair_progress.proofs.Leading.{as_kind, joined}
use Rattle.pair_progress.proofs.Resting.{completes_soon}
use Rattle.pair_progress.proofs.Takeover.{takes_over}

pub recovers : {S : Type 0} (M : Machine S) (C : Copying S) → Lawful M → IsCopying M C → Responds M → (w : World S) →
    Reached M C w → (n : ℕ) (x : Node S) → MayServe w n x →
    Leads M C w (IsRecovery n) (takeover_events x x.role + 120) (λ new. IsAtRest M new n x.generation)
recovers M C laws copies responds w r n x may =
    joined M C w (IsRecovery n) (takeover_events x x.role) (λ new. IsLive new n x.generation) 120
    (λ new. IsAtRest M new n x.generation) r
    (as_kind M C w (IsItsOwn n) (IsRecovery n) (takeover_events x x.role) (λ new. IsLive new n x.generation)
    (λ e k. inl k) (takes_over M C laws copies w r n x may))
    (λ new reached_new live. as_kind M C new (IsCompletion n) (IsRecovery n) 120 (λ new. IsAtRest M new n x.generation)
    (λ e k. inr k) (completes_soon M C laws copies responds new reached_new n x.generation live))
