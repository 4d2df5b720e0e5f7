-- The takeover of the example, step by step.
use Rattle.std.proofs.Common.{[], ◌∙◌, ◌∷◌, ◌≡◌, Some, arith, inl, inr, refl, subst, suc, zero, ℕ}
use Rattle.std.specs.Prelude.{slice_get}
use Rattle.guest_lockstep.specs.declared.replay_end.ReplayEnd.TheVariants.{End}
use Rattle.pair_protocol.specs.Effects.{Drained, NoTurns, Replayed}
use Rattle.pair_protocol.specs.Node.{first_node}
use Rattle.pair_protocol.proofs.Traces.Lists.{same_some}
use Rattle.host_law.specs.Examples.{taken_over, takeover}
use Rattle.host_law.specs.Frame.{quiet, sending, taking}
use Rattle.host_law.specs.Host as host
use Rattle.host_law.specs.Outside as outside
use Rattle.host_law.proofs.Interleaving.{other-acts}
use Rattle.host_law.proofs.Words.{AsksArbiter, Backup, Copying, HasWon, Happened, HostRun, Machine, Node, OfHost, Primary, Reads, acts_of, booted, goes_live, halts, wins}

module _ {S : Type 0} (M : Machine S) (C : Copying S) (reads : Reads) where
  abbrev x0 : Node S
  x0 = first_node M reads Primary

  abbrev x1 : Node S
  x1 = first_node M reads Backup

  nothing-left : Replayed M 0 0 End (wins x1) (wins x1)
  nothing-left = record { moves = NoTurns; some = inr (inl refl); ends = refl }

  drained : Drained M 0 0 End (wins x1) (goes_live (wins x1))
  drained = record { z = wins x1; replayed = nothing-left; after = refl }

  first : HostRun M C 0 x0 (quiet ∷ []) (halts x0)
  first = host.Goes (host.Stops (halts x0) refl refl) host.Rests

  second : HostRun M C 1 x1 (sending (AsksArbiter 1 1) ∷ taking (HasWon 1 1) ∷ quiet ∷ []) (goes_live (wins x1))
  second =
      host.Goes (host.Asks refl)
      (host.Goes (host.Wins refl (inr refl)) (host.Goes (host.Drains 0 0 End (goes_live (wins x1)) refl drained) host.Rests))

  hosts : (n : ℕ) (x : Node S) → slice_get (booted M reads 0).hosts n ≡ Some x →
      (y : Node S) × (slice_get (taken_over M reads).hosts n ≡ Some y) × HostRun M C n x (acts_of n takeover) y
  hosts zero x e = (
    halts x0,
    refl,
    subst (λ (z : Node S). HostRun M C 0 z (quiet ∷ []) (halts x0)) (same_some x0 x (Some x0) refl e) first,
  )
  hosts (suc zero) x e = (
    goes_live (wins x1),
    refl,
    subst
        (λ (z : Node S). HostRun M C 1 z (sending (AsksArbiter 1 1) ∷ taking (HasWon 1 1) ∷ quiet ∷ [])
        (goes_live (wins x1)))
        (same_some x1 x (Some x1) refl e) second,
  )
  hosts (suc (suc n)) x e = absurd (cc)

  pub takes-over : Happened M C (booted M reads 0) takeover (taken_over M reads)
  takes-over = record {
    hosts = hosts;
    many = refl;
    others = λ n out.
        other-acts 0 n quiet
        (OfHost 1 (sending (AsksArbiter 1 1)) ∷ OfHost 1 (taking (HasWon 1 1)) ∷ OfHost 1 quiet ∷ []) (λ e. omega (arith, out, e))
        ∙ other-acts 1 n (sending (AsksArbiter 1 1)) (OfHost 1 (taking (HasWon 1 1)) ∷ OfHost 1 quiet ∷ []) (λ e. omega (arith, out, e))
        ∙ other-acts 1 n (taking (HasWon 1 1)) (OfHost 1 quiet ∷ []) (λ e. omega (arith, out, e))
        ∙ other-acts 1 n quiet [] (λ e. omega (arith, out, e));
    outside = outside.Goes (outside.IsFirst 1 1 refl) outside.Rests;
    causal = (tt, (tt, ((inl refl, tt), ((inr (inl refl), tt), (tt, tt)))));
    sent = refl;
  }
