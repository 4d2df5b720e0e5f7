-- None of the inputs so far says that the write is done.
use Rattle.std.proofs.Common.{◌≡◌, ℕ, ◌<◌}
use Rattle.std.specs.Prelude.{slice_index_or}
use Rattle.guest_lockstep.specs.declared.timed.Bare.TheVariants.{Written}
use Rattle.guest_lockstep.specs.declared.timed.Timed.{Timed}
use Rattle.altair_pair.proofs.judging.is_undone.Given as goal

abbrev pub invariant-loop-timed : goal.invariant-loop-timed
invariant-loop-timed l = (k : ℕ) (d : Timed) → k < l.timed-index
    → (slice_index_or l.inputs k d).input ≡ Written l.number → ⊥
