-- The events so far have happened, each with its answer on the tape, which has as many; and the plan is for the same hosts and image.
use Rattle.std.proofs.Common.{◌≡◌}
use Rattle.pair_shell.proofs.Playing.{PlaysSo}
use Rattle.pair_shell.proofs.resting.lead.Given as goal

abbrev pub invariant-events : goal.invariant-events
invariant-events g l =
    PlaysSo g.B.Lockstep.state g.B.Copies.copied g.B.Lockstep.machine l.fn.world l._made l.tape.items l.world
    × ((l.plan.hosts ≡ l.fn.plan.hosts) × (l.plan.parts ≡ l.fn.plan.parts))
