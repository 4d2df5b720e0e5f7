-- None of the hosts so far is a backup of the generation.
use Rattle.std.proofs.Common.{ℕ, ◌<◌, false}
use Rattle.ft_world.specs.Applies.{Shows}
use Rattle.ft_world.specs.Standing.{Course}
use Rattle.shared_disk.specs.Failing.{records_in}
use Rattle.pair_shell.specs.Backups.{FindsBackup}
use Rattle.pair_shell.proofs.running.backup_of.Given as goal

abbrev pub invariant-loop-node : goal.invariant-loop-node
invariant-loop-node g l =
    (c : Course g.B.Lockstep.State) → Shows g.B.Lockstep.state g.B.Copies.copied g.B.Lockstep.machine records_in l.world c
    → (m : ℕ) → m < l.node → FindsBackup g.B.Lockstep.machine c.world.nodes l.fn.generation m false
