-- These are attached so far.
use Rattle.std.proofs.Common.{◌≡◌, ◌≤◌, ℕ, take}
use Rattle.command_io.specs.Inputs.{drives_with}
use Rattle.command_io.proofs.input.drives_with.Given as goal

-- so many of them
pub record AreAttached (drives : ℕ) (count : ℕ) : Type 0 where
  pub are : drives ≡ count
  pub some : 1 ≤ drives
  pub few : drives ≤ 4

abbrev pub invariant-loop-drive : goal.invariant-loop-drive
invariant-loop-drive l = AreAttached l.count (drives_with (take l.drive-index l.drives) l.attached)
