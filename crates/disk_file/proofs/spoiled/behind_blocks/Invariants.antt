use Rattle.std.proofs.Common.{◌≡◌, ℕ, ◌+◌, ◌*◌, length, drop}
use Rattle.disk_file.specs.Sectors.{journal_of}
use Rattle.disk_file.proofs.spoiled.behind_blocks.Given as goal

-- so many blocks were passed over
abbrev pub invariant-loop-after : goal.invariant-loop-after
invariant-loop-after l = (k : ℕ) × (l.rest ≡ drop (140 * k) l.journal)
    × (length (journal_of l.sectors l.journal) ≡ k + length (journal_of l.sectors l.rest))

abbrev pub decreases-loop-after : goal.decreases-loop-after
decreases-loop-after l = length l.rest
