-- The image of an Altair has parts.
use Rattle.std.proofs.Common.{ℕ, ◌+◌, ◌<◌, arith}
use Rattle.altair_laws.specs.Copies.{image_copy}
use Rattle.clone_state.specs.Parts.{table_count}
use Rattle.guest_memory.specs.declared.memory.TheConstants.{PAGES}

pub some_parts : (drives : ℕ) → 0 < (image_copy drives).part_count
unfolding image_copy
some_parts drives = let e : 0 < 1 + (PAGES + table_count drives) = omega arith in e
