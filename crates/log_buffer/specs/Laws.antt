-- What users of a log may rely on.
use Rattle.std.specs.Prelude.{◌≡◌, ℕ, ◌<◌, ◌≤◌, Some}
use Rattle.log_entry.specs.declared.entry.Entry.{Entry}
use Rattle.log_buffer.specs.Log.{Log, next_of, kept_at, pushed, dropped_to}

-- a pushed entry is at the index that was next, and the others stay where they were; dropping entries moves none that is
-- kept
pub record KeepsIndexes (l : Log) : Type 0 where
  pub comes : (entry : Entry) → kept_at (pushed l entry) (next_of l) ≡ Some entry
  pub others : (entry : Entry) (index : ℕ) → index < next_of l → kept_at (pushed l entry) index ≡ kept_at l index
  pub stays : (from index : ℕ) → from ≤ index → kept_at (dropped_to l from) index ≡ kept_at l index
