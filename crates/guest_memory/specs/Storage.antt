-- How a `Memory` keeps its pages: one flat block of bytes, its first two once more at its end, and the versions beside it.
use Rattle.std.specs.Prelude.{◌≡◌, ℕ, ◌+◌, List, length, slice_index, take}
use Rattle.guest_memory.specs.declared.memory.TheConstants.{BYTES, WRAPPED}
use Rattle.guest_memory.specs.declared.memory.Memory.TheInside.{Inside}
use Rattle.guest_memory.specs.Pages.{IsWhole, Pages}

-- the bytes that a block shows: all but those repeated after the last one
unfoldable pub bytes_of : List ℕ → List ℕ
bytes_of block = take BYTES block

-- a block goes on after its last byte with its first two
pub record WrapsAround (block : List ℕ) : Type 0 where
  pub long : length block ≡ BYTES + WRAPPED
  pub first_again : slice_index block BYTES ≡ slice_index block 0
  pub second_again : slice_index block (BYTES + 1) ≡ slice_index block 1

-- the bytes and versions that the two blocks show
abbrev pub pages_of : Inside → Pages
pages_of inside = record { bytes = bytes_of inside.bytes.items; versions = inside.versions.items }

-- what is true of the two blocks of any memory
pub record IsKept (block versions : List ℕ) : Type 0 where
  pub whole : IsWhole (record { bytes = bytes_of block; versions = versions })
  pub wraps : WrapsAround block
