-- The names of the files of drives, and whether drives are in files.
use Rattle.std.specs.Prelude.{◌≡◌, ℕ, nat_eq, Bool, true, false, not, List, length, slice_get, string_bytes, String}
use Rattle.std.specs.Option.{option_map_or}
use Rattle.std.specs.declared.alloc.Global.{Global}
use Rattle.disk_file.specs.FileBytes.{is_file}
use Rattle.disk_file.specs.declared.file_device.FileDevice.{FileDevice}
use Rattle.disk_file.specs.declared.kept.FileRecords.{FileRecords}

-- a drive has a name, and not an empty one
abbrev pub is_named : List (String Global) → ℕ → Bool
is_named names drive = option_map_or (λ (name : String Global). not (nat_eq (length (string_bytes name)) 0)) (slice_get names drive) false

-- a drive that has a name is in an open file
abbrev pub IsKept : List (String Global) → List (FileRecords FileDevice) → ℕ → Type 0
IsKept names drives drive = is_named names drive ≡ true
    → option_map_or (λ (k : FileRecords FileDevice). is_file k.device) (slice_get drives drive) false ≡ true

-- the same of each of the four drives that a machine may have
pub record AreInFiles (names : List (String Global)) (drives : List (FileRecords FileDevice)) : Type 0 where
  pub first : IsKept names drives 0
  pub second : IsKept names drives 1
  pub third : IsKept names drives 2
  pub fourth : IsKept names drives 3
