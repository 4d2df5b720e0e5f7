-- The constants that the definitions cite by their names in the code.
use Rattle.std.specs.Prelude.{◌≡◌}
use Rattle.guest_memory.specs.declared.memory.TheConstants.{BYTES, PAGES, PAGE_BYTES}

-- the 8080 addresses 65,536 bytes, here 256 pages of 256
pub record Limits : Type 0 where
  pub bytes : BYTES ≡ 65536
  pub pages : PAGES ≡ 256
  pub page_bytes : PAGE_BYTES ≡ 256
