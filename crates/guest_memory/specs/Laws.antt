-- What users of memory may rely on.
use Rattle.std.specs.Prelude.{◌≡◌, ◌≢◌, ℕ, ◌+◌, ◌-◌, ◌*◌, ◌^◌, ◌<◌, List, ◌++◌, take}
use Rattle.guest_memory.specs.declared.memory.TheConstants.{BYTES, PAGES, PAGE_BYTES}
use Rattle.guest_memory.specs.Pages.{Pages, byte_at, page_of, page_bytes, version_at, written}

-- a written byte is read at its address, and every other byte is unchanged
pub record ReadsBack (memory : Pages) : Type 0 where
  pub there : (address byte : ℕ) → address < BYTES → byte_at (written memory address byte) address ≡ byte
  pub elsewhere : (address byte other : ℕ) → other ≢ address
      → byte_at (written memory address byte) other ≡ byte_at memory other

-- a write raises its page's version by one if there is room, and leaves every other version unchanged
pub record CountsWrites (memory : Pages) : Type 0 where
  pub its_page : (address byte : ℕ) → address < BYTES → version_at memory (page_of address) < 2 ^ 64 - 1
      → version_at (written memory address byte) (page_of address) ≡ version_at memory (page_of address) + 1
  pub other_pages : (address byte page : ℕ) → page ≢ page_of address
      → version_at (written memory address byte) page ≡ version_at memory page

-- the bytes below a page
abbrev pub bytes_below : Pages → ℕ → List ℕ
bytes_below memory page = take (page * PAGE_BYTES) memory.bytes

-- each page continues where the bytes below it end, and the last one ends them
pub record JoinsItsPages (memory : Pages) : Type 0 where
  pub each_page : (page : ℕ) → bytes_below memory page ++ page_bytes memory page ≡ bytes_below memory (page + 1)
  pub all_pages : bytes_below memory PAGES ≡ memory.bytes
