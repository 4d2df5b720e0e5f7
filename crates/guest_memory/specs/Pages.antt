-- The guest's memory: 65,536 bytes in 256 pages, and how often each page was written.
use Rattle.std.specs.Prelude.{◌≡◌, ℕ, ◌+◌, ◌*◌, ◌/◌, ◌%◌, ◌^◌, ◌<◌, List, length, replicate, slice_index, slice_range, slice_set}
use Rattle.guest_memory.specs.declared.memory.TheConstants.{BYTES, PAGES, PAGE_BYTES}

-- the bytes by address, and the versions by page
pub record Pages : Type 0 where
  pub bytes : List ℕ
  pub versions : List ℕ

-- the byte at an address
abbrev pub byte_at : Pages → ℕ → ℕ
byte_at memory address = slice_index memory.bytes address

-- the page of an address: its high byte
abbrev pub page_of : ℕ → ℕ
page_of address = address / PAGE_BYTES

-- the bytes of a page, lowest address first
abbrev pub page_bytes : Pages → ℕ → List ℕ
page_bytes memory page = slice_range memory.bytes (page * PAGE_BYTES) (page * PAGE_BYTES + PAGE_BYTES)

-- how often a page was written
abbrev pub version_at : Pages → ℕ → ℕ
version_at memory page = slice_index memory.versions page

-- every address has a byte and every page a version, each within its width
pub record IsWhole (memory : Pages) : Type 0 where
  pub every_address : length memory.bytes ≡ BYTES
  pub bytes_fit : (address : ℕ) → byte_at memory address < 2 ^ 8
  pub every_page : length memory.versions ≡ PAGES
  pub versions_fit : (page : ℕ) → version_at memory page < 2 ^ 64

-- this many zeros
unfoldable pub zeros : ℕ → List ℕ
zeros count = replicate count 0

-- these bytes, no page written yet
abbrev pub unwritten : List ℕ → Pages
unwritten bytes = record { bytes = bytes; versions = zeros PAGES }

-- every byte 00, no page written yet
abbrev pub cleared : Pages
cleared = unwritten (zeros BYTES)

-- the versions after a write to a page, each kept modulo 2^64
abbrev pub raised : List ℕ → ℕ → List ℕ
raised versions page = slice_set versions page ((slice_index versions page + 1) % 2 ^ 64)

-- after a write: the byte is at its address, and its page was written once more
abbrev pub written : Pages → ℕ → ℕ → Pages
written memory address byte = record {
  bytes = slice_set memory.bytes address byte;
  versions = raised memory.versions (page_of address);
}
