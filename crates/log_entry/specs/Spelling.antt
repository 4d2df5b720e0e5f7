-- An entry in bytes: its one spelling, the values that it may have, and what bytes are read as.
use Rattle.std.specs.Prelude.{◌≡◌, ℕ, ◌^◌, ◌<◌, List, [], ◌∷◌, ◌++◌, length, Option, Some, None, nat_lt, ◌==◌, if◌then◌else◌}
use Rattle.byteorder.specs.Endian.{big_bytes}
use Rattle.log_entry.specs.declared.entry.Entry.{Entry}
use Rattle.log_entry.specs.declared.entry.Entry.TheVariants.{Mark, Rx, Sent, Sector, Written, Read}
use Rattle.log_entry.specs.Numbers.{◌>>=◌, IsBytes, number_from}

-- tag, count and fields; a number is eight bytes, highest first
abbrev pub spelling : Entry → List ℕ
spelling (Mark count) = 0 ∷ big_bytes 8 count
spelling (Rx count port byte) = 1 ∷ big_bytes 8 count ++ (port ∷ byte ∷ [])
spelling (Sent count port) = 2 ∷ big_bytes 8 count ++ (port ∷ [])
spelling (Sector count drive sector number bytes) =
    3 ∷ big_bytes 8 count ++ (drive ∷ sector ∷ big_bytes 8 number ++ bytes)
spelling (Written count number) = 4 ∷ big_bytes 8 count ++ big_bytes 8 number
spelling (Read count drive sector number) = 5 ∷ big_bytes 8 count ++ (drive ∷ sector ∷ big_bytes 8 number)

-- how many bytes the spelling of an entry with this tag has
abbrev pub size_of : ℕ → Option ℕ
size_of tag =
    if tag == 0 then Some 9
    else if tag == 1 then Some 11
    else if tag == 2 then Some 10
    else if tag == 3 then Some 156
    else if tag == 4 then Some 17
    else if tag == 5 then Some 19
    else None

-- the values that an entry may have
abbrev pub IsEntry : Entry → Type 0
IsEntry (Mark count) = count < 2 ^ 62
IsEntry (Rx count port byte) = (count < 2 ^ 62) × (port < 2) × (byte < 256)
IsEntry (Sent count port) = (count < 2 ^ 62) × (port < 2)
IsEntry (Sector count drive sector number bytes) =
    (count < 2 ^ 62) × (drive < 4) × (sector < 32) × (number < 2 ^ 62) × (length bytes ≡ 137) × IsBytes bytes
IsEntry (Written count number) = (count < 2 ^ 62) × (0 < number) × (number < 2 ^ 62)
IsEntry (Read count drive sector number) = (count < 2 ^ 62) × (drive < 4) × (sector < 32) × (number < 2 ^ 62)

-- ---- reading, from left to right, each kind by what follows its tag and its count

unfoldable pub mark_at : ℕ → List ℕ → Option Entry
mark_at count bytes = if length bytes == 0 then Some (Mark count) else None

unfoldable pub rx_at : ℕ → List ℕ → Option Entry
rx_at count (port ∷ byte ∷ []) = if nat_lt 1 port then None else Some (Rx count port byte)
rx_at count _ = None

unfoldable pub sent_at : ℕ → List ℕ → Option Entry
sent_at count (port ∷ []) = if nat_lt 1 port then None else Some (Sent count port)
sent_at count _ = None

unfoldable pub sector_at : ℕ → List ℕ → Option Entry
sector_at count (drive ∷ sector ∷ rest) =
    if nat_lt 3 drive then None
    else if nat_lt 31 sector then None
    else number_from rest >>= λ number.
    if length number.1 == 137 then Some (Sector count drive sector number.0 number.1) else None
sector_at count _ = None

unfoldable pub written_at : ℕ → List ℕ → Option Entry
written_at count bytes = number_from bytes >>= λ number.
    if number.0 == 0 then None
    else if length number.1 == 0 then Some (Written count number.0)
    else None

unfoldable pub read_at : ℕ → List ℕ → Option Entry
read_at count (drive ∷ sector ∷ rest) =
    if nat_lt 3 drive then None
    else if nat_lt 31 sector then None
    else number_from rest >>= λ number.
    if length number.1 == 0 then Some (Read count drive sector number.0) else None
read_at count _ = None

-- by the tag: each kind has exactly one
unfoldable pub fields_at : ℕ → ℕ → List ℕ → Option Entry
fields_at tag count bytes =
    if tag == 0 then mark_at count bytes
    else if tag == 1 then rx_at count bytes
    else if tag == 2 then sent_at count bytes
    else if tag == 3 then sector_at count bytes
    else if tag == 4 then written_at count bytes
    else if tag == 5 then read_at count bytes
    else None

-- the entry that the bytes spell, using all of them
unfoldable pub entry_at : List ℕ → Option Entry
entry_at [] = None
entry_at (tag ∷ bytes) = number_from bytes >>= λ count. fields_at tag count.0 count.1
