-- The parts of an image: the first part, 256 pages of memory, and 77 tables of last completed writes a drive. How each
-- part goes in a message, and the machine that all of them make.
use Rattle.std.specs.Prelude.{ℕ, zero, suc, ◌+◌, ◌*◌, ◌==◌, nat_lt, Bool, false, if◌then◌else◌, List, [], ◌∷◌, ◌++◌, length, map, take, drop, is_some, Option, Some, None}
use Rattle.byteorder.specs.Endian.{big_bytes}
use Rattle.disk_dcdd.specs.declared.drive.TheConstants.{TRACKS}
use Rattle.disk_dcdd.specs.declared.sector.TheConstants.{SECTORS}
use Rattle.guest_parts.specs.Guest.{Guest}
use Rattle.guest_memory.specs.declared.memory.TheConstants.{PAGES, PAGE_BYTES}
use Rattle.log_entry.specs.Numbers.{◌>>=◌, generation_from}
use Rattle.clone_state.specs.Codec.{Codec, bytes, number, times, read_all}
use Rattle.clone_state.specs.Checkpoint.{Checkpoint, FirstPart, guest_of}
use Rattle.clone_state.specs.FirstPart.{first, word}
use Rattle.clone_state.specs.Possible.{fits_together}

-- ---- the payloads

-- a page of memory
unfoldable pub page : Codec (List ℕ)
page = bytes PAGE_BYTES

-- the last completed writes of the sectors of a track
unfoldable pub table : Codec (List ℕ)
table = times SECTORS number

-- how many tables an image of this many drives has, and how many parts
abbrev pub table_count : ℕ → ℕ
table_count drives = TRACKS * drives

abbrev pub part_count : ℕ → ℕ
part_count drives = 1 + (PAGES + table_count drives)

-- a list in pieces of this length
abbrev pub pieces : ℕ → ℕ → List ℕ → List (List ℕ)
pieces zero size xs = []
pieces (suc count) size xs = take size xs ∷ pieces count size (drop size xs)

-- the payload of each part
unfoldable pub later_parts : Checkpoint → List (List ℕ)
later_parts c =
    map page.spell (pieces PAGES PAGE_BYTES c.memory)
    ++ map table.spell (pieces (table_count c.first.devices.disk.attached) SECTORS c.completed)

unfoldable pub parts_of : Checkpoint → List (List ℕ)
parts_of c = first.spell c.first ∷ later_parts c

-- ---- reading them

-- what the first part says, in an image of this many drives
abbrev pub of_drives : ℕ → FirstPart → Option FirstPart
of_drives drives f = if f.devices.disk.attached == drives then Some f else None

unfoldable pub first_in : ℕ → List ℕ → Option FirstPart
first_in drives payload = read_all first payload >>= of_drives drives

-- what parts of one kind say, one after another
abbrev pub read_joined : Codec (List ℕ) → List (List ℕ) → Option (List ℕ)
read_joined c [] = Some []
read_joined c (part ∷ parts) = read_all c part >>= λ xs. read_joined c parts >>= λ rest. Some (xs ++ rest)

-- what the parts of an image of this many drives say, if each is well-formed and they fit a board together
abbrev pub fitting : Checkpoint → Option Checkpoint
fitting c = if fits_together c then Some c else None

abbrev pub read_parts : ℕ → List ℕ → List (List ℕ) → List (List ℕ) → Option Checkpoint
read_parts drives front pages tables = first_in drives front >>= λ f. read_joined page pages >>= λ memory.
    read_joined table tables >>= λ completed. fitting (record { first = f; memory = memory; completed = completed })

unfoldable pub checkpoint_in : ℕ → List (List ℕ) → Option Checkpoint
checkpoint_in drives [] = None
checkpoint_in drives (front ∷ rest) =
    if length rest == PAGES + table_count drives
    then read_parts drives front (take PAGES rest) (drop PAGES rest)
    else None

-- the machine that the parts make
unfoldable pub guest_in : ℕ → List (List ℕ) → Option Guest
guest_in drives parts = checkpoint_in drives parts >>= λ c. Some (guest_of c)

-- ---- a part in a message: 50, the generation, the index, the payload

pub record PartMessage : Type 0 where
  pub generation : ℕ
  pub index : ℕ
  pub payload : List ℕ

abbrev pub message_bytes : PartMessage → List ℕ
message_bytes m = 0x50 ∷ big_bytes 4 m.generation ++ (word.spell m.index ++ m.payload)

abbrev pub is_page : List ℕ → Bool
is_page payload = is_some (read_all page payload)

-- a payload is well-formed for its index, in an image of this many drives; no index is past the image
unfoldable pub is_payload : ℕ → ℕ → List ℕ → Bool
is_payload drives index payload =
    if index == 0 then is_some (first_in drives payload)
    else if nat_lt index (1 + PAGES) then is_page payload
    else if nat_lt index (part_count drives) then is_some (read_all table payload)
    else false

-- the part that the bytes spell, using all of them
abbrev pub checked : ℕ → PartMessage → Option PartMessage
checked drives m = if is_payload drives m.index m.payload then Some m else None

abbrev pub after_tag : ℕ → List ℕ → Option PartMessage
after_tag drives bytes = generation_from bytes >>= λ generation. word.read generation.1 >>= λ index.
    checked drives (record { generation = generation.0; index = index.0; payload = index.1 })

unfoldable pub message_at : ℕ → List ℕ → Option PartMessage
message_at drives [] = None
message_at drives (tag ∷ bytes) = if tag == 0x50 then after_tag drives bytes else None
