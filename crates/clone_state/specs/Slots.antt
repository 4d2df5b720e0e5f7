-- What the slots of an assembly hold, and what the payloads in them say.
use Rattle.std.specs.Prelude.{◌≡◌, ℕ, ◌+◌, ◌≤◌, IsTrue, Bool, false, ◌==◌, if◌then◌else◌, List, [], ◌∷◌, ◌++◌, length, All, IfSome, is_none, is_some, unwrap_or, slice_index_or, slice_set, vec_capacity, Option, Some, None}
use Rattle.std.specs.Global.{Vec}
use Rattle.std.specs.List.{list_all}
use Rattle.std.specs.Option.{option_map_or}
use Rattle.disk_dcdd.specs.Drive.{Drives}
use Rattle.disk_dcdd.specs.declared.controller.TheConstants.{DRIVES}
use Rattle.guest_parts.specs.Parts.{may_be_completed}
use Rattle.guest_memory.specs.declared.memory.TheConstants.{PAGES, PAGE_BYTES}
use Rattle.clone_state.specs.Assembly.{Slots}
use Rattle.clone_state.specs.Codec.{read_all}
use Rattle.clone_state.specs.Parts.{table, table_count}

-- the payload of the first part, of which no bytes are kept until it arrives
abbrev pub first_slot : List ℕ → Option (List ℕ)
first_slot bytes = if length bytes == 0 then None else Some bytes

abbrev pub slots_of : List ℕ → Slots → Slots
slots_of first later = first_slot first ∷ later

-- each payload after the first has as many bytes as a page
abbrev pub IsPage : Option (List ℕ) → Type 0
IsPage slot = IfSome slot (λ payload. length payload ≡ PAGE_BYTES)

-- a slot for each part of an image for this many drives, room for the longest first part, and pages in the others
pub record HasSlots (drives : ℕ) (first : Vec ℕ) (later : Vec (Option (List ℕ))) : Type 0 where
  pub some : 1 ≤ drives
  pub few : drives ≤ DRIVES
  pub room : 1445 ≤ vec_capacity first
  pub count : length later.items ≡ PAGES + table_count drives
  pub pages : All IsPage later.items

-- a payload fits the slot of its index, if there are this many after the first
pub record FitsSlot (count index : ℕ) (payload : List ℕ) : Type 0 where
  pub inside : index ≤ count
  pub some : 1 ≤ length payload
  pub page : 1 ≤ index → length payload ≡ PAGE_BYTES

abbrev pub is_free : Slots → ℕ → Bool
is_free slots index = is_none (slice_index_or slots index None)

-- a slot takes a payload, unless it has one
abbrev pub taken : Slots → ℕ → List ℕ → Slots
taken slots index payload = if is_free slots index then slice_set slots index (Some payload) else slots

-- ---- what the payloads say

-- the bytes of the payloads, one after another
abbrev pub bytes_at : Option (List ℕ) → List ℕ
bytes_at slot = option_map_or (λ payload. payload) slot []

abbrev pub bytes_in : Slots → List ℕ
bytes_in [] = []
bytes_in (slot ∷ slots) = bytes_at slot ++ bytes_in slots

-- the numbers of tables, one after another
abbrev pub numbers_at : Option (List ℕ) → List ℕ
numbers_at slot = option_map_or (λ payload. unwrap_or (read_all table payload) []) slot []

abbrev pub numbers_in : Slots → List ℕ
numbers_in [] = []
numbers_in (slot ∷ slots) = numbers_at slot ++ numbers_in slots

-- a table is well-formed, and each of its numbers may be the last completed write of a sector
abbrev pub fit_slots : Drives → Option (List ℕ) → Bool
fit_slots disk slot =
    option_map_or (λ payload. option_map_or (list_all (may_be_completed disk)) (read_all table payload) false) slot false

-- all pages of a memory arrived
pub record HasPages (later : Slots) : Type 0 where
  pub enough : PAGES ≤ length later
  pub full : All (λ slot. IsTrue (is_some slot)) later
  pub pages : All IsPage later
