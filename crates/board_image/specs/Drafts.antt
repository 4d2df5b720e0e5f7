-- Pages that are copied before their image is asked for: which are stale, which are copied next, and when a draft is that
-- of a board.
use Rattle.std.specs.Prelude.{◌≡◌, ℕ, ◌<◌, ◌≤◌, ◌==◌, ◌-◌, nat_lt, Bool, true, not, ◌&&◌, if◌then◌else◌, List, length, replicate, slice_index, slice_index_or, Option, Some, None}
use Rattle.guest_memory.specs.Pages.{page_of, zeros}
use Rattle.guest_memory.specs.declared.memory.TheConstants.{BYTES, PAGES}
use Rattle.guest_parts.specs.Board.{OnBoard}
use Rattle.clone_state.specs.Stale.{count_below, stale_count}

-- the bytes that were copied, by address, and the version at which each page was copied
pub record Drafted : Type 0 where
  pub bytes : List ℕ
  pub copied : List (Option ℕ)

-- there is room for every byte and every page
pub record HasRoom (draft : Drafted) : Type 0 where
  pub bytes : length draft.bytes ≡ BYTES
  pub pages : length draft.copied ≡ PAGES

-- no page of this many is copied
unfoldable pub none_copied : ℕ → List (Option ℕ)
none_copied pages = replicate pages None

abbrev pub nothing_copied : Drafted
nothing_copied = record { bytes = zeros BYTES; copied = none_copied PAGES }

-- the version at which a page was copied, if it was
abbrev pub copied_at : Drafted → ℕ → Option ℕ
copied_at draft page = slice_index_or draft.copied page None

-- the version of a page of the board
abbrev pub version_of : OnBoard → ℕ → ℕ
version_of board page = slice_index board.versions page

-- ---- stale pages

-- copied at another version than this, or never
abbrev pub is_old : Option ℕ → ℕ → Bool
is_old None version = true
is_old (Some copied) version = not (copied == version)

-- a page is stale until it is copied, and after each write to it
abbrev pub is_stale : Drafted → OnBoard → ℕ → Bool
is_stale draft board page = is_old (copied_at draft page) (version_of board page)

-- the stale pages of a board with this draft
abbrev pub stale_in : Drafted → OnBoard → ℕ → Bool
stale_in draft board = λ page. is_stale draft board page

-- how many of the pages below this one are stale
abbrev pub stale_below : Drafted → OnBoard → ℕ → ℕ
stale_below draft board page = count_below (stale_in draft board) page

abbrev pub stale_pages : Drafted → OnBoard → ℕ
stale_pages draft board = stale_count (stale_in draft board)

-- ---- copies

-- a page is one of the k lowest stale pages
abbrev pub is_next : ℕ → Drafted → OnBoard → ℕ → Bool
is_next k draft board page = is_stale draft board page && nat_lt (stale_below draft board page) k

-- the k lowest stale pages were copied, and no other
pub record IsFreshened (k : ℕ) (board : OnBoard) (old new : Drafted) : Type 0 where
  pub versions : (page : ℕ) → page < PAGES
      → copied_at new page ≡ (if is_next k old board page then Some (version_of board page) else copied_at old page)
  pub bytes : (address : ℕ) → address < BYTES → slice_index new.bytes address
      ≡ (if is_next k old board (page_of address) then slice_index board.guest.memory address else slice_index old.bytes address)

-- of the first n pages the k lowest stale ones were copied; `left` more may be, and `stale` are still stale
pub record HasCopied (k : ℕ) (board : OnBoard) (old : Drafted) (n : ℕ) (new : Drafted) (left stale : ℕ) : Type 0 where
  pub room : HasRoom new
  pub versions : (page : ℕ) → page < n
      → copied_at new page ≡ (if is_next k old board page then Some (version_of board page) else copied_at old page)
  pub later : (page : ℕ) → n ≤ page → copied_at new page ≡ copied_at old page
  pub bytes : (address : ℕ) → page_of address < n → slice_index new.bytes address
      ≡ (if is_next k old board (page_of address) then slice_index board.guest.memory address else slice_index old.bytes address)
  pub rest : (address : ℕ) → n ≤ page_of address → slice_index new.bytes address ≡ slice_index old.bytes address
  pub can : left ≡ k - stale_below old board n
  pub waiting : stale ≡ stale_below old board n - k
  pub few : stale ≤ n

-- ---- drafts of a board

-- the condition of a draft's calls: a page that was copied at its present version is the board's
pub record Agrees (draft : Drafted) (board : OnBoard) : Type 0 where
  pub bytes : (address : ℕ) → address < BYTES
      → copied_at draft (page_of address) ≡ Some (version_of board (page_of address))
      → slice_index draft.bytes address ≡ slice_index board.guest.memory address

-- and no page was copied at a later version than the present one
pub record KeepsUp (draft : Drafted) (board : OnBoard) : Type 0 where
  pub agrees : Agrees draft board
  pub past : (page version : ℕ) → page < PAGES → copied_at draft page ≡ Some version → version ≤ version_of board page
