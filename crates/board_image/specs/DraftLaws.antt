-- Drafts over time: what stays true of a draft while its board makes steps and takes inputs.
use Rattle.std.specs.Prelude.{◌≡◌, ℕ, ◌-◌, ◌<◌, ◌≤◌, length, Some, Result}
use Rattle.i8080_words.specs.declared.refusal.Fault.{Fault}
use Rattle.guest_memory.specs.Pages.{Pages, byte_at, page_of, version_at}
use Rattle.guest_memory.specs.declared.memory.TheConstants.{BYTES, PAGES}
use Rattle.guest_parts.specs.Board.{IsBoard, OnBoard}
use Rattle.guest_parts.specs.Guest.{Guest}
use Rattle.guest_board.specs.Guest.{take_from}
use Rattle.guest_board.specs.Stepping.{guest_after, versions_after_answer}
use Rattle.guest_board.specs.declared.executed.Executed.{Executed}
use Rattle.guest_lockstep.specs.declared.input.Input.{Input}
use Rattle.board_image.specs.Drafts.{Drafted, IsFreshened, KeepsUp, nothing_copied, stale_pages}

-- the memory of a board
abbrev pub memory_of : OnBoard → Pages
memory_of board = record { bytes = board.guest.memory; versions = board.versions }

-- no version has fallen, and a page whose version is the same has the same bytes
pub record IsLater (old new : Pages) : Type 0 where
  pub versions : (page : ℕ) → version_at old page ≤ version_at new page
  pub bytes : (address : ℕ) → address < BYTES → version_at new (page_of address) ≡ version_at old (page_of address)
      → byte_at new address ≡ byte_at old address

-- what a step returns, and the board after it
abbrev pub board_after : Result Executed Fault → OnBoard → OnBoard
board_after answer board = record {
  guest = guest_after answer board.guest;
  versions = versions_after_answer answer board.guest board.versions;
}

-- a new draft is one of any board, with every page stale; it stays one when k stale pages are copied, and k fewer are stale
pub record DraftsBegin : Type 0 where
  pub keeps_up : (board : OnBoard) → KeepsUp nothing_copied board
  pub stale : (board : OnBoard) → stale_pages nothing_copied board ≡ PAGES
  pub freshens : (k : ℕ) (board : OnBoard) (old new : Drafted) → IsFreshened k board old new → KeepsUp old board
      → KeepsUp new board
  pub fewer : (k : ℕ) (board : OnBoard) (old new : Drafted) → IsFreshened k board old new
      → stale_pages new board ≡ stale_pages old board - k

-- it stays one while the board moves: a write raises its page's version, an input writes nothing
pub record DraftsKeepUp : Type 0 where
  pub keeps_up : (draft : Drafted) (old new : OnBoard) → IsLater (memory_of old) (memory_of new) → KeepsUp draft old
      → KeepsUp draft new
  pub steps : (board : OnBoard) (answer : Result Executed Fault) → IsBoard board.guest board.versions
      → length board.versions ≡ PAGES → IsLater (memory_of board) (memory_of (board_after answer board))
  pub inputs : (board : OnBoard) (input : Input) (guest : Guest) → take_from board.guest input ≡ Some guest
      → IsLater (memory_of board) (memory_of (record { guest = guest; versions = board.versions }))
  pub each : (old next new : Pages) → IsLater old next → IsLater next new → IsLater old new
