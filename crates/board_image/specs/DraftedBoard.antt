-- A board with the draft of its image, if one was begun; and such boards as guests that can be copied.
use Rattle.std.specs.Prelude.{ℕ, Bool, refl, List, Option, Some, None}
use Rattle.std.specs.Coded.{Coded, code_by, coded×, coded_ℕ, coded_list, coded_option}
use Rattle.guest_parts.specs.Board.{OnBoard}
use Rattle.guest_lockstep.specs.Pages.{every_page}
use Rattle.clone_state.specs.Copies.{CopiesAs, image_parts}
use Rattle.board_image.specs.Drafts.{Agrees, Drafted, KeepsUp, stale_in}
use Rattle.clone_state.specs.Parts.{guest_in, part_count}

pub record WithDraft : Type 0 where
  pub board : OnBoard
  pub draft : Option Drafted

abbrev pub drafted_code : Coded Drafted
drafted_code =
    code_by (List ℕ × List (Option ℕ)) (coded× (coded_list coded_ℕ) (coded_list (coded_option coded_ℕ)))
    (λ d. (d.bytes, d.copied)) (λ p. record { bytes = p.0; copied = p.1 }) (λ _. refl)

-- boards with drafts are distinguished by both
abbrev pub with_draft_code : Coded OnBoard → Coded WithDraft
with_draft_code board =
    code_by (OnBoard × Option Drafted) (coded× board (coded_option drafted_code)) (λ d. (d.board, d.draft))
    (λ p. record { board = p.0; draft = p.1 }) (λ _. refl)

-- a draft, if there is one, is that of the board
abbrev pub KeepsUpWith : OnBoard → Option Drafted → Type 0
KeepsUpWith board None = Unit {0}
KeepsUpWith board (Some draft) = KeepsUp draft board

abbrev pub AgreesWith : OnBoard → Option Drafted → Type 0
AgreesWith board None = Unit {0}
AgreesWith board (Some draft) = Agrees draft board

-- which pages are stale: all of them if there is no draft
abbrev pub stale_with : OnBoard → Option Drafted → ℕ → Bool
stale_with board None = every_page
stale_with board (Some draft) = stale_in draft board

abbrev pub stale_on : WithDraft → ℕ → Bool
stale_on d = stale_with d.board d.draft

-- a law: the guests of boards are copied by their images
abbrev pub BoardsAreCopiedAsGuests : Type 0
BoardsAreCopiedAsGuests = (drives : ℕ) → CopiesAs (λ (d : WithDraft). d.board.guest) (λ d. d.board.guest) drives
    image_parts (part_count drives) (guest_in drives)
