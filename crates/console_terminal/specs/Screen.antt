-- What appears on the screen: the guest's bytes, of the terminal that one looks at, and what is said beside them.
use Rattle.std.specs.Prelude.{◌≡◌, ℕ, ◌==◌, Bool, true, false, if◌then◌else◌, filter, flat_map, map, not, List, [], ◌∷◌, ◌++◌, Option, None, Some, codes, string_bytes}
use Rattle.std.specs.Io.KnownBytes.{Appends}
use Rattle.std.specs.Global.{Global}
use Rattle.std.specs.declared.string.String.{String}
use Rattle.console_terminal.specs.Editing.{redrawn_text}
use Rattle.console_terminal.specs.Lines.{shown_at}
use Rattle.console_terminal.specs.declared.screen.Shown.{Shown}
use Rattle.rtrb.specs.Ring.{SameConsumer, known_items, received}
use Rattle.console_terminal.specs.Commands.{mistake_text, number_of_port}
use Rattle.console_terminal.specs.Completing.{words_for}
use Rattle.console_terminal.specs.declared.note.DisplayNote.{DisplayNote}
use Rattle.console_terminal.specs.declared.port.Port.{Port}
use Rattle.console_terminal.specs.declared.display.Display.{Display}

-- CR LF and a text
abbrev pub on_a_line : List ℕ → List ℕ
on_a_line text = 13 ∷ 10 ∷ text

-- what is written of a note
abbrev pub text_of : DisplayNote → List ℕ
text_of DisplayNote.Opened = on_a_line (codes "pair> ")
text_of (DisplayNote.Redraws redraw) = redrawn_text redraw
text_of (DisplayNote.Lists redraw) =
    on_a_line (words_for redraw.text.items ++ (on_a_line (codes "pair> ") ++ redrawn_text redraw))
text_of (DisplayNote.Mistaken mistake) = on_a_line (mistake_text mistake)
text_of (DisplayNote.Answered text) = on_a_line (string_bytes text)
text_of (DisplayNote.Closed port) = on_a_line []

-- what is written, piece by piece
pub data Piece : Type 0 where
  -- a byte of the guest
  Guest : Shown → Piece
  -- what becomes of the command line
  Said : DisplayNote → Piece
  -- a line about the pair
  Told : String Global → Piece

-- the guest's byte that a piece is, and so on
abbrev pub guest_of : Piece → List Shown
guest_of (Piece.Guest s) = s ∷ []
guest_of (Piece.Said n) = []
guest_of (Piece.Told t) = []

abbrev pub said_of : Piece → List DisplayNote
said_of (Piece.Guest s) = []
said_of (Piece.Said n) = n ∷ []
said_of (Piece.Told t) = []

abbrev pub told_of : Piece → List (String Global)
told_of (Piece.Guest s) = []
told_of (Piece.Said n) = []
told_of (Piece.Told t) = t ∷ []

abbrev pub beside_of : Piece → List ℕ
beside_of (Piece.Guest s) = []
beside_of (Piece.Said n) = text_of n
beside_of (Piece.Told t) = string_bytes t

-- those among some pieces
abbrev pub guest_in : List Piece → List Shown
guest_in pieces = flat_map guest_of pieces

abbrev pub said_in : List Piece → List DisplayNote
said_in pieces = flat_map said_of pieces

abbrev pub told_in : List Piece → List (String Global)
told_in pieces = flat_map told_of pieces

-- what goes to the screen, and what goes beside it
abbrev pub bytes_of : List Piece → List ℕ
bytes_of pieces = map (λ (s : Shown). s.byte) (guest_in pieces)

abbrev pub texts_of : List Piece → List ℕ
texts_of pieces = flat_map beside_of pieces

-- which terminal one looks at after a note
abbrev pub look_after : Option Port → DisplayNote → Option Port
look_after look DisplayNote.Opened = None
look_after look (DisplayNote.Closed port) = Some port
look_after look _ = look

-- which terminal one looks at after some pieces
abbrev pub look_at_end : Option Port → List Piece → Option Port
look_at_end look [] = look
look_at_end look (Piece.Said n ∷ pieces) = look_at_end (look_after look n) pieces
look_at_end look (Piece.Guest s ∷ pieces) = look_at_end look pieces
look_at_end look (Piece.Told t ∷ pieces) = look_at_end look pieces

-- one looks at the terminal of this port
abbrev pub is_looked_at : Option Port → ℕ → Bool
is_looked_at None port = false
is_looked_at (Some at) port = port == number_of_port at

-- no command line is open
abbrev pub is_looking : Option Port → Bool
is_looking None = false
is_looking (Some at) = true

-- each byte of the guest is seen at its terminal, and no line about the pair while a command line is open
abbrev pub AreSeen : Option Port → List Piece → Type 0
AreSeen look [] = Unit {0}
AreSeen look (Piece.Guest s ∷ pieces) = (is_looked_at look s.port ≡ true) × AreSeen look pieces
AreSeen look (Piece.Said n ∷ pieces) = AreSeen (look_after look n) pieces
AreSeen look (Piece.Told t ∷ pieces) = (is_looking look ≡ true) × AreSeen look pieces

-- ---- what is kept

-- what is kept of all terminals but this one
abbrev pub but_at : ℕ → List Shown → List Shown
but_at port shown = filter (λ s. not (s.port == port)) shown

-- the bytes of the terminal that one looks at, and what is not seen then
abbrev pub bytes_seen : Option Port → List Shown → List ℕ
bytes_seen None shown = []
bytes_seen (Some at) shown = shown_at (number_of_port at) shown

abbrev pub unseen : Option Port → List Shown → List Shown
unseen None shown = shown
unseen (Some at) shown = but_at (number_of_port at) shown

-- the same of one byte more
abbrev pub byte_seen : Option Port → Shown → List ℕ
byte_seen look s = if is_looked_at look s.port then s.byte ∷ [] else []

abbrev pub kept_with : Option Port → Shown → List Shown → List Shown
kept_with look s kept = if is_looked_at look s.port then kept else kept ++ s ∷ []

-- ---- a display

module _ {W N : Type 0} where
  -- nothing is kept of the terminal that one looks at
  abbrev pub IsClear : Display W N → Type 0
  IsClear d = (port : ℕ) → is_looked_at d.look port ≡ true → shown_at port d.kept.items ≡ []

  -- nothing that is known to have come is left in its rings
  abbrev pub IsEmpty : Display W N → Type 0
  IsEmpty d = (known_items d.said ≡ []) × (known_items d.told ≡ []) × (known_items d.shown ≡ [])

  -- nor is anything that could be written now: a line about the pair waits while a command line is open
  abbrev pub HasNoMore : Display W N → Type 0
  HasNoMore d = (known_items d.said ≡ []) × (is_looking d.look ≡ true → known_items d.told ≡ []) × (known_items d.shown ≡ [])

  -- What a display has written: what it was given, in order and once, but for what it keeps; contents are the bytes of its two writers.
  pub record Wrote (screen : W → Option (List ℕ)) (notes : N → Option (List ℕ)) (old new : Display W N) : Type 0 where
    pub pieces : List Piece
    pub accepted : List Shown
    pub bytes : Appends (screen old.screen) (screen new.screen) (bytes_of pieces)
    pub texts : Appends (notes old.notes) (notes new.notes) (texts_of pieces)
    pub came : received new.shown ≡ received old.shown ++ accepted
    pub guest : (port : ℕ) → shown_at port (guest_in pieces) ++ shown_at port new.kept.items ≡ shown_at port old.kept.items ++ shown_at port accepted
    pub said : received new.said ≡ received old.said ++ said_in pieces
    pub told : received new.told ≡ received old.told ++ told_in pieces
    pub seen : AreSeen old.look pieces
    pub look : new.look ≡ look_at_end old.look pieces
    pub clear : IsClear new
    pub same_shown : SameConsumer old.shown new.shown
    pub same_said : SameConsumer old.said new.said
    pub same_told : SameConsumer old.told new.told
