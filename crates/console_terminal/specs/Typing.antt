-- What is typed at a console: what each byte does, and what many bytes come to.
use Rattle.std.specs.Prelude.{ℕ, ◌==◌, ◌&&◌, ◌||◌, Bool, nat_le, if◌then◌else◌, List, [], ◌∷◌, ◌++◌, length, Option, None, Some}
use Rattle.std.specs.Option.{option_map}
use Rattle.arrayvec.specs.ArrayVec.{ArrayVec}
use Rattle.console_terminal.specs.Commands.{order_of}
use Rattle.console_terminal.specs.Editing.{CursorLine, back_after, kept_after, line_after, lists, no_bytes}
use Rattle.console_terminal.specs.Sequences.{edit_of_final, edit_of_number}
use Rattle.console_terminal.specs.declared.command.Command.{Command}
use Rattle.console_terminal.specs.declared.command.Order.{Order}
use Rattle.console_terminal.specs.declared.desk.Act.{Act}
use Rattle.console_terminal.specs.declared.desk.Desk.{Desk}
use Rattle.console_terminal.specs.declared.edit.Edit.{Edit}
use Rattle.console_terminal.specs.declared.keys.Heard.{Heard}
use Rattle.console_terminal.specs.declared.port.Port.{Port}
use Rattle.console_terminal.specs.declared.keyboard.Stroke.{Stroke}
use Rattle.console_terminal.specs.declared.sequence.Sequence.{Sequence}

-- ---- one byte

-- A command line that is open: the line, how much of an escape sequence has come, and of how many lines before it one sees one.
pub record OpenLine : Type 0 where
  pub line : CursorLine
  pub sequence : Sequence
  pub back : ℕ

abbrev pub new_line : OpenLine
new_line = record { line = no_bytes; sequence = Sequence.Nothing; back = 0 }

abbrev pub has_none : OpenLine → Bool
has_none o = length o.line.bytes == 0

abbrev pub is_between : ℕ → ℕ → ℕ → Bool
is_between low high byte = nat_le low byte && nat_le byte high

-- the bytes that edit a command line
abbrev pub edited_in : ℕ → Act
edited_in byte =
    -- BS, DEL
    if (byte == 8) || (byte == 127) then Act.Edits Edit.TakesBack else
    -- Ctrl-A, Ctrl-E
    (if byte == 1 then Act.Edits Edit.GoesToBegin else
    (if byte == 5 then Act.Edits Edit.GoesToEnd else
    -- Tab
    (if byte == 9 then Act.Edits Edit.Completes else
    -- Ctrl-K, Ctrl-U
    (if byte == 11 then Act.Edits Edit.CutsRest else
    (if byte == 21 then Act.Edits Edit.CutsFront else
    -- what can be printed, and all bytes of other characters
    (if is_between 32 126 byte || nat_le 128 byte then Act.Edits (Edit.Adds byte) else Act.Nothing))))))

-- While a command line is open, and outside of an escape sequence: the first row that the byte fits.
abbrev pub edited : ℕ → Bool → ℕ → Act
edited escape is_empty byte =
    -- the escape key types itself if nothing is in the line
    if byte == escape then (if is_empty then Act.Key byte else Act.Nothing) else
    -- CR, LF
    (if (byte == 13) || (byte == 10) then Act.HandsOn else
    -- Ctrl-C
    (if byte == 3 then Act.Cancels else
    -- ESC
    (if byte == 27 then Act.Waits Sequence.Escape else edited_in byte)))

-- While none is open: any byte but the escape key is a key.
abbrev pub typed : ℕ → ℕ → Act
typed escape byte = if byte == escape then Act.Opens else Act.Key byte

-- After ESC: `[` and O begin a sequence, one more ESC is as one, and after any other byte it was no sequence, but left the line.
abbrev pub begun : ℕ → ℕ → Act
begun escape byte =
    if byte == 91 then Act.Waits Sequence.Control else
    (if byte == 79 then Act.Waits Sequence.Shift else
    (if byte == 27 then Act.Waits Sequence.Escape else typed escape byte))

-- what a key of the terminal does, if it is known
abbrev pub key_does : Option Edit → Act
key_does None = Act.Nothing
key_does (Some edit) = Act.Edits edit

-- a digit that comes first in a control sequence, or another parameter
abbrev pub parameter : Sequence → ℕ → Sequence
parameter Sequence.Control byte = if is_between 48 57 byte then Sequence.Digit byte else Sequence.Unknown
parameter sequence byte = Sequence.Unknown

-- the byte that ends a sequence
abbrev pub ended : Sequence → ℕ → Act
ended Sequence.Control byte = key_does (edit_of_final byte)
ended Sequence.Shift byte = key_does (edit_of_final byte)
ended (Sequence.Digit digit) byte = if byte == 126 then key_does (edit_of_number digit) else Act.Nothing
ended sequence byte = Act.Nothing

-- In a sequence: parameters and intermediate bytes, up to the byte that ends it. A byte that can be neither is none of its bytes.
abbrev pub within : ℕ → Bool → Sequence → ℕ → Act
within escape is_empty sequence byte =
    if is_between 32 63 byte then Act.Waits (parameter sequence byte) else
    (if is_between 64 126 byte then ended sequence byte else edited escape is_empty byte)

abbrev pub done_in : ℕ → Bool → Sequence → ℕ → Act
done_in escape is_empty Sequence.Nothing byte = edited escape is_empty byte
done_in escape is_empty Sequence.Escape byte = begun escape byte
done_in escape is_empty sequence byte = within escape is_empty sequence byte

-- no byte came for a while: ESC alone leaves the line, and what has begun of a sequence is forgotten
abbrev pub paused : Sequence → Act
paused Sequence.Escape = Act.Cancels
paused sequence = Act.Nothing

-- commands are listed, if the line cannot be completed since several begin as it does
abbrev pub listing : CursorLine → Act → Act
listing l (Act.Edits Edit.Completes) = if lists l then Act.Lists else Act.Edits Edit.Completes
listing l act = act

-- what that which is heard does, by the command line that is open
abbrev pub done_by : ℕ → Option OpenLine → Heard → Act
done_by escape None (Heard.Key byte) = typed escape byte
done_by escape (Some o) (Heard.Key byte) = listing o.line (done_in escape (has_none o) o.sequence byte)
done_by escape (Some o) Heard.Quiet = paused o.sequence
done_by escape line heard = Act.Nothing

-- the command line after it
abbrev pub after_edit : Edit → List (ArrayVec ℕ) → OpenLine → OpenLine
after_edit edit past o = record {
  line = line_after edit past (back_after edit past o.back) o.line;
  sequence = Sequence.Nothing;
  back = back_after edit past o.back;
}

abbrev pub in_sequence : Sequence → OpenLine → OpenLine
in_sequence sequence o = record { line = o.line; sequence = sequence; back = o.back }

abbrev pub open_after : Act → List (ArrayVec ℕ) → Option OpenLine → Option OpenLine
open_after (Act.Key byte) past line = None
open_after Act.Opens past line = Some new_line
open_after (Act.Edits edit) past line = option_map (after_edit edit past) line
open_after (Act.Waits sequence) past line = option_map (in_sequence sequence) line
open_after Act.Cancels past line = None
open_after Act.HandsOn past line = None
open_after Act.Lists past line = option_map (in_sequence Sequence.Nothing) line
open_after Act.Nothing past line = option_map (in_sequence Sequence.Nothing) line

-- the lines that are kept after it
abbrev pub past_after : Act → Option OpenLine → List (ArrayVec ℕ) → List (ArrayVec ℕ)
past_after Act.HandsOn (Some o) past = kept_after o.line.bytes past
past_after act line past = past

-- the command line of a desk, if one is open
abbrev pub line_of : Desk → Option OpenLine
line_of d = if d.is_open then Some (record { line = d.line; sequence = d.sequence; back = d.back }) else None

abbrev pub act_of : Desk → Heard → Act
act_of d heard = done_by d.escape (line_of d) heard

-- the order that is given: the command line, if it is carried out
abbrev pub order_by : Act → Option OpenLine → Order
order_by Act.HandsOn (Some o) = order_of o.line.bytes
order_by _ _ = Order.Nothing

-- the terminal that one is at after an order
abbrev pub port_after : Port → Order → Port
port_after port (Order.Command (Command.Terminal at)) = at
port_after port _ = port

-- ---- all that is heard

-- the terminal that one is at, the command line, if one is open, and those that were carried out
pub record Place : Type 0 where
  pub port : Port
  pub line : Option OpenLine
  pub past : List (ArrayVec ℕ)

abbrev pub place_of : Desk → Place
place_of d = record { port = d.port; line = line_of d; past = d.past.items }

abbrev pub order_at : ℕ → Place → Heard → Order
order_at escape p heard = order_by (done_by escape p.line heard) p.line

-- the place after a byte, or a pause
abbrev pub after : ℕ → Place → Heard → Place
after escape p heard = record {
  port = port_after p.port (order_at escape p heard);
  line = open_after (done_by escape p.line heard) p.past p.line;
  past = past_after (done_by escape p.line heard) p.line p.past;
}

abbrev pub after_all : ℕ → Place → List Heard → Place
after_all escape p [] = p
after_all escape p (heard ∷ more) = after_all escape (after escape p heard) more

-- the keys for the terminal of one port that a byte is, if one is at this port
abbrev pub strokes_by : Port → Port → Act → List Stroke
strokes_by Port.Zero Port.Zero (Act.Key byte) = Stroke.Key byte ∷ []
strokes_by Port.One Port.One (Act.Key byte) = Stroke.Key byte ∷ []
strokes_by _ _ _ = []

-- all keys for the terminal of this port among what is heard
abbrev pub strokes_at : Port → ℕ → Place → List Heard → List Stroke
strokes_at port escape p [] = []
strokes_at port escape p (heard ∷ more) =
    strokes_by port p.port (done_by escape p.line heard) ++ strokes_at port escape (after escape p heard) more

-- the command of an order, if it is one
abbrev pub command_in : Order → List Command
command_in (Order.Command command) = command ∷ []
command_in _ = []

-- all commands among what is heard
abbrev pub commands_at : ℕ → Place → List Heard → List Command
commands_at escape p [] = []
commands_at escape p (heard ∷ more) = command_in (order_at escape p heard) ++ commands_at escape (after escape p heard) more
