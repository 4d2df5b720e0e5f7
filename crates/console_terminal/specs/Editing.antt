-- A line with a cursor: what each edit makes of it, and what is written so that a screen that shows it shows the line after it.
use Rattle.std.specs.Prelude.{ℕ, ◌+◌, ◌-◌, ◌/◌, ◌==◌, ◌||◌, ◌&&◌, Bool, false, min, not, nat_lt, if◌then◌else◌, List, [], ◌∷◌, ◌++◌, drop, insert, length, replicate, slice_get, take, Option, None, Some}
use Rattle.std.specs.List.{prefix_len, suffix_len}
use Rattle.console_terminal.specs.Completing.{common, completion_of, is_open_still}
use Rattle.console_terminal.specs.declared.edit.Edit.{Edit}
use Rattle.console_terminal.specs.declared.redraw.Redraw.{Redraw}
use Rattle.arrayvec.specs.ArrayVec.{ArrayVec}

-- how many bytes a command line has at most, and how many earlier ones are kept
abbrev pub most_bytes : ℕ
most_bytes = 80

abbrev pub most_lines : ℕ
most_lines = 32

-- the bytes of a line, and before which of them the cursor is: after all if it is as many
pub record CursorLine : Type 0 where
  pub bytes : List ℕ
  pub at : ℕ

abbrev pub no_bytes : CursorLine
no_bytes = record { bytes = []; at = 0 }

-- these bytes with the cursor after them
abbrev pub ending_in : List ℕ → CursorLine
ending_in bytes = record { bytes = bytes; at = length bytes }

-- ---- characters

-- a byte of a character in UTF-8 that is not its first one: 80 to BF
abbrev pub is_inner : ℕ → Bool
is_inner byte = byte / 64 == 2

-- how many bytes the character has that comes first, and the one that comes last; the bytes that are inner belong to the one before them
abbrev pub first_size : List ℕ → ℕ
first_size [] = 0
first_size (byte ∷ bytes) = prefix_len is_inner bytes + 1

abbrev pub last_size : List ℕ → ℕ
last_size bytes = min (suffix_len is_inner bytes + 1) (length bytes)

-- how many columns bytes have on a screen: one for each character
abbrev pub columns : List ℕ → ℕ
columns [] = 0
columns (byte ∷ bytes) = (if is_inner byte then 0 else 1) + columns bytes

-- where the character before the cursor begins, and where the one under it ends
abbrev pub left_of : CursorLine → ℕ
left_of l = l.at - last_size (take l.at l.bytes)

abbrev pub right_of : CursorLine → ℕ
right_of l = l.at + first_size (drop l.at l.bytes)

-- ---- edits

-- a byte comes in at the cursor, if there is room
abbrev pub added : ℕ → CursorLine → CursorLine
added byte l = if nat_lt (length l.bytes) most_bytes then record { bytes = insert l.bytes l.at byte; at = l.at + 1 } else l

-- the bytes between two places go
abbrev pub without : ℕ → ℕ → List ℕ → CursorLine
without begin end bytes = record { bytes = take begin bytes ++ drop end bytes; at = begin }

-- the character before the cursor goes
abbrev pub taken_back : CursorLine → CursorLine
taken_back l = without (left_of l) l.at l.bytes

-- the one under it goes
abbrev pub deleted : CursorLine → CursorLine
deleted l = without l.at (right_of l) l.bytes

abbrev pub to_left : CursorLine → CursorLine
to_left l = record { bytes = l.bytes; at = left_of l }

abbrev pub to_right : CursorLine → CursorLine
to_right l = record { bytes = l.bytes; at = right_of l }

abbrev pub to_begin : CursorLine → CursorLine
to_begin l = record { bytes = l.bytes; at = 0 }

abbrev pub to_end : CursorLine → CursorLine
to_end l = ending_in l.bytes

-- all before the cursor goes, or all from it on
abbrev pub without_front : CursorLine → CursorLine
without_front l = record { bytes = drop l.at l.bytes; at = 0 }

abbrev pub without_rest : CursorLine → CursorLine
without_rest l = record { bytes = take l.at l.bytes; at = l.at }

-- ---- completing

-- these bytes come in at the cursor, one after another
abbrev pub added_all : List ℕ → CursorLine → CursorLine
added_all [] l = l
added_all (byte ∷ bytes) l = added_all bytes (added byte l)

abbrev pub is_at_end : CursorLine → Bool
is_at_end l = not (nat_lt l.at (length l.bytes))

-- a space comes after a word if it is the only one
abbrev pub with_space : ℕ → CursorLine → CursorLine
with_space count l = if count == 1 then added 32 l else l

-- with the cursor at its end, a line is continued by what the words have in common
abbrev pub completed : CursorLine → CursorLine
completed l =
    if is_at_end l
    then with_space (completion_of l.bytes).count (added_all (completion_of l.bytes).tail l)
    else l

-- or the words are listed, if there are several and nothing is in common
abbrev pub lists : CursorLine → Bool
lists l = is_at_end l && is_open_still (completion_of l.bytes)

-- ---- earlier lines

-- the lines that are kept, the newest first: a line with no byte is not
abbrev pub kept_after : List ℕ → List (ArrayVec ℕ) → List (ArrayVec ℕ)
kept_after bytes past = if length bytes == 0 then past else record { items = bytes } ∷ take (most_lines - 1) past

abbrev pub bytes_in : Option (ArrayVec ℕ) → List ℕ
bytes_in None = []
bytes_in (Some line) = line.items

-- the line so many before the one that is typed; that one has no bytes again
abbrev pub line_before : ℕ → List (ArrayVec ℕ) → List ℕ
line_before back past = if back == 0 then [] else bytes_in (slice_get past (back - 1))

-- how many lines one is back after one step back, and after one forth
abbrev pub one_back : List (ArrayVec ℕ) → ℕ → ℕ
one_back past back = if nat_lt back (length past) then back + 1 else back

-- ---- an edit

-- how far back one is after an edit
abbrev pub back_after : Edit → List (ArrayVec ℕ) → ℕ → ℕ
back_after Edit.RecallsEarlier past back = one_back past back
back_after Edit.RecallsLater past back = back - 1
back_after edit past back = back

-- the line after it, if one is so far back then
abbrev pub line_after : Edit → List (ArrayVec ℕ) → ℕ → CursorLine → CursorLine
line_after (Edit.Adds byte) past back l = added byte l
line_after Edit.TakesBack past back l = taken_back l
line_after Edit.Deletes past back l = deleted l
line_after Edit.GoesLeft past back l = to_left l
line_after Edit.GoesRight past back l = to_right l
line_after Edit.GoesToBegin past back l = to_begin l
line_after Edit.GoesToEnd past back l = to_end l
line_after Edit.CutsFront past back l = without_front l
line_after Edit.CutsRest past back l = without_rest l
line_after Edit.Completes past back l = completed l
line_after Edit.RecallsEarlier past back l = ending_in (line_before back past)
line_after Edit.RecallsLater past back l = ending_in (line_before back past)

-- ---- what is written

-- whether the first byte is inner
abbrev pub begins_inner : List ℕ → Bool
begins_inner [] = false
begins_inner (byte ∷ bytes) = is_inner byte

-- How many bytes before the cursor stay: as many as are those of the new line, but for the last character of these if it ends otherwise. A
-- character whose next byte comes at the end of a line has gone to the terminal so far, and stays.
abbrev pub kept_of : ℕ → List ℕ → List ℕ → ℕ
kept_of count old new =
    if (count == length old) then count else
    (if begins_inner (drop count old) || begins_inner (drop count new) then count - last_size (take count new) else count)

abbrev pub kept_between : CursorLine → List ℕ → ℕ
kept_between old new = kept_of (common (take old.at old.bytes) new) old.bytes new

-- From the first byte that does not stay on the new line is written, and spaces where the old one was longer.
abbrev pub redrawn : CursorLine → CursorLine → Redraw
redrawn old new =
    let kept = kept_between old new.bytes in
    let blanks = columns old.bytes - columns new.bytes in
    record {
      back = columns (drop kept (take old.at old.bytes));
      text = record { items = drop kept new.bytes };
      blanks = blanks;
      left = blanks + columns (drop new.at new.bytes);
    }

-- so many BS, the text, so many spaces, and so many BS
abbrev pub redrawn_text : Redraw → List ℕ
redrawn_text r = replicate r.back 8 ++ (r.text.items ++ (replicate r.blanks 32 ++ replicate r.left 8))
