-- The escape sequences that a terminal's keys send (ECMA-48, and DEC's manuals for the VT100 and VT220), and what those keys do.
use Rattle.std.specs.Prelude.{ℕ, ◌==◌, ◌||◌, if◌then◌else◌, Option, None, Some}
use Rattle.console_terminal.specs.declared.edit.Edit.{Edit}

-- by the byte that ends a sequence without parameters: CUU A, CUD B, CUF C, CUB D, and what xterm sends for End, F, and Home, H
abbrev pub edit_of_final : ℕ → Option Edit
edit_of_final last =
    if last == 65 then Some Edit.RecallsEarlier else
    (if last == 66 then Some Edit.RecallsLater else
    (if last == 67 then Some Edit.GoesRight else
    (if last == 68 then Some Edit.GoesLeft else
    (if last == 70 then Some Edit.GoesToEnd else
    (if last == 72 then Some Edit.GoesToBegin else None)))))

-- by the digit before a tilde: Find or Home 1, Delete 3, Select or End 4; 7 and 8 are Home and End elsewhere
abbrev pub edit_of_number : ℕ → Option Edit
edit_of_number digit =
    if (digit == 49) || (digit == 55) then Some Edit.GoesToBegin else
    (if digit == 51 then Some Edit.Deletes else
    (if (digit == 52) || (digit == 56) then Some Edit.GoesToEnd else None))
