-- Where the columns and the lines of a run are in its picture.
use Rattle.std.specs.Prelude.{ℕ, ◌+◌, ◌-◌, ◌^◌, List, length, min}
use Rattle.sequence_diagram.specs.Geometry.{x_of, y_of}
use Rattle.sequence_diagram.specs.Lines.{line_at}
use Rattle.sequence_diagram.specs.Places.{column_of}
use Rattle.sequence_diagram.specs.declared.place.Lifeline.{Lifeline}

-- a picture has at most a thousand million columns, and as many lines
abbrev at_most : ℕ → ℕ
at_most n = min n 1000000000

abbrev pub width_in : List Lifeline → ℕ
width_in places = at_most (length places)

-- how far right the column of a place is, and how far down the line of an event
abbrev pub x_in : List Lifeline → Lifeline → ℕ
x_in places place = x_of (width_in places) (at_most (column_of places place))

abbrev pub y_in : List ℕ → ℕ → ℕ
y_in of place = y_of (at_most (line_at of place))

-- columns end sixteen pixels below the last of so many lines; what the terminals have accepted and the legend are below them
abbrev pub bottom_of : ℕ → ℕ
bottom_of lines = min (y_of (at_most (lines - 1)) + 16) (2 ^ 64 - 1)

abbrev pub height_over : ℕ → ℕ
height_over bottom = min (bottom + 92) (2 ^ 64 - 1)
