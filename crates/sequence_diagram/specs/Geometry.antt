-- Where columns and lines are, in pixels.
use Rattle.std.specs.Prelude.{ℕ, ◌+◌, ◌-◌, ◌*◌, ◌/◌, ◌^◌, nat_lt, max, min, if◌then◌else◌}
use Rattle.sequence_diagram.specs.declared.geometry.TheConstants.{LEFT, LEAST_GAP, LINE, MOST_GAP, RIGHT, TOP, WIDTH}

-- how far two columns are apart: as far as the width lets them, but neither too near nor too far
abbrev pub gap_of : ℕ → ℕ
gap_of columns = max (min ((WIDTH - (LEFT + RIGHT)) / max (columns - 1) 1) MOST_GAP) LEAST_GAP

abbrev pub x_of : ℕ → ℕ → ℕ
x_of columns column = LEFT + gap_of columns * column

abbrev pub width_of : ℕ → ℕ
width_of columns = LEFT + gap_of columns * (columns - 1) + RIGHT

abbrev pub y_of : ℕ → ℕ
y_of line = TOP + LINE * line

-- a place beside a column, on the side of another column
abbrev pub beside : ℕ → ℕ → ℕ → ℕ
beside x other distance = if nat_lt x other then min (x + distance) (2 ^ 64 - 1) else x - distance
