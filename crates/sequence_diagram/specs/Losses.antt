-- Where the cross is drawn of a message that is lost: on its way, and where it touches nothing.
use Rattle.std.specs.Prelude.{ℕ, ◌+◌, ◌-◌, ◌*◌, ◌/◌, ◌^◌, ◌&&◌, nat_le, nat_lt, not, max, min, Bool, if◌then◌else◌, List, [], ◌∷◌}
use Rattle.std.specs.Int.{abs_diff}
use Rattle.std.specs.List.{list_any}
use Rattle.sequence_diagram.specs.Plans.{x_in}
use Rattle.sequence_diagram.specs.declared.geometry.Point.{Point}
use Rattle.sequence_diagram.specs.declared.place.Lifeline.{Lifeline}
use Rattle.sequence_diagram.specs.declared.ways.Way.{Way}

-- sums and products stop at the greatest number
abbrev most : ℕ → ℕ
most n = min n (2 ^ 64 - 1)

-- so far to the side of a place on which another is
abbrev towards : ℕ → ℕ → ℕ → ℕ
towards from to far = if nat_lt from to then most (from + far) else from - far

-- how far down a way a height is, and how far right the way is there; above and below it, as at its ends
abbrev pub height_of : Way → ℕ
height_of way = max (way.to.y - way.from.y) 1

abbrev pub down_to : Way → ℕ → ℕ
down_to way y = min (y - way.from.y) (height_of way)

abbrev pub x_at : Way → ℕ → ℕ
x_at way y = towards way.from.x way.to.x (most (abs_diff way.from.x way.to.x * down_to way y) / height_of way)

-- a way touches a cross if it comes nearer to it than eight pixels, both down and to the side
abbrev pub touches : Point → Way → Bool
touches at way =
    not (nat_lt (most (at.y + 8)) way.from.y) && not (nat_lt way.to.y (at.y - 8))
    && nat_le (min (x_at way (at.y - 8)) (x_at way (most (at.y + 8)))) (most (at.x + 8))
    && nat_le (at.x - 8) (max (x_at way (at.y - 8)) (x_at way (most (at.y + 8))))

-- a column is too near if it is nearer than eighteen
abbrev pub is_near : List Lifeline → ℕ → Lifeline → Bool
is_near places x place = nat_lt (abs_diff (x_in places place) x) 18

abbrev pub is_free : List Lifeline → List Way → Point → Bool
is_free places ways at = not (list_any (touches at) ways) && not (list_any (is_near places at.x) places)

-- after so many hundredths of its way
abbrev pub x_after : ℕ → ℕ → ℕ → ℕ
x_after from aim hundredths = towards from aim (most (abs_diff from aim * hundredths) / 100)

-- a message ends after the first of these hundredths at which its cross touches nothing; after eighty if there is none
abbrev pub first_free : List Lifeline → List Way → Point → ℕ → List ℕ → ℕ
first_free places ways from aim [] = x_after from.x aim 80
first_free places ways from aim (reach ∷ reaches) =
    if is_free places ways (record { x = x_after from.x aim reach; y = from.y }) then x_after from.x aim reach
    else first_free places ways from aim reaches

abbrev pub end_of_loss : List Lifeline → List Way → Point → ℕ → ℕ
end_of_loss places ways from aim = first_free places ways from aim (90 ∷ 80 ∷ 70 ∷ 60 ∷ 50 ∷ 40 ∷ 30 ∷ [])
