-- How many bodies of each host were taken lately, and how many were refused.
use Rattle.std.specs.Prelude.{ℕ, ◌+◌, ◌-◌, ◌^◌, min, nat_lt, Bool, false, if◌then◌else◌, List, replicate, slice_index_or, slice_set}
use Rattle.outside_switch.specs.declared.heard.BodyOutcome.{BodyOutcome}
use Rattle.outside_switch.specs.declared.heard.BodyOutcome.TheVariants as heard
use Rattle.outside_switch.specs.declared.flood.Came.{Came}
use Rattle.outside_switch.specs.declared.flood.Came.TheVariants.{Accepted, Nothing, Refused, Taken}
use Rattle.outside_switch.specs.declared.flood.Flood.{Flood}

-- what a host is cut off for is refused, and so is what comes after that
abbrev pub taken_if : Bool → Came
taken_if is_open = if is_open then Taken else Refused

abbrev pub accepted_if : Bool → Came
accepted_if is_open = if is_open then Accepted else Refused

abbrev pub came_of : BodyOutcome → Bool → Came
came_of heard.Nothing is_open = Nothing
came_of heard.Ended is_open = Nothing
came_of heard.Failed is_open = Refused
came_of (heard.Shown port byte) is_open = accepted_if is_open
came_of heard.Written is_open = accepted_if is_open
came_of _ is_open = taken_if is_open

-- ---- counts by places

abbrev pub one_more : ℕ → ℕ
one_more count = min (count + 1) (2 ^ 64 - 1)

abbrev pub count_at : List ℕ → ℕ → ℕ
count_at counts place = slice_index_or counts place 0

abbrev pub counted_one : List ℕ → ℕ → List ℕ
counted_one counts place = slice_set counts place (one_more (count_at counts place))

abbrev pub unheard : Flood
unheard = record { sent = replicate 256 0; refused = replicate 256 0; has_ticked = false }

-- one body of the host at a place was taken, or refused
abbrev pub sent_one : ℕ → Flood → Flood
sent_one place flood = record flood { sent = counted_one flood.sent place }

abbrev pub refused_one : ℕ → Flood → Flood
refused_one place flood = record flood { refused = counted_one flood.refused place }

-- what a body brought was accepted: that pays for eight others
abbrev pub accepted_one : ℕ → Flood → Flood
accepted_one place flood = record flood { sent = slice_set flood.sent place (count_at flood.sent place - 8) }

-- none of its bodies waits: in the turn after a tick it is counted anew
abbrev pub rested : ℕ → Flood → Flood
rested place flood = if flood.has_ticked then record flood { sent = slice_set flood.sent place 0 } else flood

abbrev pub ticked : Bool → Flood → Flood
ticked has_ticked flood = record flood { has_ticked = has_ticked }

-- nothing is counted yet
abbrev pub cleared : Flood → Flood
cleared flood = record flood { sent = replicate 256 0 }

-- a host has sent too much
abbrev pub has_flooded : Flood → ℕ → Bool
has_flooded flood place = nat_lt 32768 (count_at flood.sent place)
